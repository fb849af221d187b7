use Rattle.std.proofs.Common.{not, refl, sym, ◌∙◌, ap, subst}
use Rattle.ctr_asking.specs.ctr_wishes.actions_Sites.{site_of}
use Rattle.ctr_model.specs.Refusals.{table_of}
use Rattle.ctr_versions.specs.Engine.{SessionHeld, IsCalm}
use Rattle.ctr_session_world.specs.World.{SessionsHeld}
use Rattle.ctr_looks.proofs.Finding.{answered}
use Rattle.ctr_session_world.proofs.Standing.{none_of, none_there, seat_of, some_of}
use Rattle.ctr_looks.proofs.Unrefused.{calm, refused_without}
use Rattle.ctr_looks.proofs.refusing.ask_act.Goals as goal

pub returns-then-is_none-clause-asked : goal.returns-then-is_none-clause-asked
returns-then-is_none-clause-asked g c = λ run opened b told sound next stuck look first.
    let a = c.args.store.now in
    let s = c.args.asker.now.s in
    let h : SessionsHeld = record { txns = c.args.asker.now.txns.now; locks = c.args.asker.now.locks.now } in
    refused_without g.D.Disk run opened a b h s c.args.statement.now next c.args.act.now look
    (none_of g.D.Disk run opened a b h s c.args.statement.now 0 next c.the_run_is_of_the_sessions.ensures.found c.requires.may.one (sym c.txn.ensures ∙ none_there c.txn.result.now (c.is_none.ensures ∙ ap not c.if-is_none.true)))

pub returns-in-Ok-clause-asked : goal.returns-in-Ok-clause-asked
returns-in-Ok-clause-asked g c = λ run opened b told sound next stuck look first.
    let a = c.args.store.now in
    let asker = c.args.asker.now in
    let s = asker.s in
    let h : SessionsHeld = record { txns = asker.txns.now; locks = asker.locks.now } in
    let statement = c.args.statement.now in
    let x = c.args.act.now in
    let one = c.requires.may.one in
    let its = some_of c.txn.result.now (c.is_none.ensures ∙ ap not c.if-is_none.false) in
    let there = sym c.txn.ensures ∙ its.1 in
    let seated = seat_of g.D.Disk run opened a b h s statement 0 next c.the_run_is_of_the_sessions.ensures.found one its.0 there in
    let seat = seated.0 in
    let still = subst (λ (q : SessionHeld). IsCalm q seat.t) seated.1 (calm g.D.Disk run opened a b h s statement next seat c.who_rolls_back_is_at_its_rollback.ensures.next x look first) in
    let k = c.a_session_in_a_world_may_look.ensures run opened a h next.mind next.world asker its.0 seat one there still refl refl stuck in
    let named = some_of (table_of statement) c.requires.of_table in
    answered g.D.Disk run opened a b asker statement next its.0 there seat seated.1 still x look k.0 k.1 k.2 k.3
    (c.a_table_that_is_free_is_undropped.ensures.undropped asker (site_of a.now) k.0) (c.a_table_that_is_free_is_undropped.ensures.only asker (site_of a.now) k.0) named.0 named.1
    c.in-Ok.answer (c.in-Ok.ensures.model told sound k.0) c.in-Ok.ensures.inside (λ n at. c.in-Ok.ensures.found n told sound k.0 at)
