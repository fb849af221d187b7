use Rattle.std.proofs.Common.{Some, refl, sym, ◌∙◌, ap, subst}
use Rattle.ctr_types.specs.declared.statement.Statement.TheVariants as st
use Rattle.ctr_types.specs.declared.tape.Act.TheVariants as act
use Rattle.ctr_types.specs.declared.tape.Refusal.TheVariants as refusal
use Rattle.ctr_types.specs.declared.tape.Reply.TheVariants as reply
use Rattle.ctr_writing.specs.ctr_session_world.kept_Turns.{state_now}
use Rattle.ctr_writing.specs.ctr_session_world.txn_Held.{TxnsHeld}
use Rattle.ctr_writing.specs.ctr_session_world.txn_Steps.{txn_begun}
use Rattle.ctr_writing.specs.ctr_session_world.Ready.{LeavesReady, StaysUnasked}
use Rattle.ctr_writing.specs.ctr_session_world.World.{SessionsHeld}
use Rattle.ctr_writing.specs.ctr_session_world.Told.{IsActTold}
use Rattle.ctr_writing.proofs.ctr_session_world.Standing.{comes, none_there, seat_of, some_of}
use Rattle.ctr_writing.proofs.ctr_session_world.Ready.{others_set, ready_as_was, ready_here, stands_with, unasked_set}
use Rattle.ctr_writing.proofs.ctr_session_world.Resting.{rests_here, refused_told}
use Rattle.ctr_control.proofs.Begun.{refused_inside, outside, is_answered, begins, wants, begun_told}
use Rattle.ctr_control.proofs.beginning.begin.Goals as goal

-- ---- what is left of the sessions

pub returns-then-is_some-clause-over : goal.returns-then-is_some-clause-over
returns-then-is_some-clause-over g c = λ stand going. (ready_as_was c.args.s c.args.txns.now c.args.store.now stand going, λ unasked. unasked)

pub returns-in-Ok-clause-over : goal.returns-in-Ok-clause-over
returns-in-Ok-clause-over g c = λ stand going.
    let s = c.args.s in
    let old = c.args.txns.now in
    let new = c.begin.new.self in
    let v = c.args.store.now in
    let t = Some (txn_begun c.meta.result.now.tables old) in (
      ready_here s old new v (stands_with old new v c.in-Ok.ensures.numbers c.in-Ok.ensures.items stand) (others_set s t old new c.requires.one c.in-Ok.ensures.sets) going,
      unasked_set s t old new c.requires.one c.counts_sessions.ensures c.in-Ok.ensures.sets (λ unasked. refl),
    )

pub returns-in-Err-clause-over : goal.returns-in-Err-clause-over
returns-in-Err-clause-over g c = λ stand going.
    let s = c.args.s in
    let old = c.args.txns.now in
    let v = c.args.store.now in
    subst (λ (h : TxnsHeld). LeavesReady s old h v v × StaysUnasked s old h) (sym c.in-Err.ensures.err) (ready_as_was s old v stand going, λ unasked. unasked)

-- ---- what is told

pub returns-then-is_some-clause-told : goal.returns-then-is_some-clause-told
returns-then-is_some-clause-told g c = λ run opened locks tells sound going next.
    let a = c.args.store.now in
    let s = c.args.s in
    let h : SessionsHeld = record { txns = c.args.txns.now; locks = locks } in
    let rested = rests_here g.D.Disk a (c.rests.ensures tells sound going) in
    let has = some_of c.txn.result.now (sym c.is_some.ensures ∙ c.if-is_some.true) in
    let seated = seat_of g.D.Disk run opened a a h s st.Begin 0 next c.the_run_is_of_the_sessions.ensures.found c.requires.one has.0 (sym c.txn.ensures ∙ has.1) in
    let seat = seated.0 in
    let allowed = refused_inside g.D.Disk run opened a a c.args.txns.now locks s next c.requires.one c.the_run_is_of_the_sessions.ensures.found seat.t seat.is_t in
    let come = comes g.D.Disk run opened a a h s st.Begin 0 next act.Begin (reply.Refused refusal.InTransaction) refl tt allowed in
    refused_told g.D.Disk run opened a a h s st.Begin 0 next act.Begin refusal.InTransaction rested
    (c.a_refusal_is_told.ensures.inside run opened a a next.mind s (record { keeps = next.world.keeps; seat = seat; e = next.e; at_end = next.at_end }) act.Begin refusal.InTransaction come rested)

pub returns-in-Ok-clause-told : goal.returns-in-Ok-clause-told
returns-in-Ok-clause-told g c = λ run opened locks tells sound going next.
    let a = c.args.store.now in
    let s = c.args.s in
    let old = c.args.txns.now in
    let h : SessionsHeld = record { txns = old; locks = locks } in
    let finds = c.the_run_is_of_the_sessions.ensures.found in
    let one = c.requires.one in
    let rested = rests_here g.D.Disk a (c.rests.ensures tells sound going) in
    let none = sym c.txn.ensures ∙ none_there c.txn.result.now (sym c.is_some.ensures ∙ c.if-is_some.false) in
    let out = outside g.D.Disk run opened a a old locks s next one finds none in
    let n = (state_now run next.mind).answered in
    let come = comes g.D.Disk run opened a a h s st.Begin 0 next act.Begin (reply.Began n) refl tt (begins g.D.Disk run opened a a old locks s next one finds none n refl) in
    let keeps = c.a_begin_is_told.ensures run opened a a next.mind s (record { keeps = next.world.keeps; none = out; e = next.e; at_end = next.at_end }) come rested in
    let told = begun_told g.D.Disk run opened a a old locks s next one finds none c.begin.new.self c.meta.result.now.tables (ap (λ m. m.tables) c.meta.ensures.tables ∙ c.meta.ensures.now tells sound going)
    c.in-Ok.ensures.sets c.in-Ok.ensures.numbers (λ t sets. c.the_run_is_of_the_sessions.ensures.sets s t old c.begin.new.self one c.counts_sessions.ensures sets) c.key_locks_show.ensures.begin refl keeps in
    subst (λ m. IsActTold next (record { txns = c.begin.new.self; locks = locks }) act.Begin (reply.Began m))
    (is_answered g.D.Disk run opened a a old locks s next one finds none ∙ sym c.in-Ok.ensures.number) told

pub returns-in-Err-clause-told : goal.returns-in-Err-clause-told
returns-in-Err-clause-told g c = λ run opened locks tells sound going next.
    let a = c.args.store.now in
    let s = c.args.s in
    let old = c.args.txns.now in
    let h : SessionsHeld = record { txns = old; locks = locks } in
    let finds = c.the_run_is_of_the_sessions.ensures.found in
    let one = c.requires.one in
    let rested = rests_here g.D.Disk a (c.rests.ensures tells sound going) in
    let none = sym c.txn.ensures ∙ none_there c.txn.result.now (sym c.is_some.ensures ∙ c.if-is_some.false) in
    let out = outside g.D.Disk run opened a a old locks s next one finds none in
    let come = comes g.D.Disk run opened a a h s st.Begin 0 next act.Begin (reply.Refused refusal.OutOfMemory) refl tt (wants g.D.Disk run opened a a old locks s next one finds none) in
    let keeps = c.a_refusal_is_told.ensures.outside run opened a a next.mind s (record { keeps = next.world.keeps; none = out; e = next.e; at_end = next.at_end }) act.Begin refusal.OutOfMemory come rested in
    subst (λ t. IsActTold next (record { txns = t; locks = locks }) act.Begin (reply.Refused refusal.OutOfMemory)) (sym c.in-Err.ensures.err)
    (refused_told g.D.Disk run opened a a h s st.Begin 0 next act.Begin refusal.OutOfMemory rested keeps)
