use Rattle.std.proofs.Common.{ℕ, Some, refl, sym, ◌∙◌, ap, subst}
use Rattle.std.specs.Prelude.{IfOk, slice_get}
use Rattle.std.proofs.lemmas.Bool.{false≢true}
use Rattle.ctr_types.specs.declared.statement.Statement.{Statement}
use Rattle.ctr_types.specs.declared.statement.Statement.TheVariants as st
use Rattle.ctr_types.specs.declared.tape.Act.TheVariants as act
use Rattle.ctr_model.specs.declared.state.State.{State}
use Rattle.ctr_model.specs.Refusals.{creates}
use Rattle.ctr_model.specs.Tape.{acts_of}
use Rattle.ctr_asking.specs.declared.asker.Answer.{Answer}
use Rattle.ctr_asking.specs.declared.asker.Answer.TheVariants as answer
use Rattle.ctr_session_world.specs.World.{SessionsHeld}
use Rattle.ctr_session_world.specs.Told.{IsIdleIn, IsNextOf, IsActTold}
use Rattle.ctr_looks.specs.Asked.{IsAsked}
use Rattle.ctr_session_world.proofs.Going.{goes, goes_told, if_ok, rests_read}
use Rattle.ctr_session_world.proofs.Ready.{leaves_behind, ready_read, stands_still}
use Rattle.ctr_looks.proofs.Staying.{goes_free, goes_stands, idle_free}
use Rattle.ctr_session_world.proofs.Disks.{disk_behind}
use Rattle.ctr_looks.proofs.Leaving.{read_done, read_failed}
use Rattle.ctr_looks.proofs.selecting.read.Goals as goal

-- ---- what is left of the sessions

pub returns-in-Refused-clause-over : goal.returns-in-Refused-clause-over
returns-in-Refused-clause-over g c =
    let leaves = c.in-Ok.ensures.leaves in
    (ready_read c.args.s c.args.txns.now c.args.store.now c.ask_act.new.store leaves.keeps leaves.going c.requires.may.stand, λ unasked. unasked)

pub returns-in-None-clause-over : goal.returns-in-None-clause-over
returns-in-None-clause-over g c =
    let leaves = c.in-Ok.ensures.leaves in
    (ready_read c.args.s c.args.txns.now c.args.store.now c.ask_act.new.store leaves.keeps leaves.going c.requires.may.stand, λ unasked. unasked)

pub read_found-requires-clause-may : goal.read_found-requires-clause-may
read_found-requires-clause-may g c =
    let a = c.args.store.now in
    let m = c.ask_act.new.store in
    let may = c.requires.may in
    let leaves = c.in-Ok.ensures.leaves in
    record { one = may.one; stand = stands_still c.args.txns.now a m leaves.keeps.meta may.stand; room = c.room_is_still_there.ensures.behind 0 0 a m leaves.keeps leaves.going may.room }

pub returns-in-Some-clause-over : goal.returns-in-Some-clause-over
returns-in-Some-clause-over g c = leaves_behind c.read_found.result c.args.s c.args.txns.now c.args.txns.now c.args.store.now c.ask_act.new.store c.read_found.new.store c.in-Ok.ensures.leaves.keeps c.read_found.ensures.over

-- ---- what is told

pub returns-in-Refused-clause-told : goal.returns-in-Refused-clause-told
returns-in-Refused-clause-told g c = λ run opened told sound next stuck idle.
    let a = c.args.store.now in
    let m = c.ask_act.new.store in
    let s = c.args.s in
    let statement = c.args.statement.now in
    let h : SessionsHeld = record { txns = c.args.txns.now; locks = c.args.locks.now } in
    let first = λ (state : State) (r : ℕ). ap (λ (q : Statement). slice_get (acts_of state r q) 0) c.in-Select.is in
    let rested = rests_read g.O.Origin.first g.D.Disk a m c.in-Ok.answer told sound c.in-Ok.ensures.leaves (c.rests.ensures told sound c.in-Ok.ensures.leaves.going) in
    c.a_refused_look_is_told.ensures run opened a m h s statement next act.Read tt first c.in-Refused.refusal
    (subst (λ q. IsAsked next act.Read q) c.in-Refused.is (c.in-Ok.ensures.asked run opened m told sound next stuck tt first)) rested

pub returns-in-None-clause-told : goal.returns-in-None-clause-told
returns-in-None-clause-told g c = λ run opened told sound next stuck idle.
    let m = c.ask_act.new.store in
    let first = λ (state : State) (r : ℕ). ap (λ (q : Statement). slice_get (acts_of state r q) 0) c.in-Select.is in
    absurd (false≢true (sym (ap creates c.in-Select.is) ∙ (subst (λ o. IsAsked next act.Read (answer.Free o)) c.in-None.is (subst (λ q. IsAsked next act.Read q) c.in-Free.is (c.in-Ok.ensures.asked run opened m told sound next stuck tt first))).0))

pub returns-in-Some-clause-told : goal.returns-in-Some-clause-told
returns-in-Some-clause-told g c = λ run opened told sound next stuck idle.
    let a = c.args.store.now in
    let m = c.ask_act.new.store in
    let b = c.read_found.new.store in
    let s = c.args.s in
    let h : SessionsHeld = record { txns = c.args.txns.now; locks = c.args.locks.now } in
    let now : SessionsHeld = record { txns = c.args.txns.now; locks = c.read_found.new.locks } in
    let first = λ (state : State) (r : ℕ). ap (λ (q : Statement). slice_get (acts_of state r q) 0) c.in-Select.is in
    let rested = rests_read g.O.Origin.first g.D.Disk a m c.in-Ok.answer told sound c.in-Ok.ensures.leaves (c.rests.ensures told sound c.in-Ok.ensures.leaves.going) in
    let asked = subst (λ o. IsAsked next act.Read (answer.Free o)) c.in-Some.is (subst (λ q. IsAsked next act.Read q) c.in-Free.is (c.in-Ok.ensures.asked run opened b told sound next stuck tt first)) in
    let later = c.read_found.ensures.disk.later in
    let select = st.Select c.in-Select.name c.in-Select.at in
    subst (λ (q : Statement). (next : IsNextOf g.D.Disk run opened a b h s q 0) → IsAsked next act.Read (answer.Free (Some c.in-Some.entry)) → IsIdleIn run next.mind s
    → IfOk c.read_found.result (IsActTold next now act.Read)) (sym c.in-Select.is)
    (λ next asked idle.
    let keeps = c.pages_that_are_read_keep_a_world.ensures run opened a m next.mind next.world.keeps rested in
    let free = asked.0 in
    if_ok c.read_found.result (λ r its. (goes_told g.D.Disk run opened a m b h s select 0 next rested keeps later now act.Read r its).0)
    (c.read_found.ensures.told run opened (idle_free g.D.Disk run opened a b h s select 0 next act.Read free idle).0 told sound (goes g.D.Disk run opened a m b h s select 0 next rested keeps later) (goes_free g.D.Disk run opened a m b h s select 0 next rested keeps later act.Read free)
    (goes_stands g.D.Disk run opened a m b h s select 0 next rested keeps later act.Read free c.in-Select.name c.in-Some.entry (asked.1 c.in-Select.name refl)) (idle_free g.D.Disk run opened a b h s select 0 next act.Read free idle).1))
    next asked idle

-- ---- what is left of the disk

pub returns-in-Err-clause-disk : goal.returns-in-Err-clause-disk
returns-in-Err-clause-disk g c = read_failed g.O.Origin.first g.D.Disk Answer c.args.store.now c.ask_act.new.store c.in-Err.fault c.in-Err.ensures.leaves

pub returns-in-Refused-clause-disk : goal.returns-in-Refused-clause-disk
returns-in-Refused-clause-disk g c = read_done g.O.Origin.first g.D.Disk c.args.store.now c.ask_act.new.store c.in-Ok.answer _ c.in-Ok.ensures.leaves

pub returns-in-None-clause-disk : goal.returns-in-None-clause-disk
returns-in-None-clause-disk g c = read_done g.O.Origin.first g.D.Disk c.args.store.now c.ask_act.new.store c.in-Ok.answer _ c.in-Ok.ensures.leaves

pub returns-in-Some-clause-disk : goal.returns-in-Some-clause-disk
returns-in-Some-clause-disk g c = disk_behind g.O.Origin.first g.D.Disk c.args.store.now c.ask_act.new.store c.read_found.new.store c.in-Ok.answer _ c.in-Ok.ensures.leaves c.read_found.ensures.disk
