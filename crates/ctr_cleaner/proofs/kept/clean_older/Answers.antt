use Rattle.std.proofs.Common.{◌≡◌, true, refl, sym, subst}
use Rattle.std.specs.Prelude.{IfOk, IfErr}
use Rattle.ctr_disk.specs.declared.fault.StoreFault.{StoreFault}
use Rattle.ctr_disk.specs.declared.fault.StoreFault.TheVariants.{Fault}
use Rattle.ctr_area.specs.Chains.{older_places}
use Rattle.ctr_area.specs.Images.{is_live}
use Rattle.ctr_area.specs.Sound.{IsAmong}
use Rattle.ctr_walk.specs.redo_States.{State}
use Rattle.ctr_walk.specs.record_effects_States.{area_in}
use Rattle.ctr_walk.specs.record_effects_Standing.{IsDatabaseState}
use Rattle.ctr_emptying.specs.clean_Older.{FreesAt}
use Rattle.ctr_emptying.specs.cursor_Position.TheVariants.{Kept}
use Rattle.ctr_emptying.proofs.cursor_Leads.{older_place}
use Rattle.ctr_cleaner.specs.Finding.{IsFreeRow, HasNothingAt}
use Rattle.ctr_cleaner.specs.Turning.{heeding}
use Rattle.ctr_cleaner.specs.Parts.{DidAt, OpenOlderSaid, done_step}
use Rattle.ctr_cleaner.proofs.Joined.{part_told}
use Rattle.ctr_cleaner.proofs.Found.{step_err, frees_older, kept_taken}
use Rattle.ctr_cleaner.proofs.kept.clean_older.Goals as goal

pub returns-in-Err-clause-tries : goal.returns-in-Err-clause-tries
returns-in-Err-clause-tries g c = c.a_part_reads.ensures.unread _ g.O.Origin.first c.args.store.now c.is_open_older.new.store c.in-Err.fault c.is_open_older.result c.is_open_older.ensures.leaves c.in-Err.is

pub returns-in-Err-clause-refused : goal.returns-in-Err-clause-refused
returns-in-Err-clause-refused g c = λ told sound database its live. c.in-Err.ensures.refused told sound database (older_place (area_in c.args.store.now.now) c.args.entry c.args.place its.1)

pub returns-in-Ok-false-clause-tries : goal.returns-in-Ok-false-clause-tries
returns-in-Ok-false-clause-tries g c = c.a_part_reads.ensures.nothing _ g.O.Origin.first c.args.store.now c.is_open_older.new.store c.in-Ok-false.field-0 c.in-Ok-false.ensures.leaves

pub returns-in-Ok-false-clause-cleans : goal.returns-in-Ok-false-clause-cleans
returns-in-Ok-false-clause-cleans g c = λ spared may told sound database its live.
    let s = c.args.store.now.now in
    let e = c.args.entry in
    let q = c.args.place in
    let locks = c.args.locks.now in
    let said = subst (OpenOlderSaid locks e q s) c.in-Ok-false.field-0-test (c.in-Ok-false.ensures.tells told sound (kept_taken s e q its)) in
    ((c.in-Ok-false.ensures.leaves.logs told sound).now, λ lives free loose. said loose.used free)

pub returns-in-Ok-true-clause-tries : goal.returns-in-Ok-true-clause-tries
returns-in-Ok-true-clause-tries g c =
    let first = g.O.Origin.first in
    let mid = c.is_open_older.new.store in
    let new = c.free_older_at.new.store in
    let does = c.free_older_at.ensures in
    let r = c.free_older_at.result in
    c.a_part_reads.ensures.behind _ first c.args.store.now mid new c.in-Ok-true.field-0 c.stepped.result c.in-Ok-true.ensures.leaves
    (part_told first g.D.Disk _ mid new (done_step r) c.stepped.result c.stepped.result c.stepped.ensures refl (c.a_step_is_a_part.ensures.step first mid new r does.turns does.numbers does.left does.counted))

pub returns-in-Ok-true-clause-cleans : goal.returns-in-Ok-true-clause-cleans
returns-in-Ok-true-clause-cleans g c = λ spared may told sound database its live.
    let s = c.args.store.now.now in
    let new = c.free_older_at.new.store.now in
    let e = c.args.entry in
    let q = c.args.place in
    let locks = c.args.locks.now in
    let r = c.free_older_at.result in
    let same = (c.in-Ok-true.ensures.leaves.logs told sound).now in
    let said = subst (OpenOlderSaid locks e q s) c.in-Ok-true.field-0-test (c.in-Ok-true.ensures.tells told sound (kept_taken s e q its)) in
    let did : IfOk r (FreesAt c.args.low locks e q s new) = subst (λ (u : State). IsDatabaseState u → IsAmong q (older_places (area_in u) e) → is_live ((area_in u).title e) ≡ true → IfOk r (FreesAt c.args.low locks e q u new)) same
    (c.free_older_at.ensures.cleans told sound) database (older_place (area_in s) e q its.1) live in
    subst (λ a. IfOk a (DidAt (heeding c.args.low locks spared may) (Kept e q) (HasNothingAt (IsFreeRow locks s) c.args.low (Kept e q) s) s new)) (sym c.stepped.ensures) (frees_older c.args.low locks spared e may q s new live said r did)

pub returns-in-Ok-true-clause-refused : goal.returns-in-Ok-true-clause-refused
returns-in-Ok-true-clause-refused g c = λ told sound database its live.
    let s = c.args.store.now.now in
    let e = c.args.entry in
    let q = c.args.place in
    let r = c.free_older_at.result in
    let same = (c.in-Ok-true.ensures.leaves.logs told sound).now in
    subst (λ a. IfErr a (λ (f : StoreFault). f ≡ Fault)) (sym c.stepped.ensures) (step_err (λ (f : StoreFault). f ≡ Fault) r
    (subst (λ (u : State). IsDatabaseState u → IsAmong q (older_places (area_in u) e) → is_live ((area_in u).title e) ≡ true → IfErr r (λ (f : StoreFault). f ≡ Fault)) same
    (c.free_older_at.ensures.refused told sound) database (older_place (area_in s) e q its.1) live))
