use Rattle.std.proofs.Common.{◌≡◌, Bool, true, Result, Ok, Err, subst}
use Rattle.std.specs.Prelude.{IfOk, IfErr}
use Rattle.ctr_disk.specs.declared.fault.StoreFault.{StoreFault}
use Rattle.ctr_disk.specs.declared.fault.StoreFault.TheVariants.{Fault}
use Rattle.ctr_pvs.specs.redo_States.{State}
use Rattle.ctr_page.specs.declared.rows.Place.{Place}
use Rattle.ctr_area.specs.Chains.{slot_places}
use Rattle.ctr_area.specs.Sound.{IsAmong, IsUsedSlot}
use Rattle.ctr_record_effects.specs.States.{area_in}
use Rattle.ctr_record_effects.specs.Standing.{IsDatabaseState}
use Rattle.ctr_dead.proofs.trim_Reading.{reads_fault}
use Rattle.ctr_clean.specs.Choosing.{passes_below}
use Rattle.ctr_clean.specs.Steps.{Locks}
use Rattle.ctr_clean.specs.declared.cutting.CutFound.{CutFound}
use Rattle.ctr_clean.specs.declared.cutting.CutFound.TheVariants.{Behind, Nowhere, Further}
use Rattle.ctr_clean.specs.Cutting.{IsCutAlong, GoesBehind, CutsBehind}
use Rattle.ctr_clean.proofs.Resting.{reads_on}
use Rattle.ctr_clean.proofs.cutting.cut_place.Goals as goal

-- where the chain off a slot may be cut, the slot's may be, by what is known of the slot
cut_by : (low : _) (locks : Locks) (e : _) (at : Place) (s : State) → IsAmong at (slot_places (area_in s) e) → GoesBehind low locks e at s true → (result : Result CutFound StoreFault)
    → IfOk result (IsCutAlong (passes_below low s.tables) (area_in s) ((area_in s).slot at).pointer) → IfOk result (CutsBehind low locks e at s)
cut_by low locks e at s among goes (Ok (Behind q)) found = (goes.1, record { used = (among, goes.0); head = goes.2; previous = goes.3; first = found.0; some = found.1 })
cut_by low locks e at s among goes (Ok Nowhere) none = λ unlocked q owed. none q owed.first owed.some
cut_by low locks e at s among goes (Ok Further) unseen = (goes, unseen)
cut_by low locks e at s among goes (Err f) ends = tt

pub returns-in-Err-clause-leaves : goal.returns-in-Err-clause-leaves
returns-in-Err-clause-leaves g c = reads_fault g.O.Origin.first g.D.Disk c.args.store.now c.behind_slot.new.store Bool CutFound c.in-Err.fault c.behind_slot.result c.in-Err.is c.behind_slot.ensures.leaves

pub returns-in-Ok-false-clause-chooses : goal.returns-in-Ok-false-clause-chooses
returns-in-Ok-false-clause-chooses g c = λ told sound database among.
    subst (GoesBehind c.args.low c.args.locks.now c.args.entry c.args.place c.args.store.now.now) c.in-Ok-false.field-0-test (c.in-Ok-false.ensures.chooses told sound)

pub returns-in-Ok-true-clause-chooses : goal.returns-in-Ok-true-clause-chooses
returns-in-Ok-true-clause-chooses g c = λ told sound database among.
    let s = c.args.store.now.now in
    let e = c.args.entry in
    let at = c.args.place in
    let goes = subst (GoesBehind c.args.low c.args.locks.now e at s) c.in-Ok-true.field-0-test (c.in-Ok-true.ensures.chooses told sound) in
    cut_by c.args.low c.args.locks.now e at s among goes c.cut_off.result
    (subst (λ (u : State). IsDatabaseState u → IsUsedSlot (area_in u) e at → IfOk c.cut_off.result (IsCutAlong (passes_below c.args.low u.tables) (area_in u) ((area_in u).slot at).pointer)) (c.in-Ok-true.ensures.leaves.logs told sound).now
    (c.cut_off.ensures.tells e told sound) database (among, goes.0))

pub returns-in-Ok-true-clause-leaves : goal.returns-in-Ok-true-clause-leaves
returns-in-Ok-true-clause-leaves g c = reads_on g.O.Origin.first g.D.Disk c.in-Ok-true.field-0 c.args.store.now c.behind_slot.new.store c.cut_off.new.store c.cut_off.result c.in-Ok-true.ensures.leaves c.cut_off.ensures.leaves

pub returns-in-Ok-true-clause-refused : goal.returns-in-Ok-true-clause-refused
returns-in-Ok-true-clause-refused g c = λ told sound database among.
    let s = c.args.store.now.now in
    let e = c.args.entry in
    let at = c.args.place in
    let goes = subst (GoesBehind c.args.low c.args.locks.now e at s) c.in-Ok-true.field-0-test (c.in-Ok-true.ensures.chooses told sound) in
    subst (λ (u : State). IsDatabaseState u → IsUsedSlot (area_in u) e at → IfErr c.cut_off.result (λ f. f ≡ Fault)) (c.in-Ok-true.ensures.leaves.logs told sound).now (c.cut_off.ensures.refused e told sound) database (among, goes.0)
