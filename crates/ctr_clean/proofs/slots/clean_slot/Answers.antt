use Rattle.std.proofs.Common.{◌≡◌, Ok, Err, refl, subst}
use Rattle.ctr_disk.specs.declared.fault.StoreFault.TheVariants.{Fault}
use Rattle.ctr_pvs.specs.redo_States.{State}
use Rattle.ctr_record_laws.specs.Owed.{OwedByRevert, OwedByTrim}
use Rattle.ctr_record_effects.specs.States.{area_in}
use Rattle.ctr_record_effects.specs.Standing.{IsDatabaseState}
use Rattle.ctr_actions.specs.Actions.{Reverts, Trims}
use Rattle.ctr_pvs.proofs.walk_Joins.{answers_ok}
use Rattle.ctr_dead.specs.page_turns_Turns.{Reads}
use Rattle.ctr_dead.specs.page_turns_Acts.{ActsBy}
use Rattle.ctr_dead.specs.trim_Trimming.{trimming_by}
use Rattle.ctr_dead.proofs.trim_Reading.{reads_fault}
use Rattle.ctr_clean.specs.declared.choosing.SlotTask.{SlotTask}
use Rattle.ctr_clean.specs.declared.steps.Step.{Step}
use Rattle.ctr_clean.specs.declared.steps.Step.TheVariants.{Cleaned, Nothing}
use Rattle.ctr_clean.specs.Choosing.{passes_below}
use Rattle.ctr_clean.specs.Steps.{TaskAt}
use Rattle.ctr_clean.proofs.Looking.{trims_turn, owed_by}
use Rattle.ctr_clean.proofs.Headless.{owed_to_go}
use Rattle.ctr_clean.proofs.slots.clean_slot.Goals as goal

pub returns-in-Err-clause-turns : goal.returns-in-Err-clause-turns
returns-in-Err-clause-turns g c = Reads (reads_fault g.O.Origin.first g.D.Disk c.args.store.now c.find_task.new.store SlotTask Step c.in-Err.fault c.find_task.result c.in-Err.is c.find_task.ensures.leaves)

pub returns-in-Ok-Nothing-clause-turns : goal.returns-in-Ok-Nothing-clause-turns
returns-in-Ok-Nothing-clause-turns g c = Reads (answers_ok g.O.Origin.first g.D.Disk c.in-Ok-Nothing.field-0 Nothing c.args.store.now c.find_task.new.store c.in-Ok-Nothing.ensures.leaves)

-- ---- its head is taken

pub returns-in-Err-take_head-clause-turns : goal.returns-in-Err-take_head-clause-turns
returns-in-Err-take_head-clause-turns g c =
    let first = g.O.Origin.first in
    let mid = c.find_task.new.store in
    let fault = c.in-Err-take_head.fault in
    c.a_turn_goes_on.ensures.behind first c.args.store.now mid c.take_head.new.store c.in-Ok-Revert.field-0 (Err fault) c.in-Ok-Revert.ensures.leaves
    (c.a_turn_goes_on-2.ensures.failed first mid c.take_head.new.store fault c.take_head.result (Err fault) c.take_head.ensures.turns c.in-Err-take_head.is refl)

pub returns-in-Err-take_head-clause-refused : goal.returns-in-Err-take_head-clause-refused
returns-in-Err-take_head-clause-refused g c = λ told sound database among live.
    let s = c.args.store.now.now in
    let e = c.args.entry in
    let at = c.args.place in
    let chosen = subst (TaskAt c.args.low c.args.locks.now e at s) c.in-Ok-Revert.field-0-is (c.in-Ok-Revert.ensures.chooses told sound) in
    let owed = owed_to_go s e at among chosen.0 chosen.2 in
    subst (λ (u : State). IsDatabaseState u → OwedByRevert u.tables (area_in u) e at owed.0 → c.in-Err-take_head.fault ≡ Fault) (c.in-Ok-Revert.ensures.leaves.logs told sound).now
    (c.in-Err-take_head.ensures.refused e owed.0 told sound) database owed.1

pub returns-in-Ok-clause-turns : goal.returns-in-Ok-clause-turns
returns-in-Ok-clause-turns g c =
    let first = g.O.Origin.first in
    let mid = c.find_task.new.store in
    let new = c.take_head.new.store in
    c.a_turn_goes_on.ensures.behind first c.args.store.now mid new c.in-Ok-Revert.field-0 (Ok Cleaned) c.in-Ok-Revert.ensures.leaves
    (c.a_turn_goes_on-2.ensures.answered first mid new tt Cleaned c.in-Ok.ensures.turns)

pub returns-in-Ok-clause-cleans : goal.returns-in-Ok-clause-cleans
returns-in-Ok-clause-cleans g c = λ told sound database among live.
    let s = c.args.store.now.now in
    let e = c.args.entry in
    let at = c.args.place in
    let chosen = subst (TaskAt c.args.low c.args.locks.now e at s) c.in-Ok-Revert.field-0-is (c.in-Ok-Revert.ensures.chooses told sound) in
    let owed = owed_to_go s e at among chosen.0 chosen.2 in (
      record {
        action = Reverts e at owed.0;
        cleaning = tt;
        free = chosen.1;
        acts = subst (λ (u : State). IsDatabaseState u → OwedByRevert u.tables (area_in u) e at owed.0 → ActsBy s.tables.next (Reverts e at owed.0) u c.take_head.new.store.now)
            (c.in-Ok-Revert.ensures.leaves.logs told sound).now (c.in-Ok.ensures.acts s.tables.next e owed.0 told sound) database owed.1;
      },
      (refl, refl),
    )

-- ---- it is trimmed

pub returns-in-Err-trim_slot-clause-turns : goal.returns-in-Err-trim_slot-clause-turns
returns-in-Err-trim_slot-clause-turns g c =
    let first = g.O.Origin.first in
    let mid = c.find_task.new.store in
    let new = c.trim_slot.new.store in
    let fault = c.in-Err-trim_slot.fault in
    c.a_turn_goes_on.ensures.behind first c.args.store.now mid new c.in-Ok-Trim.field-0 (Err fault) c.in-Ok-Trim.ensures.leaves
    (c.a_turn_goes_on-2.ensures.failed first mid new fault c.trim_slot.result (Err fault) (trims_turn first g.D.Disk c.in-Ok-Trim.way c.args.place mid new c.trim_slot.result c.trim_slot.ensures.one) c.in-Err-trim_slot.is refl)

pub returns-in-Err-trim_slot-clause-refused : goal.returns-in-Err-trim_slot-clause-refused
returns-in-Err-trim_slot-clause-refused g c = λ told sound database among live.
    let s = c.args.store.now.now in
    let e = c.args.entry in
    let at = c.args.place in
    let way = c.in-Ok-Trim.way in
    let passes = passes_below c.args.low s.tables in
    let chosen = subst (TaskAt c.args.low c.args.locks.now e at s) c.in-Ok-Trim.field-0-is (c.in-Ok-Trim.ensures.chooses told sound) in
    subst (λ (u : State). IsDatabaseState u → OwedByTrim passes u.tables (area_in u) e at (trimming_by way) → c.in-Err-trim_slot.fault ≡ Fault) (c.in-Ok-Trim.ensures.leaves.logs told sound).now
    (c.in-Err-trim_slot.ensures.refused e passes told sound) database (owed_by c.args.low c.args.locks.now e at s way among chosen)

pub returns-in-Ok-trim_slot-clause-turns : goal.returns-in-Ok-trim_slot-clause-turns
returns-in-Ok-trim_slot-clause-turns g c =
    let first = g.O.Origin.first in
    let mid = c.find_task.new.store in
    let new = c.trim_slot.new.store in
    c.a_turn_goes_on.ensures.behind first c.args.store.now mid new c.in-Ok-Trim.field-0 (Ok Cleaned) c.in-Ok-Trim.ensures.leaves
    (c.a_turn_goes_on-2.ensures.answered first mid new tt Cleaned (trims_turn first g.D.Disk c.in-Ok-Trim.way c.args.place mid new (Ok tt) c.in-Ok-trim_slot.ensures.one))

pub returns-in-Ok-trim_slot-clause-cleans : goal.returns-in-Ok-trim_slot-clause-cleans
returns-in-Ok-trim_slot-clause-cleans g c = λ told sound database among live.
    let s = c.args.store.now.now in
    let e = c.args.entry in
    let at = c.args.place in
    let way = c.in-Ok-Trim.way in
    let passes = passes_below c.args.low s.tables in
    let chosen = subst (TaskAt c.args.low c.args.locks.now e at s) c.in-Ok-Trim.field-0-is (c.in-Ok-Trim.ensures.chooses told sound) in (
      record {
        action = Trims passes e at (trimming_by way);
        cleaning = (refl, live);
        free = chosen.1;
        acts = subst (λ (u : State). IsDatabaseState u → OwedByTrim passes u.tables (area_in u) e at (trimming_by way) → ActsBy s.tables.next (Trims passes e at (trimming_by way)) u c.trim_slot.new.store.now)
            (c.in-Ok-Trim.ensures.leaves.logs told sound).now (c.in-Ok-trim_slot.ensures.acts s.tables.next e passes told sound) database (owed_by c.args.low c.args.locks.now e at s way among chosen);
      },
      (refl, refl),
    )
