use Rattle.std.proofs.Common.{◌≡◌, Bool, Ok, Err, refl, subst}
use Rattle.ctr_disk.specs.declared.fault.StoreFault.TheVariants.{Fault}
use Rattle.ctr_pvs.specs.redo_States.{State}
use Rattle.ctr_record_laws.specs.Owed.{OwedByRevert}
use Rattle.ctr_record_effects.specs.States.{area_in}
use Rattle.ctr_record_effects.specs.Standing.{IsDatabaseState}
use Rattle.ctr_actions.specs.Actions.{Reverts}
use Rattle.ctr_pvs.proofs.walk_Joins.{answers_ok}
use Rattle.ctr_dead.specs.page_turns_Turns.{Reads}
use Rattle.ctr_dead.specs.page_turns_Acts.{ActsBy}
use Rattle.ctr_dead.proofs.trim_Reading.{reads_fault}
use Rattle.ctr_clean.specs.declared.steps.Step.{Step}
use Rattle.ctr_clean.specs.declared.steps.Step.TheVariants.{Cleaned, Nothing}
use Rattle.ctr_clean.specs.Steps.{GoesAt}
use Rattle.ctr_clean.proofs.Headless.{owed_to_go}
use Rattle.ctr_clean.proofs.reverting.revert_at.Goals as goal

pub returns-in-Err-clause-turns : goal.returns-in-Err-clause-turns
returns-in-Err-clause-turns g c = Reads (reads_fault g.O.Origin.first g.D.Disk c.args.store.now c.goes_at.new.store Bool Step c.in-Err.fault c.goes_at.result c.in-Err.is c.goes_at.ensures.leaves)

pub returns-in-Ok-false-clause-turns : goal.returns-in-Ok-false-clause-turns
returns-in-Ok-false-clause-turns g c = Reads (answers_ok g.O.Origin.first g.D.Disk c.in-Ok-false.field-0 Nothing c.args.store.now c.goes_at.new.store c.in-Ok-false.ensures.leaves)

pub returns-in-Err-take_head-clause-turns : goal.returns-in-Err-take_head-clause-turns
returns-in-Err-take_head-clause-turns g c =
    let first = g.O.Origin.first in
    let mid = c.goes_at.new.store in
    let fault = c.in-Err-take_head.fault in
    c.a_turn_goes_on.ensures.behind first c.args.store.now mid c.take_head.new.store c.in-Ok-true.field-0 (Err fault) c.in-Ok-true.ensures.leaves
    (c.a_turn_goes_on-2.ensures.failed first mid c.take_head.new.store fault c.take_head.result (Err fault) c.take_head.ensures.turns c.in-Err-take_head.is refl)

pub returns-in-Err-take_head-clause-refused : goal.returns-in-Err-take_head-clause-refused
returns-in-Err-take_head-clause-refused g c = λ told sound database among.
    let s = c.args.store.now.now in
    let e = c.args.entry in
    let at = c.args.place in
    let chosen = subst (λ b. GoesAt c.args.locks.now e at s b) c.in-Ok-true.field-0-test (c.in-Ok-true.ensures.chooses told sound) in
    let owed = owed_to_go s e at among chosen.0 chosen.2 in
    subst (λ (u : State). IsDatabaseState u → OwedByRevert u.tables (area_in u) e at owed.0 → c.in-Err-take_head.fault ≡ Fault) (c.in-Ok-true.ensures.leaves.logs told sound).now
    (c.in-Err-take_head.ensures.refused e owed.0 told sound) database owed.1

pub returns-in-Ok-clause-turns : goal.returns-in-Ok-clause-turns
returns-in-Ok-clause-turns g c =
    let first = g.O.Origin.first in
    let mid = c.goes_at.new.store in
    let new = c.take_head.new.store in
    c.a_turn_goes_on.ensures.behind first c.args.store.now mid new c.in-Ok-true.field-0 (Ok Cleaned) c.in-Ok-true.ensures.leaves
    (c.a_turn_goes_on-2.ensures.answered first mid new tt Cleaned c.in-Ok.ensures.turns)

pub returns-in-Ok-clause-cleans : goal.returns-in-Ok-clause-cleans
returns-in-Ok-clause-cleans g c = λ low told sound database among.
    let s = c.args.store.now.now in
    let e = c.args.entry in
    let at = c.args.place in
    let chosen = subst (λ b. GoesAt c.args.locks.now e at s b) c.in-Ok-true.field-0-test (c.in-Ok-true.ensures.chooses told sound) in
    let owed = owed_to_go s e at among chosen.0 chosen.2 in (
      record {
        action = Reverts e at owed.0;
        cleaning = tt;
        free = chosen.1;
        acts = subst (λ (u : State). IsDatabaseState u → OwedByRevert u.tables (area_in u) e at owed.0 → ActsBy s.tables.next (Reverts e at owed.0) u c.take_head.new.store.now)
            (c.in-Ok-true.ensures.leaves.logs told sound).now (c.in-Ok.ensures.acts s.tables.next e owed.0 told sound) database owed.1;
      },
      (owed.0, refl),
    )
