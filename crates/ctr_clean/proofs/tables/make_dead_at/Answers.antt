use Rattle.std.proofs.Common.{Bool, Ok, Err, refl, subst}
use Rattle.ctr_pvs.specs.redo_States.{State}
use Rattle.ctr_record_laws.specs.Owed.{OwedByDying}
use Rattle.ctr_record_effects.specs.States.{area_in}
use Rattle.ctr_record_effects.specs.Standing.{IsDatabaseState}
use Rattle.ctr_actions.specs.Actions.{MakesDead}
use Rattle.ctr_dead.specs.page_turns_Turns.{Reads, LogsARecord}
use Rattle.ctr_dead.specs.page_turns_Acts.{ActsBy}
use Rattle.ctr_dead.specs.Titles.{dying_record}
use Rattle.ctr_dead.proofs.trim_Reading.{reads_fault}
use Rattle.ctr_clean.specs.declared.steps.Step.{Step}
use Rattle.ctr_clean.specs.declared.steps.Step.TheVariants.{Cleaned}
use Rattle.ctr_clean.specs.Choosing.{passes_below}
use Rattle.ctr_clean.specs.Tables.{DiesAt}
use Rattle.ctr_clean.proofs.tables.make_dead_at.Goals as goal

pub returns-in-Err-clause-turns : goal.returns-in-Err-clause-turns
returns-in-Err-clause-turns g c = Reads (reads_fault g.O.Origin.first g.D.Disk c.args.store.now c.dies_at.new.store Bool Step c.in-Err.fault c.dies_at.result c.in-Err.is c.dies_at.ensures.leaves)

pub returns-in-Err-make_dead-clause-turns : goal.returns-in-Err-make_dead-clause-turns
returns-in-Err-make_dead-clause-turns g c =
    let first = g.O.Origin.first in
    let mid = c.dies_at.new.store in
    let new = c.make_dead.new.store in
    let fault = c.in-Err-make_dead.fault in
    c.a_turn_goes_on.ensures.behind first c.args.store.now mid new c.in-Ok-true.field-0 (Err fault) c.in-Ok-true.ensures.leaves
    (c.a_turn_goes_on-2.ensures.failed first mid new fault c.make_dead.result (Err fault) (LogsARecord (dying_record c.args.entry, c.make_dead.ensures.one)) c.in-Err-make_dead.is refl)

pub returns-in-Ok-clause-turns : goal.returns-in-Ok-clause-turns
returns-in-Ok-clause-turns g c =
    let first = g.O.Origin.first in
    let mid = c.dies_at.new.store in
    let new = c.make_dead.new.store in
    c.a_turn_goes_on.ensures.behind first c.args.store.now mid new c.in-Ok-true.field-0 (Ok Cleaned) c.in-Ok-true.ensures.leaves
    (c.a_turn_goes_on-2.ensures.answered first mid new tt Cleaned (LogsARecord (dying_record c.args.entry, c.in-Ok.ensures.one)))

pub returns-in-Ok-clause-cleans : goal.returns-in-Ok-clause-cleans
returns-in-Ok-clause-cleans g c = λ locks told sound database.
    let s = c.args.store.now.now in
    let e = c.args.entry in
    let passes = passes_below c.args.low s.tables in
    let owed = subst (DiesAt c.args.low e s) c.in-Ok-true.field-0-test (c.in-Ok-true.ensures.chooses told sound) in (
      record {
        action = MakesDead passes e;
        cleaning = refl;
        free = tt;
        acts = subst (λ (u : State). IsDatabaseState u → OwedByDying passes u.tables (area_in u) e → ActsBy s.tables.next (MakesDead passes e) u c.make_dead.new.store.now)
            (c.in-Ok-true.ensures.leaves.logs told sound).now (c.in-Ok.ensures.acts s.tables.next passes told sound) database owed;
      },
      refl,
    )
