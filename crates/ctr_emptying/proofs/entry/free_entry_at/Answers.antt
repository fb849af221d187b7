use Rattle.std.proofs.Common.{Bool, Ok, Err, refl, subst}
use Rattle.ctr_pvs.specs.redo_States.{State}
use Rattle.ctr_pvs.specs.record_effects_States.{area_in}
use Rattle.ctr_pvs.specs.record_effects_Standing.{IsDatabaseState}
use Rattle.ctr_record_laws.specs.Owed.{OwedByFreeing}
use Rattle.ctr_clean.specs.page_turns_Turns.{Reads, LogsARecord}
use Rattle.ctr_clean.specs.page_turns_Acts.{ActsBy}
use Rattle.ctr_clean.specs.dead_Titles.{frees, freed_record}
use Rattle.ctr_emptying.specs.declared.emptied.Emptied.{Emptied}
use Rattle.ctr_emptying.specs.declared.emptied.Emptied.TheVariants.{OneRecord, Nothing}
use Rattle.ctr_emptying.specs.Looking.{FreeingSaid}
use Rattle.ctr_emptying.proofs.Reading.{reads_fault}
use Rattle.ctr_pvs.proofs.walk_Joins.{answers_ok}
use Rattle.ctr_emptying.proofs.entry.free_entry_at.Goals as goal

pub returns-in-Err-clause-turns : goal.returns-in-Err-clause-turns
returns-in-Err-clause-turns g c = Reads (reads_fault g.O.Origin.first g.D.Disk c.args.store.now c.may_be_freed.new.store Bool Emptied c.in-Err.fault c.may_be_freed.result c.in-Err.is c.may_be_freed.ensures.leaves)

pub returns-in-Err-free_table-clause-turns : goal.returns-in-Err-free_table-clause-turns
returns-in-Err-free_table-clause-turns g c =
    let first = g.O.Origin.first in
    let mid = c.may_be_freed.new.store in
    let new = c.free_table.new.store in
    let fault = c.in-Err-free_table.fault in
    c.a_turn_goes_on.ensures.behind first c.args.store.now mid new c.in-Ok-true.field-0 (Err fault) c.in-Ok-true.ensures.leaves
    (c.a_turn_goes_on-2.ensures.failed first mid new fault c.free_table.result (Err fault) (LogsARecord (freed_record c.args.entry, c.free_table.ensures.one)) c.in-Err-free_table.is refl)

pub returns-in-Ok-clause-turns : goal.returns-in-Ok-clause-turns
returns-in-Ok-clause-turns g c =
    let first = g.O.Origin.first in
    let mid = c.may_be_freed.new.store in
    let new = c.free_table.new.store in
    c.a_turn_goes_on.ensures.behind first c.args.store.now mid new c.in-Ok-true.field-0 (Ok OneRecord) c.in-Ok-true.ensures.leaves
    (c.a_turn_goes_on-2.ensures.answered first mid new tt OneRecord (LogsARecord (freed_record c.args.entry, c.in-Ok.ensures.one)))

pub returns-in-Ok-clause-cleans : goal.returns-in-Ok-clause-cleans
returns-in-Ok-clause-cleans g c = λ told sound database.
    let s = c.args.store.now.now in
    let e = c.args.entry in
    let may = subst (FreeingSaid s e) c.in-Ok-true.field-0-test (c.in-Ok-true.ensures.tells told sound) in (
      may.0,
      subst (λ (u : State). IsDatabaseState u → OwedByFreeing (area_in u) e → ActsBy s.tables.next (frees e (area_in u)) u c.free_table.new.store.now)
          (c.in-Ok-true.ensures.leaves.logs told sound).now (c.in-Ok.ensures.acts s.tables.next told sound) database may.1,
    )

pub returns-in-Ok-false-clause-turns : goal.returns-in-Ok-false-clause-turns
returns-in-Ok-false-clause-turns g c = Reads (answers_ok g.O.Origin.first g.D.Disk c.in-Ok-false.field-0 Nothing c.args.store.now c.may_be_freed.new.store c.in-Ok-false.ensures.leaves)
