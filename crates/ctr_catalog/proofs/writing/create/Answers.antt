use Rattle.std.proofs.Common.{inl, inr, Some, Ok, Err, Result, subst}
use Rattle.std.specs.Prelude.{IsTrue, ⊤}
use Rattle.ctr_disk.specs.declared.fault.StoreFault.{StoreFault}
use Rattle.ctr_rec.specs.declared.record.Record.{Record}
use Rattle.ctr_alloc.specs.base_Base.{IsSoundImage}
use Rattle.ctr_names.specs.page_Searching.{IsFirst}
use Rattle.ctr_alloc.specs.area_Reading.{area_of}
use Rattle.ctr_alloc.specs.record_effects_States.{pages_in}
use Rattle.ctr_alloc.specs.record_effects_Changing.{create_record}
use Rattle.ctr_alloc.specs.walk_OneRecord.{LogsOne}
use Rattle.ctr_alloc.proofs.walk_Records.{one_behind}
use Rattle.ctr_alloc.proofs.walk_Damages.{reads_err}
use Rattle.ctr_catalog.specs.Free.{EndsCatalog, is_free_entry}
use Rattle.ctr_catalog.proofs.Lowest.{lowest_free}
use Rattle.ctr_catalog.proofs.Made.{one_ok, one_err}
use Rattle.ctr_catalog.proofs.writing.create.Given.{Over}
use Rattle.ctr_catalog.proofs.writing.create.Goals.{After-log_created}
use Rattle.ctr_catalog.proofs.writing.create.Goals as goal

-- an entry was found, and the record was given to the log
module _ (g : Over) (c : After-log_created g) where
  abbrev made : Record
  made = create_record c.args.x c.in-Ok-Some.entry c.args.name.now c.args.schema.now.columns

  is_lowest : IsTrue g.D.Disk.tells → IsSoundImage g.O.Origin.first → IsFirst (is_free_entry (area_of (pages_in c.args.store.now.now))) 0 32 (Some c.in-Ok-Some.entry)
  is_lowest told sound =
      let s = c.args.store.now.now in
      lowest_free (pages_in s) s.counted (Some c.in-Ok-Some.entry)
      (subst (λ o. EndsCatalog s.counted (pages_in s) (Ok o)) c.in-Ok-Some.field-0-is (c.in-Ok-Some.ensures.ends told sound))

  one_made : (result : Result ⊤ StoreFault) → LogsOne g.O.Origin.first g.D.Disk made c.find_free_entry.new.store c.log_created.new.store result → LogsOne g.O.Origin.first g.D.Disk made c.args.store.now c.log_created.new.store result
  one_made = one_behind g.O.Origin.first g.D.Disk made c.args.store.now c.find_free_entry.new.store c.log_created.new.store c.in-Ok-Some.field-0 c.in-Ok-Some.ensures.leaves

pub returns-in-Err-clause-one : goal.returns-in-Err-clause-one
returns-in-Err-clause-one g c = inl (reads_err g.O.Origin.first g.D.Disk _ _ c.in-Err.fault c.args.store.now c.find_free_entry.new.store c.in-Err.ensures.leaves)

pub returns-in-Ok-clause-ends : goal.returns-in-Ok-clause-ends
returns-in-Ok-clause-ends g c = λ told sound. is_lowest g (goal.at.returns-in-Ok-clause-ends g c).After-log_created told sound

pub returns-in-Err-log_created-clause-ends : goal.returns-in-Err-log_created-clause-ends
returns-in-Err-log_created-clause-ends g c = λ told sound.
    let at = (goal.at.returns-in-Err-log_created-clause-ends g c).After-log_created in
    let one = one_made g at (Err c.in-Err-log_created.fault) c.in-Err-log_created.ensures.one in
    inr (c.in-Ok-Some.entry, is_lowest g at told sound, one.refused told sound)

pub returns-in-Ok-clause-one : goal.returns-in-Ok-clause-one
returns-in-Ok-clause-one g c =
    let at = (goal.at.returns-in-Ok-clause-one g c).After-log_created in
    one_ok g.O.Origin.first g.D.Disk (made g at) c.args.store.now c.log_created.new.store c.in-Ok.field-0 c.in-Ok-Some.entry (one_made g at (Ok c.in-Ok.field-0) c.in-Ok.ensures.one)

pub returns-in-Err-log_created-clause-one : goal.returns-in-Err-log_created-clause-one
returns-in-Err-log_created-clause-one g c =
    let at = (goal.at.returns-in-Err-log_created-clause-one g c).After-log_created in
    let e = c.in-Err-log_created.fault in
    inr (c.in-Ok-Some.entry, one_err g.O.Origin.first g.D.Disk (made g at) c.args.store.now c.log_created.new.store e (one_made g at (Err e) c.in-Err-log_created.ensures.one))
