use Rattle.std.proofs.Common.{inr, ◌+◌, ℕ, Bool, Option, true, false, Ok, Err, refl, subst}
use Rattle.ctr_pvs.specs.redo_States.{State}
use Rattle.ctr_pvs.specs.record_effects_States.{area_in}
use Rattle.ctr_record_laws.specs.Owed.{first_page}
use Rattle.ctr_pvs.specs.walk_Tables.{IsFirstPage}
use Rattle.ctr_pvs.proofs.walk_Damages.{reads_err}
use Rattle.ctr_pvs.proofs.walk_Joins.{answers_ok}
use Rattle.ctr_pvs.proofs.walk_PagesRead.{reads_on, same_now, was_read}
use Rattle.ctr_cursor.proofs.reading_Told.{reads_further}
use Rattle.ctr_emptying.proofs.Remaining.{one_more, no_rows, behind_first}
use Rattle.ctr_emptying.proofs.left.has_rows.Goals as goal

pub returns-in-Err-clause-leaves : goal.returns-in-Err-clause-leaves
returns-in-Err-clause-leaves g c =
    let fault = c.in-Err.fault in
    reads_err g.O.Origin.first g.D.Disk (Option ℕ) Bool fault c.args.store.now c.first_page.new.store
    (reads_further g.O.Origin.first g.D.Disk _ (Err fault) c.args.store.now c.loop-bucket.store c.first_page.new.store c.loop-bucket.invariant.read c.in-Err.ensures.leaves)

pub returns-in-Ok-Some-clause-leaves : goal.returns-in-Ok-Some-clause-leaves
returns-in-Ok-Some-clause-leaves g c =
    answers_ok g.O.Origin.first g.D.Disk c.in-Ok-Some.field-0 true c.args.store.now c.first_page.new.store
    (reads_on g.O.Origin.first g.D.Disk _ c.args.store.now c.loop-bucket.store c.first_page.new.store (Ok c.in-Ok-Some.field-0) c.loop-bucket.invariant.read c.in-Ok-Some.ensures.leaves)

pub loop-bucket-preserved : goal.loop-bucket-preserved
loop-bucket-preserved g c = record {
  read = inr (answers_ok g.O.Origin.first g.D.Disk c.in-Ok-None.field-0 tt c.args.store.now c.first_page.new.store
      (reads_on g.O.Origin.first g.D.Disk _ c.args.store.now c.loop-bucket.store c.first_page.new.store (Ok c.in-Ok-None.field-0) c.loop-bucket.invariant.read c.in-Ok-None.ensures.leaves));
  empty = λ told sound.
      let s = c.args.store.now.now in
      let e = c.args.entry in
      let b = c.loop-bucket.bucket in
      let same = same_now g.O.Origin.first g.D.Disk _ c.args.store.now c.loop-bucket.store c.loop-bucket.invariant.read told sound in
      let none = subst (λ (t : State). IsFirstPage (first_page (area_in t) e b) c.in-Ok-None.field-0) same (c.in-Ok-None.ensures.ends told sound).1 in
      one_more (area_in s) e b (b + 1) refl (subst (IsFirstPage (first_page (area_in s) e b)) c.in-Ok-None.field-0-is none) (c.loop-bucket.invariant.empty told sound);
}

pub returns-clause-tells : goal.returns-clause-tells
returns-clause-tells g c = λ told sound.
    let s = c.args.store.now.now in
    let e = c.args.entry in
    no_rows s e c.loop-bucket.bucket (c.a_table_can_be_linked_to.ensures.eight s e) c.loop-bucket-test.false (c.loop-bucket.invariant.empty told sound)

pub returns-clause-leaves : goal.returns-clause-leaves
returns-clause-leaves g c =
    answers_ok g.O.Origin.first g.D.Disk tt false c.args.store.now c.loop-bucket.store
    (was_read g.O.Origin.first g.D.Disk _ c.args.store.now c.loop-bucket.store c.loop-bucket.invariant.read (behind_first c.loop-bucket.bucket c.loop-bucket-test.false))
