use Rattle.std.proofs.Common.{◌≡◌, ⊎_elim, inl, inr, ℕ, Bool, true, false, Option, Some, None, Ok, Err, refl, subst, arith}
use Rattle.std.proofs.lemmas.Bool.{cases_lt}
use Rattle.ctr_disk.specs.declared.fault.StoreFault.TheVariants.{Fault}
use Rattle.ctr_walk.specs.redo_States.{State}
use Rattle.ctr_area.specs.Images.{is_committed_in}
use Rattle.ctr_record_effects.specs.States.{area_in}
use Rattle.ctr_record_effects.specs.Standing.{IsDatabaseState}
use Rattle.ctr_walk.proofs.Damages.{reads_err}
use Rattle.ctr_walk.proofs.PagesRead.{still_goes, same_now, was_read}
use Rattle.ctr_cursor.proofs.reading_Told.{reads_further, told_ok}
use Rattle.ctr_totals.specs.Finding.{IsLoad, TellsLoad}
use Rattle.ctr_totals.proofs.finding.find.Goals as goal

pub loop-entry-init : goal.loop-entry-init
loop-entry-init g c = record { read = inl (refl, refl); none = λ told sound e lt. absurd (omega (arith, lt)) }

pub load_at-requires-clause-going : goal.load_at-requires-clause-going
load_at-requires-clause-going g c = still_goes g.O.Origin.first g.D.Disk _ c.args.store.now c.loop-entry.store c.loop-entry.invariant.read c.requires.going

pub returns-in-Err-clause-refused : goal.returns-in-Err-clause-refused
returns-in-Err-clause-refused g c = λ told sound.
    let same = same_now g.O.Origin.first g.D.Disk _ c.args.store.now c.loop-entry.store c.loop-entry.invariant.read told sound in
    subst (λ (t : State). IsDatabaseState t → c.in-Err.fault ≡ Fault) same (c.in-Err.ensures.refused told sound)

pub returns-in-Err-clause-leaves : goal.returns-in-Err-clause-leaves
returns-in-Err-clause-leaves g c =
    reads_err g.O.Origin.first g.D.Disk Bool (Option ℕ) c.in-Err.fault c.args.store.now c.load_at.new.store
    (reads_further g.O.Origin.first g.D.Disk _ (Err c.in-Err.fault) c.args.store.now c.loop-entry.store c.load_at.new.store c.loop-entry.invariant.read c.in-Err.ensures.leaves)

pub returns-in-Ok-true-clause-finds : goal.returns-in-Ok-true-clause-finds
returns-in-Ok-true-clause-finds g c = λ told sound.
    let s = c.args.store.now.now in
    let e = c.loop-entry.entry in
    let same = same_now g.O.Origin.first g.D.Disk _ c.args.store.now c.loop-entry.store c.loop-entry.invariant.read told sound in
    (c.loop-entry-test.true, subst (λ (t : State). TellsLoad (is_committed_in t.tables) ((area_in t).title e) true) same (subst (TellsLoad (is_committed_in c.loop-entry.store.now.tables) ((area_in c.loop-entry.store.now).title e)) c.in-Ok-true.field-0-test (c.in-Ok-true.ensures.tells told sound)))

pub returns-in-Ok-true-clause-leaves : goal.returns-in-Ok-true-clause-leaves
returns-in-Ok-true-clause-leaves g c =
    told_ok g.O.Origin.first g.D.Disk c.in-Ok-true.field-0 (Some c.loop-entry.entry) c.args.store.now c.load_at.new.store
    (reads_further g.O.Origin.first g.D.Disk _ (Ok c.in-Ok-true.field-0) c.args.store.now c.loop-entry.store c.load_at.new.store c.loop-entry.invariant.read c.in-Ok-true.ensures.leaves)

pub loop-entry-preserved : goal.loop-entry-preserved
loop-entry-preserved g c = record {
  read = inr (told_ok g.O.Origin.first g.D.Disk c.in-Ok-false.field-0 tt c.args.store.now c.load_at.new.store
      (reads_further g.O.Origin.first g.D.Disk _ (Ok c.in-Ok-false.field-0) c.args.store.now c.loop-entry.store c.load_at.new.store c.loop-entry.invariant.read c.in-Ok-false.ensures.leaves));
  none = λ told sound e lt.
      let same = same_now g.O.Origin.first g.D.Disk _ c.args.store.now c.loop-entry.store c.loop-entry.invariant.read told sound in
      let here = subst (λ (t : State). TellsLoad (is_committed_in t.tables) ((area_in t).title c.loop-entry.entry) false) same (subst (TellsLoad (is_committed_in c.loop-entry.store.now.tables) ((area_in c.loop-entry.store.now).title c.loop-entry.entry)) c.in-Ok-false.field-0-test (c.in-Ok-false.ensures.tells told sound)) in
      ⊎_elim (λ before. c.loop-entry.invariant.none told sound e before)
      (λ past. subst (λ (n : ℕ). IsLoad (is_committed_in c.args.store.now.now.tables) ((area_in c.args.store.now.now).title n) → ⊥) (let is : c.loop-entry.entry ≡ e = omega (arith, past, lt) in is) here)
      (cases_lt e c.loop-entry.entry);
}

pub returns-clause-finds : goal.returns-clause-finds
returns-clause-finds g c = λ told sound e lt. c.loop-entry.invariant.none told sound e (omega (arith, lt, c.loop-entry-test.false))

pub returns-clause-leaves : goal.returns-clause-leaves
returns-clause-leaves g c =
    told_ok g.O.Origin.first g.D.Disk tt None c.args.store.now c.loop-entry.store
    (was_read g.O.Origin.first g.D.Disk _ c.args.store.now c.loop-entry.store c.loop-entry.invariant.read (λ u. omega (arith, u, c.loop-entry-test.false)))
