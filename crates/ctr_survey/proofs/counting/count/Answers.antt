use Rattle.std.proofs.Common.{ℕ, Option, inl, inr, Ok, Err, refl, subst, arith}
use Rattle.ctr_redo.specs.States.{State}
use Rattle.ctr_area.specs.Images.{is_committed_in}
use Rattle.ctr_record_effects.specs.States.{area_in}
use Rattle.ctr_record_effects.specs.Standing.{HasSoundArea, IsDatabaseState}
use Rattle.ctr_walk.proofs.PagesRead.{still_goes, same_now, was_read}
use Rattle.ctr_reading.specs.Reading.{as_told, sight_sees, IsDiskOrMemory}
use Rattle.ctr_reading.proofs.Told.{reads_further, told_err, told_ok}
use Rattle.ctr_survey.specs.declared.counting.Counts.{Counts}
use Rattle.ctr_survey.specs.Standing.{CountsEntry}
use Rattle.ctr_survey.proofs.Shown.{counted_committed}
use Rattle.ctr_survey.proofs.Tables.{few_more, none_counted, told_counted, all_counted}
use Rattle.ctr_survey.proofs.counting.count.Goals as goal

pub loop-entry-init : goal.loop-entry-init
loop-entry-init g c = record {
  read = inl (refl, refl);
  few = omega arith;
  are = λ told sound area_sound seen. none_counted (is_committed_in c.args.store.now.now.tables) (area_in c.args.store.now.now);
}

pub rows_standing-requires-clause-going : goal.rows_standing-requires-clause-going
rows_standing-requires-clause-going g c = still_goes g.O.Origin.first g.D.Disk _ c.args.store.now c.loop-entry.store c.loop-entry.invariant.read c.requires.going

pub returns-in-Err-clause-refused : goal.returns-in-Err-clause-refused
returns-in-Err-clause-refused g c = λ told sound.
    let same = same_now g.O.Origin.first g.D.Disk _ c.args.store.now c.loop-entry.store c.loop-entry.invariant.read told sound in
    subst (λ (t : State). IsDatabaseState t → IsDiskOrMemory c.in-Err.refusal) same (c.in-Err.ensures.refused told sound)

pub returns-in-Err-clause-leaves : goal.returns-in-Err-clause-leaves
returns-in-Err-clause-leaves g c =
    told_err g.O.Origin.first g.D.Disk (Option ℕ) Counts c.in-Err.refusal c.args.store.now c.rows_standing.new.store
    (reads_further g.O.Origin.first g.D.Disk _ (as_told {T = Option ℕ} (Err c.in-Err.refusal)) c.args.store.now c.loop-entry.store c.rows_standing.new.store c.loop-entry.invariant.read c.in-Err.ensures.leaves)

pub loop-entry-preserved : goal.loop-entry-preserved
loop-entry-preserved g c = record {
  read = inr (told_ok g.O.Origin.first g.D.Disk _ tt c.args.store.now c.rows_standing.new.store
      (reads_further g.O.Origin.first g.D.Disk _ (Ok (Ok c.in-Ok.found)) c.args.store.now c.loop-entry.store c.rows_standing.new.store c.loop-entry.invariant.read c.in-Ok.ensures.leaves));
  few = few_more c.loop-entry.entry c.in-Ok.found c.loop-entry.counts c.with-counts.result c.with-counts.ensures c.loop-entry.invariant.few;
  are = λ told sound area_sound seen.
      let s = c.args.store.now.now in
      let e = c.loop-entry.entry in
      let same = same_now g.O.Origin.first g.D.Disk _ c.args.store.now c.loop-entry.store c.loop-entry.invariant.read told sound in
      let by_sight = subst (λ (t : State). HasSoundArea t → CountsEntry (sight_sees t.tables c.args.sight.now) (area_in t) e c.in-Ok.found) same (c.in-Ok.ensures.counts told sound) area_sound in
      let counts = counted_committed s.tables c.args.sight.now (area_in s) e c.in-Ok.found seen by_sight in
      told_counted (is_committed_in s.tables) (area_in s) area_sound.names.standing e c.in-Ok.found c.loop-entry.counts c.with-counts.result c.loop-entry-test.true c.with-counts.ensures counts
      (c.loop-entry.invariant.are told sound area_sound seen);
}

pub returns-clause-counts : goal.returns-clause-counts
returns-clause-counts g c = λ told sound area_sound seen.
    let s = c.args.store.now.now in
    all_counted (is_committed_in s.tables) (area_in s) c.loop-entry.entry c.loop-entry.counts c.loop-entry-test.false (c.loop-entry.invariant.are told sound area_sound seen)

pub returns-clause-leaves : goal.returns-clause-leaves
returns-clause-leaves g c =
    told_ok g.O.Origin.first g.D.Disk tt _ c.args.store.now c.loop-entry.store
    (was_read g.O.Origin.first g.D.Disk _ c.args.store.now c.loop-entry.store c.loop-entry.invariant.read (λ u. omega (arith, u, c.loop-entry-test.false)))
