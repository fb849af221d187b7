use Rattle.std.proofs.Common.{◌≡◌, ◌≤◌}
use Rattle.std.specs.Prelude.{IsTrue}
use Rattle.ctr_base.specs.Base.{IsSoundImage}
use Rattle.ctr_area.specs.Images.{is_committed_in}
use Rattle.ctr_record_effects.specs.States.{area_in}
use Rattle.ctr_record_effects.specs.Standing.{HasSoundArea}
use Rattle.ctr_walk.proofs.PagesRead.{HasRead}
use Rattle.ctr_survey.specs.Standing.{SeesCommitted}
use Rattle.ctr_survey.proofs.Tables.{IsCounted}
use Rattle.ctr_survey.proofs.counting.count.Given as goal

-- pages of the entries before were read, and with those of the others the counts are those of all
abbrev pub invariant-loop-entry : goal.invariant-loop-entry
invariant-loop-entry g l = record {
  read : HasRead g.O.Origin.first g.D.Disk (l.entry ≡ 0) l.fn.store l.store;
  few : l.counts.tables ≤ l.entry;
  are : IsTrue g.D.Disk.tells → IsSoundImage g.O.Origin.first → HasSoundArea l.fn.store.now → SeesCommitted l.fn.store.now.tables l.sight
      → IsCounted (is_committed_in l.fn.store.now.tables) (area_in l.fn.store.now) l.entry l.counts;
}
