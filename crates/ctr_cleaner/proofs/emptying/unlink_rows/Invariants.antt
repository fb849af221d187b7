use Rattle.std.proofs.Common.{◌≡◌, true, None, Ok}
use Rattle.std.specs.Prelude.{IsTrue}
use Rattle.ctr_walk.specs.base_Base.{IsSoundImage}
use Rattle.ctr_walk.specs.record_effects_States.{area_in}
use Rattle.ctr_walk.specs.record_effects_Standing.{IsDatabaseState}
use Rattle.ctr_walk.specs.OneRecord.{HasRoomForOne}
use Rattle.ctr_cleaner.specs.Parts.{Tries}
use Rattle.ctr_cleaner.proofs.Found.{HasNoneTo}
use Rattle.ctr_cleaner.proofs.emptying.unlink_rows.Given as goal

-- of the buckets before none had a page that may leave, and there is room as before
abbrev pub invariant-loop-bucket : goal.invariant-loop-bucket
invariant-loop-bucket g l = record {
  tried : Tries true g.O.Origin.first g.D.Disk l.fn.store l.store (Ok None);
  room : HasRoomForOne 0 1 l.store;
  none : IsTrue g.D.Disk.tells → IsSoundImage g.O.Origin.first → IsDatabaseState l.fn.store.now → ((area_in l.fn.store.now).title l.fn.entry).state ≡ 2 → HasNoneTo l.fn.entry l.bucket l.fn.store.now;
}
