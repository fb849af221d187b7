use Rattle.std.proofs.Common.{◌≡◌}
use Rattle.std.specs.Prelude.{IsTrue}
use Rattle.ctr_pvs.specs.base_Base.{IsSoundImage}
use Rattle.ctr_pvs.specs.record_effects_States.{area_in}
use Rattle.ctr_pvs.proofs.walk_PagesRead.{HasRead}
use Rattle.ctr_emptying.proofs.Remaining.{AreEmptyTo}
use Rattle.ctr_emptying.proofs.left.has_rows.Given as goal

-- pages may have been read, and the buckets before have none
abbrev pub invariant-loop-bucket : goal.invariant-loop-bucket
invariant-loop-bucket g l = record {
  read : HasRead g.O.Origin.first g.D.Disk (l.bucket ≡ 0) l.fn.store l.store;
  empty : IsTrue g.D.Disk.tells → IsSoundImage g.O.Origin.first → AreEmptyTo (area_in l.fn.store.now) l.fn.entry l.bucket;
}
