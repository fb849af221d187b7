use Rattle.std.proofs.Common.{◌≡◌, Ok}
use Rattle.std.specs.Prelude.{⊤}
use Rattle.ctr_walk.specs.base_Base.{WhereSound}
use Rattle.ctr_actions.specs.Sites.{site_of}
use Rattle.ctr_walk.specs.store_Store.{LeavesPage}
use Rattle.ctr_cursor.specs.Pass.{buckets_from}
use Rattle.ctr_cursor.proofs.advancing.slots_from.Given as goal

-- pages were read, and no bucket before this one has a page
abbrev pub invariant-loop-bucket : goal.invariant-loop-bucket
invariant-loop-bucket g l = record {
  read : LeavesPage {T = ⊤} g.O.Origin.first g.D.Disk l.fn.store l.store (Ok tt);
  none : WhereSound g.O.Origin.first g.D.Disk (buckets_from l.entry l.fn.first (site_of l.fn.store.now) ≡ buckets_from l.entry l.bucket (site_of l.fn.store.now));
}
