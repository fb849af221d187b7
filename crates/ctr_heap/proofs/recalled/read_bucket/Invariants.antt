use Rattle.std.proofs.Common.{Ok}
use Rattle.std.specs.Prelude.{⊤}
use Rattle.ctr_walk.specs.store_Store.{LeavesPage}
use Rattle.ctr_heap.proofs.recalled.read_bucket.Given as goal

abbrev pub invariant-loop : goal.invariant-loop
invariant-loop g l = LeavesPage {T = ⊤} g.O.Origin.first g.D.Disk l.fn.store l.store (Ok tt)
