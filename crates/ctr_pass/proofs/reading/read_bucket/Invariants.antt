use Rattle.std.proofs.Common.{◌≡◌, ◌<◌, true, Ok}
use Rattle.std.specs.Prelude.{⊤}
use Rattle.ctr_walk.specs.store_Store.{LeavesPage}
use Rattle.ctr_pass.proofs.reading.read_bucket.Given as goal

abbrev pub invariant-loop : goal.invariant-loop
invariant-loop g l = LeavesPage {T = ⊤} g.O.Origin.first g.D.Disk l.fn.store l.store (Ok tt) × (l.more ≡ true → 0 < l.fn.most)
