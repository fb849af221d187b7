use Rattle.std.proofs.Common.{Ok}
use Rattle.std.specs.Prelude.{IsTrue, ⊤}
use Rattle.ctr_pvs.specs.base_Base.{IsSoundImage}
use Rattle.ctr_pvs.specs.store_Store.{LeavesPage}
use Rattle.ctr_record_effects.specs.States.{area_in}
use Rattle.ctr_clean.specs.Choosing.{passes_below}
use Rattle.ctr_clean.proofs.Passed.{IsOnWayTo}
use Rattle.ctr_clean.proofs.cutting.cut_along.Given as goal

abbrev pub invariant-loop-left : goal.invariant-loop-left
invariant-loop-left g l =
    LeavesPage {T = ⊤} g.O.Origin.first g.D.Disk l.fn.store l.store (Ok tt)
    × (IsTrue g.D.Disk.tells → IsSoundImage g.O.Origin.first → IsOnWayTo (passes_below l.fn.low l.fn.store.now.tables) (area_in l.fn.store.now) l.fn.from l.at l.left)

abbrev pub decreases-loop-left : goal.decreases-loop-left
decreases-loop-left g l = l.left
