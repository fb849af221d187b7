use Rattle.std.proofs.Common.{Ok}
use Rattle.std.specs.Prelude.{IsTrue, ⊤}
use Rattle.ctr_pvs.specs.base_Base.{IsSoundImage}
use Rattle.ctr_pvs.specs.store_Store.{LeavesPage}
use Rattle.ctr_pvs.specs.record_effects_States.{area_in}
use Rattle.ctr_emptying.proofs.Settled.{AreSettledTo}
use Rattle.ctr_emptying.proofs.heads.is_settled_page.Given as goal

-- pages were read, and the slots before are free or have committed heads
abbrev pub invariant-loop-slot : goal.invariant-loop-slot
invariant-loop-slot g l = record {
  read : LeavesPage {T = ⊤} g.O.Origin.first g.D.Disk l.fn.store l.store (Ok tt);
  settled : IsTrue g.D.Disk.tells → IsSoundImage g.O.Origin.first → AreSettledTo l.fn.store.now.tables (area_in l.fn.store.now) l.fn.p l.slot;
}
