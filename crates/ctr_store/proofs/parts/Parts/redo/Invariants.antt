use Rattle.std.proofs.Common.{◌≡◌, ◌≤◌, ◌-◌, length}
use Rattle.std.specs.Prelude.{IsTrue}
use Rattle.ctr_base.specs.Base.{LeavesIf, KeepsBase}
use Rattle.ctr_store.specs.Redo.{RedoesPages}
use Rattle.ctr_store.proofs.parts.Parts.redo.Given as goal

-- the first records were laid over their pages, and a crash leaves the same state
abbrev pub invariant-loop-i : goal.invariant-loop-i
invariant-loop-i g l =
    let d = g.D.Disk in
    let first = g.O.Origin.first in
    record {
      at_most : l.i ≤ length l.visits;
      doing : IsTrue d.tells → RedoesPages first d l.fn.self.base l.i l.self;
      goes : IsTrue d.tells → LeavesIf first d l.fn.self.base l.self.base;
      keeps : KeepsBase d l.fn.self.base l.self.base;
      meta : l.self.meta ≡ l.fn.self.meta;
      faults : d.faults_of l.self.base.disk ≡ d.faults_of l.fn.self.base.disk;
    }

abbrev pub decreases-loop-i : goal.decreases-loop-i
decreases-loop-i g l = length l.visits - l.i
