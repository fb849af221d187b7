use Rattle.std.proofs.Common.{◌≡◌, ◌*◌, ◌-◌, ◌≤◌}
use Rattle.std.specs.Prelude.{IsTrue}
use Rattle.ctr_disk.specs.Device.{LeavesOnly, IsSettled}
use Rattle.ctr_disk.specs.Crash.{Within}
use Rattle.ctr_base.specs.Extent.{KeepsPageBytes, AreCleared}
use Rattle.ctr_base.proofs.extent.clear_pages.Given as goal

-- the pages so far are cleared, and what stands before them is as it was
abbrev pub invariant-loop-page : goal.invariant-loop-page
invariant-loop-page g l =
    let d = g.D.Disk in
    let first = l.fn.disk in
    record {
      behind : l.from ≤ l.page;
      at_most : l.page ≤ l.to;
      goes : IsSettled d first → LeavesOnly d first l.disk (KeepsPageBytes (8256 * l.from) (d.reads first));
      now : IsSettled d first → Within (d.images l.disk) (KeepsPageBytes (8256 * l.from) (d.reads first));
      cleared : IsTrue d.tells → AreCleared l.from l.page (d.reads first) (d.reads l.disk);
      later : d.moment_of first ≤ d.moment_of l.disk;
      faults : d.faults_of l.disk ≡ d.faults_of first;
      strays : d.strays_of l.disk ≡ d.strays_of first;
    }

abbrev pub decreases-loop-page : goal.decreases-loop-page
decreases-loop-page g l = l.to - l.page
