use Rattle.std.proofs.Common.{◌≡◌, ◌*◌, ◌+◌, ◌-◌, ◌^◌, ◌≤◌, ◌<◌, List, length, get_or}
use Rattle.std.specs.Prelude.{IsTrue}
use Rattle.ctr_home.specs.disk_Image.{content}
use Rattle.ctr_home.specs.disk_Device.{OnlyReads}
use Rattle.ctr_log.specs.declared.visitor.Visit.{Visit}
use Rattle.ctr_log.specs.Visits.{IsGiven, GivesSome}
use Rattle.ctr_log.proofs.BatchLemmas.{SoFar}
use Rattle.ctr_log.proofs.batches.visit_file.Given as goal

-- the reads so far only read; and of the file up to the gate these visits were given
abbrev pub invariant-loop-gate : goal.invariant-loop-gate
invariant-loop-gate g l =
    let d = g.D.Disk in
    let bytes = content l.file (d.reads l.fn.disk) in
    record {
      quiet : OnlyReads d l.fn.disk l.disk;
      faults : d.faults_of l.disk ≡ d.faults_of l.fn.disk;
      strays : d.strays_of l.disk ≡ d.strays_of l.fn.disk;
      few : 8 * l.next ≤ 8 * l.first + l.gate;
      low : l.gate < 2 ^ 63;
      some : GivesSome g.V.Visitor.has_seen l.fn.visitor l.visitor;
      size : IsTrue d.tells → l.size ≡ length bytes;
      opened : IsTrue d.tells → get_or bytes 0 0 ≡ 1;
      told : IsTrue d.tells → (given : List Visit) × SoFar l.file l.first bytes l.gate l.next given × IsGiven g.V.Visitor.has_seen l.fn.visitor l.visitor given;
    }

abbrev pub decreases-loop-gate : goal.decreases-loop-gate
decreases-loop-gate g l = 2 ^ 63 - l.gate
