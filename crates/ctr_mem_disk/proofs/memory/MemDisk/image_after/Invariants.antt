use Rattle.std.proofs.Common.{◌≡◌, take}
use Rattle.ctr_mem_disk.specs.Replay.{reads_after, possible_after}
use Rattle.ctr_mem_disk.proofs.memory.MemDisk.image_after.Given as goal

abbrev pub invariant-loop-recorded : goal.invariant-loop-recorded
invariant-loop-recorded l = record {
  reads : l.replay.reads ≡ reads_after l.self.first (take l.recorded-index l.recorded-items);
  left : possible_after l.self.first (take l.recorded-index l.recorded-items) l.replay.left;
}
