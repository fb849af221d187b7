use Rattle.std.proofs.Common.{◌≤◌, ◌-◌, length, take}
use Rattle.ctr_mem_disk.specs.Blocks.{byte_in, StaysSame, HasBlocksFor}
use Rattle.ctr_mem_disk.proofs.blocks.make_rooms.Given as goal

abbrev pub invariant-loop-done : goal.invariant-loop-done
invariant-loop-done l = record {
  within : l.done ≤ length l.with;
  same : StaysSame (byte_in l.initial.blocks) (byte_in l.blocks);
  room : HasBlocksFor l.at (take l.done l.with) l.blocks;
}

abbrev pub decreases-loop-done : goal.decreases-loop-done
decreases-loop-done l = length l.with - l.done
