use Rattle.std.proofs.Common.{◌≡◌, ℕ, ◌+◌, ◌-◌, ◌<◌, ◌≤◌, length, get_or}
use Rattle.ctr_mem_disk.specs.Blocks.{byte_in}
use Rattle.ctr_mem_disk.proofs.blocks.read_blocks.Given as goal

abbrev pub invariant-loop-done : goal.invariant-loop-done
invariant-loop-done l = record {
  within : l.done ≤ length l.into;
  read : (k : ℕ) → k < l.done → get_or l.into k 0 ≡ byte_in l.blocks (l.at + k);
}

abbrev pub decreases-loop-done : goal.decreases-loop-done
decreases-loop-done l = length l.into - l.done
