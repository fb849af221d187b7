use Rattle.std.proofs.Common.{arith}
use Rattle.ctr_mem_disk.proofs.Places.{all_places}
use Rattle.ctr_mem_disk.proofs.block.clear.Goals as goal

pub returns : goal.returns
returns c = all_places _ (λ k low. c.loop-byte.invariant k (omega arith))
