use Rattle.std.proofs.Common.{arith}
use Rattle.ctr_mem_disk.proofs.Places.{all_places}
use Rattle.ctr_mem_disk.proofs.block.is_all_zero.Goals as goal

pub returns : goal.returns
returns c = λ is. all_places c.args.bytes.now (λ k low. c.loop-byte.invariant k (omega arith))
