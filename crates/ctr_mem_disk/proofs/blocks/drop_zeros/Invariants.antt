use Rattle.ctr_mem_disk.specs.Blocks.{byte_in, StaysSame}
use Rattle.ctr_mem_disk.proofs.blocks.drop_zeros.Given as goal

abbrev pub invariant-loop-number : goal.invariant-loop-number
invariant-loop-number l = StaysSame (byte_in l.initial.blocks) (byte_in l.blocks)
