use Rattle.std.proofs.Common.{◌≡◌, length}
use Rattle.ctr_mem_disk.proofs.tearing.others.Given as goal

abbrev pub invariant-loop-byte : goal.invariant-loop-byte
invariant-loop-byte l = length l.all.items ≡ l.byte-index
