use Rattle.std.proofs.Common.{◌≡◌, take}
use Rattle.ctr_io.proofs.memory.MemSourceSource.take.Given as goal

abbrev pub invariant-loop-i : goal.invariant-loop-i
invariant-loop-i l = take l.i l.into ≡ take l.i l.left
