use Rattle.std.proofs.Common.{◌≡◌, take, length}
use Rattle.ctr_types.proofs.plain.same_all.Given as goal

abbrev pub invariant-loop-i : goal.invariant-loop-i
invariant-loop-i g l = (take l.i l.a ≡ take l.i l.b) × (length l.a ≡ length l.b)
