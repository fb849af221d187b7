use Rattle.ctr_rec.proofs.ListLaws.{Goes}
use Rattle.ctr_rec.proofs.checkpoint.check_each.Given as goal

abbrev pub invariant-loop-i : goal.invariant-loop-i
invariant-loop-i g l = Goes (g.C.Check.meant l.from l.bytes) l.i l.count
