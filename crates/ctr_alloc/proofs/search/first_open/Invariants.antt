use Rattle.ctr_alloc.specs.Free.{AreFullBelow}
use Rattle.ctr_alloc.proofs.search.first_open.Given as goal

abbrev pub invariant-loop-at : goal.invariant-loop-at
invariant-loop-at l = AreFullBelow l.page l.at
