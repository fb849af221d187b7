use Rattle.ctr_suite_cases.specs.Over.{AreOver}
use Rattle.ctr_suite_cases.proofs.turns.take_order.Given as goal

abbrev pub invariant-loop-digit : goal.invariant-loop-digit
invariant-loop-digit g l = AreOver l.sessions l.store
