use Rattle.ctr_suite_cases.specs.Over.{AreOver}
use Rattle.ctr_suite_cases.proofs.turns.take_rest.Given as goal

abbrev pub invariant-loop : goal.invariant-loop
invariant-loop g l = AreOver l.sessions l.store
