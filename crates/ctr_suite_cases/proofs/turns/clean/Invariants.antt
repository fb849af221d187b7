use Rattle.ctr_suite_cases.specs.Over.{AreOver}
use Rattle.ctr_suite_cases.proofs.turns.clean.Given as goal

abbrev pub invariant-loop : goal.invariant-loop
invariant-loop l = AreOver l.sessions l.store
