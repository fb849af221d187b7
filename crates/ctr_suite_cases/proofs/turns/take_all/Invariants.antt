use Rattle.ctr_suite_cases.specs.Over.{AreOver}
use Rattle.ctr_suite_cases.proofs.turns.take_all.Given as goal

abbrev pub invariant-loop-s : goal.invariant-loop-s
invariant-loop-s g l = AreOver l.sessions l.store
