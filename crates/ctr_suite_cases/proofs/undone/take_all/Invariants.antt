use Rattle.std.proofs.Common.{◌≡◌, false}
use Rattle.ctr_suite_cases.proofs.undone.take_all.Given as goal

abbrev pub invariant-loop : goal.invariant-loop
invariant-loop g l = l.store.stopped ≡ false
