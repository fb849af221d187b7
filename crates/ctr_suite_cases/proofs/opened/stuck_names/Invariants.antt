use Rattle.std.proofs.Common.{◌≡◌, false}
use Rattle.ctr_suite_cases.proofs.opened.stuck_names.Given as goal

abbrev pub invariant-loop-item : goal.invariant-loop-item
invariant-loop-item l = l.store.stopped ≡ false
