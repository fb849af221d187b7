use Rattle.std.proofs.Common.{◌≡◌, false}
use Rattle.ctr_suite_store.proofs.run.do_steps.Given as goal

abbrev pub invariant-loop-step : goal.invariant-loop-step
invariant-loop-step l = l.store.stopped ≡ false
