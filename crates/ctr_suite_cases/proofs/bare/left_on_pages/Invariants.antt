use Rattle.std.proofs.Common.{◌≡◌, false}
use Rattle.ctr_suite_cases.proofs.bare.left_on_pages.Given as goal

abbrev pub invariant-loop-p : goal.invariant-loop-p
invariant-loop-p l = l.store.stopped ≡ false
