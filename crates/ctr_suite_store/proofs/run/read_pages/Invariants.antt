use Rattle.std.proofs.Common.{◌≡◌, false}
use Rattle.ctr_suite_store.proofs.run.read_pages.Given as goal

abbrev pub invariant-loop-i : goal.invariant-loop-i
invariant-loop-i l = l.store.stopped ≡ false
