use Rattle.std.proofs.Common.{◌≡◌, false}
use Rattle.ctr_suite_cases.proofs.cleaned.empty_table.Given as goal

abbrev pub invariant-loop-bucket : goal.invariant-loop-bucket
invariant-loop-bucket l = l.store.stopped ≡ false
