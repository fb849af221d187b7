use Rattle.std.proofs.Common.{◌≡◌, false}
use Rattle.ctr_suite_cases.proofs.cleaned.clean_all.Given as goal

abbrev pub invariant-loop : goal.invariant-loop
invariant-loop l = l.store.stopped ≡ false
