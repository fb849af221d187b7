use Rattle.std.proofs.Common.{◌≡◌, false}
use Rattle.ctr_suite_store.proofs.stops.told_of.Given as goal

abbrev pub invariant-loop-page : goal.invariant-loop-page
invariant-loop-page l = l.store.stopped ≡ false
