use Rattle.std.proofs.Common.{◌≡◌, false}
use Rattle.ctr_tests_txn.proofs.eight.Eight.lock_all.Given as goal

abbrev pub invariant-loop-s : goal.invariant-loop-s
invariant-loop-s l = l.store.stopped ≡ false
