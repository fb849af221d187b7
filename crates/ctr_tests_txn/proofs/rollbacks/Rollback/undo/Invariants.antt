use Rattle.std.proofs.Common.{◌≡◌, false}
use Rattle.ctr_tests_txn.proofs.rollbacks.Rollback.undo.Given as goal

abbrev pub invariant-loop-i : goal.invariant-loop-i
invariant-loop-i l = l.store.stopped ≡ false
