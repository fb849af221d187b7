use Rattle.std.proofs.Common.{◌≡◌, false}
use Rattle.ctr_tests_txn.proofs.commits.Commits.commit.Given as goal

abbrev pub invariant-loop-round : goal.invariant-loop-round
invariant-loop-round l = l.store.stopped ≡ false
