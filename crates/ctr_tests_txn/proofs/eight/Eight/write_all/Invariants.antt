use Rattle.ctr_tests_txn.specs.StandsReady.{StandsReady}
use Rattle.ctr_tests_txn.proofs.eight.Eight.write_all.Given as goal

abbrev pub invariant-loop-s : goal.invariant-loop-s
invariant-loop-s l = StandsReady l.txns l.store
