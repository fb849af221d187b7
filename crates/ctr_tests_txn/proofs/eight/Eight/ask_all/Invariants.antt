use Rattle.ctr_tests_txn.specs.StandsReady.{StandsReady}
use Rattle.ctr_tests_txn.proofs.eight.Eight.ask_all.Given as goal

abbrev pub invariant-loop-i : goal.invariant-loop-i
invariant-loop-i l = StandsReady l.txns l.store
