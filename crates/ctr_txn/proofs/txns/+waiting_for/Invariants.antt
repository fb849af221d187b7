use Rattle.std.proofs.Common.{length}
use Rattle.ctr_txn.proofs.txns.+waiting_for.Given as goal

abbrev pub decreases-waiting_for : goal.decreases-waiting_for
decreases-waiting_for l = length l.sessions.now
