use Rattle.std.proofs.Common.{length}
use Rattle.ctr_txn.proofs.txns.+least_named.Given as goal

abbrev pub decreases-least_named : goal.decreases-least_named
decreases-least_named l = length l.sessions.now
