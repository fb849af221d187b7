use Rattle.std.proofs.Common.{length}
use Rattle.ctr_machine.proofs.refusals.+last_touching.Given as goal

abbrev pub decreases-last_touching : goal.decreases-last_touching
decreases-last_touching l = length l.transactions.now
