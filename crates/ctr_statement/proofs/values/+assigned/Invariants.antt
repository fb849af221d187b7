use Rattle.std.proofs.Common.{length}
use Rattle.ctr_statement.proofs.values.+assigned.Given as goal

abbrev pub decreases-assigned : goal.decreases-assigned
decreases-assigned l = length l.sets.now
