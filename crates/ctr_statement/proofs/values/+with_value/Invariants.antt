use Rattle.std.proofs.Common.{length}
use Rattle.ctr_statement.proofs.values.+with_value.Given as goal

abbrev pub decreases-with_value : goal.decreases-with_value
decreases-with_value l = length l.columns.now
