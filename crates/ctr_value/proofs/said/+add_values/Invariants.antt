use Rattle.std.specs.Prelude.{length}
use Rattle.ctr_value.proofs.said.+add_values.Given as goal

abbrev pub decreases-add_values : goal.decreases-add_values
decreases-add_values l = length l.kinds.now
