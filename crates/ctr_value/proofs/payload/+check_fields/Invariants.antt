use Rattle.std.specs.Prelude.{length}
use Rattle.ctr_value.proofs.payload.+check_fields.Given as goal

abbrev pub decreases-check_fields : goal.decreases-check_fields
decreases-check_fields l = length l.columns.now
