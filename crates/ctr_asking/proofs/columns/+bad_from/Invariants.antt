use Rattle.std.proofs.Common.{length}
use Rattle.ctr_asking.proofs.columns.+bad_from.Given as goal

abbrev pub decreases-bad_from : goal.decreases-bad_from
decreases-bad_from l = length l.values.now
