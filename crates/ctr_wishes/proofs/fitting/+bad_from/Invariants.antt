use Rattle.std.proofs.Common.{length}
use Rattle.ctr_wishes.proofs.fitting.+bad_from.Given as goal

abbrev pub decreases-bad_from : goal.decreases-bad_from
decreases-bad_from l = length l.columns.now
