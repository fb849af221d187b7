use Rattle.std.proofs.Common.{length}
use Rattle.ctr_suite_cases.proofs.fitting.+all_fit.Given as goal

abbrev pub decreases-all_fit : goal.decreases-all_fit
decreases-all_fit l = length l.columns.now
