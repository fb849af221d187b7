use Rattle.std.proofs.Common.{length}
use Rattle.ctr_suite_cases.proofs.fitting.+lines_fit.Given as goal

abbrev pub decreases-lines_fit : goal.decreases-lines_fit
decreases-lines_fit l = length l.lines.now
