use Rattle.std.proofs.Common.{length}
use Rattle.ctr_page.proofs.checks.+kinds_width.Given as goal

abbrev pub decreases-kinds_width : goal.decreases-kinds_width
decreases-kinds_width l = length l.kinds.now
