use Rattle.std.proofs.Common.{length}
use Rattle.ctr_page.proofs.checks.+check_texts.Given as goal

abbrev pub decreases-check_texts : goal.decreases-check_texts
decreases-check_texts l = length l.kinds.now
