use Rattle.ctr_suite_pages.proofs.reads.+read_down.Given as goal

abbrev pub decreases-read_down : goal.decreases-read_down
decreases-read_down l = l.count
