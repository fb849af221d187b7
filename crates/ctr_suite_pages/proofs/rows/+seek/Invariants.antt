use Rattle.ctr_suite_pages.proofs.rows.+seek.Given as goal

abbrev pub decreases-seek : goal.decreases-seek
decreases-seek l = l.count
