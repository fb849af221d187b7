use Rattle.ctr_suite_pages.proofs.rows.+fill.Given as goal

abbrev pub decreases-fill : goal.decreases-fill
decreases-fill l = l.count
