use Rattle.ctr_suite_pages.proofs.writes.+write_each.Given as goal

abbrev pub decreases-write_each : goal.decreases-write_each
decreases-write_each l = l.count
