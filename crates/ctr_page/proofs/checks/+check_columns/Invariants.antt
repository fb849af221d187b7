use Rattle.ctr_page.proofs.checks.+check_columns.Given as goal

abbrev pub decreases-check_columns : goal.decreases-check_columns
decreases-check_columns l = l.count
