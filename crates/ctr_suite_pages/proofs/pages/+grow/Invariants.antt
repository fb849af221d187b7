use Rattle.ctr_suite_pages.proofs.pages.+grow.Given as goal

abbrev pub decreases-grow : goal.decreases-grow
decreases-grow l = l.count
