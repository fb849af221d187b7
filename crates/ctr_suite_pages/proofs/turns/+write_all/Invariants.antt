use Rattle.ctr_suite_pages.proofs.turns.+write_all.Given as goal

abbrev pub decreases-write_all : goal.decreases-write_all
decreases-write_all l = l.most
