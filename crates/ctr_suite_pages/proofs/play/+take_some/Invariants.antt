use Rattle.ctr_suite_pages.proofs.play.+take_some.Given as goal

abbrev pub decreases-take_some : goal.decreases-take_some
decreases-take_some l = l.count
