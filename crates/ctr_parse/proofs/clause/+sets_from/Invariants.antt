use Rattle.ctr_parse.proofs.clause.+sets_from.Given as goal

abbrev pub decreases-sets_from : goal.decreases-sets_from
decreases-sets_from l = l.most
