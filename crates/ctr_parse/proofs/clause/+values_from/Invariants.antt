use Rattle.ctr_parse.proofs.clause.+values_from.Given as goal

abbrev pub decreases-values_from : goal.decreases-values_from
decreases-values_from l = l.most
