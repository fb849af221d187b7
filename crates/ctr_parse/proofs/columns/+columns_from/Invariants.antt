use Rattle.ctr_parse.proofs.columns.+columns_from.Given as goal

abbrev pub decreases-columns_from : goal.decreases-columns_from
decreases-columns_from l = l.most
