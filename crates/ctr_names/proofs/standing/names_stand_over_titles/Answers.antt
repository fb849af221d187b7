use Rattle.ctr_names.proofs.Stand.{stand_made, stand_drop, stand_gone}
use Rattle.ctr_names.proofs.standing.names_stand_over_titles.Goals as goal

pub returns-clause-made : goal.returns-clause-made
returns-clause-made c = λ low number area e title names. stand_made low number area e title names

pub returns-clause-dropped : goal.returns-clause-dropped
returns-clause-dropped c = λ low number area e title names. stand_drop low number area e title names

pub returns-clause-gone : goal.returns-clause-gone
returns-clause-gone c = λ low number area e title names. stand_gone low number area e title names
