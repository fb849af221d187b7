use Rattle.ctr_sessions.proofs.Views.{steps_alike, draws_alike}
use Rattle.ctr_sessions.proofs.laws.views_stay.Goals as goal

pub returns-clause-others : goal.returns-clause-others
returns-clause-others c = steps_alike

pub returns-clause-own : goal.returns-clause-own
returns-clause-own c = draws_alike
