use Rattle.ctr_names.proofs.Stand.{stand_opened}
use Rattle.ctr_names.proofs.standing.names_stand_at_open.Goals as goal

pub returns : goal.returns
returns c = λ counted tables area number sound agree opened. stand_opened counted tables area number sound opened agree
