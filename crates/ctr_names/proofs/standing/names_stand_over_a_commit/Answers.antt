use Rattle.ctr_names.proofs.Stand.{stand_commit}
use Rattle.ctr_names.proofs.standing.names_stand_over_a_commit.Goals as goal

pub returns : goal.returns
returns c = λ low counted tables area number new x n sound owed newer agree agree_now next. stand_commit low counted tables area number new x n sound owed newer agree agree_now next
