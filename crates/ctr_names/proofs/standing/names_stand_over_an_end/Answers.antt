use Rattle.ctr_names.proofs.Stand.{stand_abort, stand_forget}
use Rattle.ctr_names.proofs.standing.names_stand_over_an_end.Goals as goal

pub returns-clause-abort : goal.returns-clause-abort
returns-clause-abort c = λ low counted tables area number new x sound. stand_abort counted tables area sound low number new x

pub returns-clause-forget : goal.returns-clause-forget
returns-clause-forget c = λ low counted tables area number new x sound. stand_forget counted tables area sound low number new x
