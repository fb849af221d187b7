use Rattle.ctr_sessions.proofs.Answers.{lock_answers}
use Rattle.ctr_sessions.proofs.laws.refusals_are_the_models.Goals as goal

pub returns : goal.returns
returns c = λ low state s me seat a statement is_seat says. lock_answers low state s me seat is_seat a statement says
