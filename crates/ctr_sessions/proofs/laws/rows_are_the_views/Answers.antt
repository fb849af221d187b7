use Rattle.ctr_sessions.proofs.Answers.{rows_same}
use Rattle.ctr_sessions.proofs.laws.rows_are_the_views.Goals as goal

pub returns : goal.returns
returns c = λ low state s me seat statement is_seat. rows_same low state s me seat is_seat statement
