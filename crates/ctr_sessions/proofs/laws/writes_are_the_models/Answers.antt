use Rattle.ctr_sessions.proofs.Writes.{write_answers, change_answers}
use Rattle.ctr_sessions.proofs.laws.writes_are_the_models.Goals as goal

pub returns-clause-refused : goal.returns-clause-refused
returns-clause-refused c low state s me seat statement name key is_seat named keyed = write_answers low state s me seat is_seat statement name key named keyed

pub returns-clause-change : goal.returns-clause-change
returns-clause-change c low state s me seat statement name key is_seat named keyed none = change_answers low state s me seat is_seat statement name key named keyed none
