use Rattle.ctr_redo.proofs.Generations.{state_dropped, home_since}
use Rattle.ctr_redo.proofs.laws.older_records_can_go.Goals as goal

pub returns-clause-same : goal.returns-clause-same
returns-clause-same c older newer next lists i is home = state_dropped older newer next lists i is home

pub returns-clause-home : goal.returns-clause-home
returns-clause-home c p first older newer since home late has = home_since p first older newer since home late has
