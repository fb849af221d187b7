use Rattle.ctr_locks.proofs.Lowest.{busy_is, locked_is}
use Rattle.ctr_locks.proofs.laws.key_locks_are_the_models.Goals as goal

pub returns-clause-busy : goal.returns-clause-busy
returns-clause-busy c = busy_is

pub returns-clause-locked : goal.returns-clause-locked
returns-clause-locked c = locked_is
