use Rattle.ctr_txn.proofs.Rooming.{sessions_room, cleaners_room}
use Rattle.ctr_txn.proofs.laws.room_that_is_kept_is_there.Goals as goal

pub returns-clause-session : goal.returns-clause-session
returns-clause-session c = sessions_room

pub returns-clause-cleaner : goal.returns-clause-cleaner
returns-clause-cleaner c = cleaners_room
