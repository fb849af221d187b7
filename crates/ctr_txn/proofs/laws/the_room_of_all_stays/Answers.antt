use Rattle.ctr_txn.proofs.Runs.{room_of_all, room_without}
use Rattle.ctr_txn.proofs.laws.the_room_of_all_stays.Goals as goal

pub returns-clause-changed : goal.returns-clause-changed
returns-clause-changed c = room_of_all

pub returns-clause-ended : goal.returns-clause-ended
returns-clause-ended c = room_without
