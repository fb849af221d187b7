use Rattle.ctr_page_turns.proofs.Rooms.{room_still, less_room}
use Rattle.ctr_page_turns.proofs.room.room_is_still_there.Goals as goal

pub returns-clause-behind : goal.returns-clause-behind
returns-clause-behind g c = λ opens items a b. room_still opens items a b

pub returns-clause-less : goal.returns-clause-less
returns-clause-less g c = λ opens items v. less_room opens items v
