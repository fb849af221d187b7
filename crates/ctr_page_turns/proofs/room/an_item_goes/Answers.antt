use Rattle.ctr_page_turns.proofs.Rooms.{item_goes}
use Rattle.ctr_page_turns.proofs.room.an_item_goes.Goals as goal

pub returns : goal.returns
returns c = λ w t. item_goes w t.items
