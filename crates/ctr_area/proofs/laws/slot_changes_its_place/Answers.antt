use Rattle.ctr_area.proofs.Placed.{slot_placed}
use Rattle.ctr_area.proofs.laws.slot_changes_its_place.Goals as goal

pub returns : goal.returns
returns c = slot_placed
