use Rattle.ctr_area.proofs.Placed.{older_placed}
use Rattle.ctr_area.proofs.laws.version_changes_its_place.Goals as goal

pub returns : goal.returns
returns c = older_placed
