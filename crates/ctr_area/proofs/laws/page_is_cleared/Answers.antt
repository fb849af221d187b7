use Rattle.ctr_area.proofs.Cleared.{page_cleared}
use Rattle.ctr_area.proofs.laws.page_is_cleared.Goals as goal

pub returns : goal.returns
returns c = page_cleared
