use Rattle.ctr_actions.proofs.Order.{undone_goes}
use Rattle.ctr_actions.proofs.undoing.an_undone_item_goes_alone.Goals as goal

pub returns : goal.returns
returns c = undone_goes
