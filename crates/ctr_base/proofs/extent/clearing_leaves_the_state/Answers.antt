use Rattle.ctr_base.proofs.ClearLaws.{sound_cleared, state_cleared, cleared_keeps, can_count}
use Rattle.ctr_base.proofs.extent.clearing_leaves_the_state.Goals as goal

pub returns-clause-same : goal.returns-clause-same
returns-clause-same c root old new sound keeps = (sound_cleared root old new sound keeps, state_cleared root old new sound keeps)

pub returns-clause-keeps : goal.returns-clause-keeps
returns-clause-keeps c from to old new order inside was = cleared_keeps from to old new order inside was

pub returns-clause-counts : goal.returns-clause-counts
returns-clause-counts c root more old new sound is_root file first grows was = can_count root more old new sound is_root file first grows was
