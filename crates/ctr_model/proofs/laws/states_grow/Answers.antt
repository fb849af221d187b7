use Rattle.ctr_model.proofs.Snapshots.{next_grows}
use Rattle.ctr_model.proofs.laws.states_grow.Goals as goal

pub returns : goal.returns
returns c = next_grows
