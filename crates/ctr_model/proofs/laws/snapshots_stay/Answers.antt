use Rattle.ctr_model.proofs.Snapshots.{snapshots_stay}
use Rattle.ctr_model.proofs.laws.snapshots_stay.Goals as goal

pub returns : goal.returns
returns c = snapshots_stay
