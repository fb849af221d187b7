use Rattle.ctr_model.proofs.Determined.{replies_are_determined}
use Rattle.ctr_model.proofs.laws.replies_are_determined.Goals as goal

pub returns : goal.returns
returns c = replies_are_determined
