use Rattle.ctr_actions.proofs.Bounded.{bounded}
use Rattle.ctr_actions.proofs.laws.an_action_stays_in_bounds.Goals as goal

pub returns : goal.returns
returns c = λ x a s bounds sound owed leaves. bounded x s bounds sound a owed leaves
