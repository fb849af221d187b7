use Rattle.std.proofs.Common.{inl}
use Rattle.ctr_actions.proofs.laws.ones_own_action_leaves_what_is_held.Goals as goal

pub returns : goal.returns
returns c = λ x a fact s bounds few sound owed away beside holds. c.what_is_held_stays.ensures x x a fact s bounds few sound owed away (inl beside) holds
