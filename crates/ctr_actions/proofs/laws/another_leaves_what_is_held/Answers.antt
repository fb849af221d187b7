use Rattle.std.proofs.Common.{inr}
use Rattle.ctr_actions.proofs.laws.another_leaves_what_is_held.Goals as goal

pub returns : goal.returns
returns c = λ x y a fact s bounds few sound apart owed away holds. c.what_is_held_stays.ensures x y a fact s bounds few sound owed away (inr apart) holds
