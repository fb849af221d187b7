use Rattle.ctr_actions.proofs.Order.{front_stays}
use Rattle.ctr_actions.proofs.undoing.the_front_of_the_log_stays.Goals as goal

pub returns : goal.returns
returns c = λ x a s front run bounds sound owed items none out. front_stays x s bounds sound front run items none a owed out
