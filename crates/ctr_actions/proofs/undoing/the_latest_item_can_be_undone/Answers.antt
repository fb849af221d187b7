use Rattle.ctr_actions.proofs.Latest.{undoing_owed, log_shorter}
use Rattle.ctr_actions.proofs.Order.{one_item_less}
use Rattle.ctr_actions.proofs.undoing.the_latest_item_can_be_undone.Goals as goal

pub returns-clause-owed : goal.returns-clause-owed
returns-clause-owed c = undoing_owed

pub returns-clause-fewer : goal.returns-clause-fewer
returns-clause-fewer c = one_item_less

pub returns-clause-shorter : goal.returns-clause-shorter
returns-clause-shorter c = log_shorter
