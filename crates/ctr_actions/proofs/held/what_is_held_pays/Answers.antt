use Rattle.ctr_actions.proofs.Gains.{none_left}
use Rattle.ctr_actions.proofs.held.what_is_held_pays.Goals as goal

pub returns-clause-linked : goal.returns-clause-linked
returns-clause-linked c = λ x s p e b holds there. record { item = holds.0; empty = holds.1; header = holds.2; there = there }

pub returns-clause-older_linked : goal.returns-clause-older_linked
returns-clause-older_linked c = λ x s p e holds there. record { item = holds.0; empty = holds.1; header = holds.2; there = there }

pub returns-clause-committed : goal.returns-clause-committed
returns-clause-committed c = λ x s open_ none. record { is_open = open_; linked = none }

pub returns-clause-aborted : goal.returns-clause-aborted
returns-clause-aborted c = λ x s open_ none. record { is_open = open_; none = none_left x s none }
