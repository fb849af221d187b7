use Rattle.ctr_kept.proofs.RecoveryTurns.{page_turn, free_turn}
use Rattle.ctr_kept.proofs.recovery.a_page_is_given_back.Goals as goal

pub returns-clause-taken : goal.returns-clause-taken
returns-clause-taken c = λ r now later x p site w front keeps le is bounds. page_turn c.another_leaves_what_is_held.ensures r.lines r.moment r.base r.stuck r.size now site w keeps later x p front le is bounds

pub returns-clause-left : goal.returns-clause-left
returns-clause-left c = λ r now later p site w front keeps le is bounds. free_turn c.another_leaves_what_is_held.ensures r.lines r.moment r.base r.stuck r.size now site w keeps later p front le is bounds
