use Rattle.ctr_kept.proofs.SessionTurns.{rolled_back_turn}
use Rattle.ctr_kept.proofs.sessions.a_rollback_ends.Goals as goal

pub returns : goal.returns
returns c = λ r now s site w seat e keeps comes some owed bounds moves. rolled_back_turn r.lines r.moment r.base r.stuck r.size now site w keeps s seat.session seat.t seat.at seat.is_t e.n e.later e.statement e.is_it c.another_leaves_what_is_held.ensures comes some owed bounds moves
