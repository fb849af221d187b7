use Rattle.ctr_kept.proofs.SessionTurns.{unseen_turn}
use Rattle.ctr_kept.proofs.sessions.a_turn_without_an_entry_is_kept.Goals as goal

pub returns : goal.returns
returns c = λ r now later s site w seat a mine keeps le some owed covers bounds moves carries. unseen_turn r.lines r.moment r.base r.stuck r.size now site w keeps s seat.session seat.t seat.at seat.is_t c.another_leaves_what_is_held.ensures later a mine le some owed covers bounds moves carries
