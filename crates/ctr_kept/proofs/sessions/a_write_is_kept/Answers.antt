use Rattle.ctr_kept.proofs.SessionTurns.{written_turn}
use Rattle.ctr_kept.proofs.sessions.a_write_is_kept.Goals as goal

pub returns : goal.returns
returns c = λ r now s site w seat e a change mine keeps comes some is owed covers bounds moves carries. written_turn r.lines r.moment r.base r.stuck r.size now site w keeps s seat.session seat.t seat.at seat.is_t e.n e.later e.statement e.is_it c.another_leaves_what_is_held.ensures a change mine comes some is owed covers bounds moves carries
