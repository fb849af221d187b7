use Rattle.ctr_kept.proofs.SessionTurns.{undoing_turn}
use Rattle.ctr_kept.proofs.silent.a_rollback_begins.Goals as goal

pub returns : goal.returns
returns c = λ r now later s site w seat mine keeps le rolling carries. undoing_turn r.lines r.moment r.base r.stuck r.size now site w keeps s seat.session seat.t seat.at seat.is_t later mine le rolling carries
