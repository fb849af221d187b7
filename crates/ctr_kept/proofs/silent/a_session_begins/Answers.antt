use Rattle.ctr_kept.proofs.SessionTurns.{begun_turn}
use Rattle.ctr_kept.proofs.silent.a_session_begins.Goals as goal

pub returns : goal.returns
returns c = λ r now s site w e keeps none comes. begun_turn r.lines r.moment r.base r.stuck r.size now site w keeps s e.n e.later e.statement e.is_it none comes
