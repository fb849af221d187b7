use Rattle.ctr_kept.proofs.SessionTurns.{outside_turn}
use Rattle.ctr_kept.proofs.silent.a_refusal_outside_is_kept.Goals as goal

pub returns : goal.returns
returns c = λ r now s site w e a why keeps none comes. outside_turn r.lines r.moment r.base r.stuck r.size now site w keeps s e.n e.later e.statement e.is_it none a why comes
