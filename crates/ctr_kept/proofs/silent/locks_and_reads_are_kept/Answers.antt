use Rattle.ctr_kept.proofs.SessionTurns.{granted_turn, read_turn, refused_turn}
use Rattle.ctr_kept.proofs.silent.locks_and_reads_are_kept.Goals as goal

pub returns-clause-granted : goal.returns-clause-granted
returns-clause-granted c = λ r now s site w seat e mine keeps comes granted holds drawn carries. granted_turn r.lines r.moment r.base r.stuck r.size now site w keeps s seat.session seat.t seat.at seat.is_t e.n e.later e.statement e.is_it mine comes granted holds drawn carries

pub returns-clause-read : goal.returns-clause-read
returns-clause-read c = λ r now s site w seat e rows mine keeps comes granted holds drawn carries. read_turn r.lines r.moment r.base r.stuck r.size now site w keeps s seat.session seat.t seat.at seat.is_t e.n e.later e.statement e.is_it rows mine comes granted holds drawn carries

pub returns-clause-refused : goal.returns-clause-refused
returns-clause-refused c = λ r now s site w seat e a why mine keeps comes carries. refused_turn r.lines r.moment r.base r.stuck r.size now site w keeps s seat.session seat.t seat.at seat.is_t e.n e.later e.statement e.is_it a why mine comes carries
