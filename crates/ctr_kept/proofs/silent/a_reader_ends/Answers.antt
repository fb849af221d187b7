use Rattle.ctr_kept.proofs.SessionTurns.{read_only_turn, reader_back_turn}
use Rattle.ctr_kept.proofs.silent.a_reader_ends.Goals as goal

pub returns-clause-commit : goal.returns-clause-commit
returns-clause-commit c = λ r now s site w seat e keeps comes zero_. read_only_turn r.lines r.moment r.base r.stuck r.size now site w keeps s seat.session seat.t seat.at seat.is_t e.n e.later e.statement e.is_it comes zero_

pub returns-clause-rollback : goal.returns-clause-rollback
returns-clause-rollback c = λ r now s site w seat e keeps comes zero_. reader_back_turn r.lines r.moment r.base r.stuck r.size now site w keeps s seat.session seat.t seat.at seat.is_t e.n e.later e.statement e.is_it comes zero_
