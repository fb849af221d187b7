use Rattle.ctr_kept.proofs.RecoveryTurns.{later_turn, grown_turn}
use Rattle.ctr_kept.proofs.walks.time_and_growth_are_kept.Goals as goal

pub returns-clause-time : goal.returns-clause-time
returns-clause-time c = λ r now later site w keeps le. later_turn r.lines r.moment r.base r.stuck r.size now site w keeps later le

pub returns-clause-growth : goal.returns-clause-growth
returns-clause-growth c = λ r now later more site w keeps le some few. grown_turn r.lines r.moment r.base r.stuck r.size now site w keeps later more le some few
