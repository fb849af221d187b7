use Rattle.ctr_kept.proofs.Answering.{answers_all}
use Rattle.ctr_kept.proofs.walks.commits_are_answered.Goals as goal

pub returns : goal.returns
returns c = λ r now later n site w keeps le is. answers_all r.lines r.moment r.base r.stuck r.size later site n now w keeps le is
