use Rattle.ctr_sessions.proofs.Steps.{ask_shows, answer_shows, end_shows, rollback_shows}
use Rattle.ctr_sessions.proofs.laws.ends_show.Goals as goal

pub returns-clause-ask : goal.returns-clause-ask
returns-clause-ask c = ask_shows

pub returns-clause-answer : goal.returns-clause-answer
returns-clause-answer c = answer_shows

pub returns-clause-end : goal.returns-clause-end
returns-clause-end c = end_shows

pub returns-clause-rollback : goal.returns-clause-rollback
returns-clause-rollback c = rollback_shows
