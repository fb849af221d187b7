use Rattle.ctr_txn.proofs.Runs.{found_is, sets_run, same_run, ends_run, answers_run}
use Rattle.ctr_txn.proofs.laws.the_run_is_of_the_sessions.Goals as goal

pub returns-clause-found : goal.returns-clause-found
returns-clause-found c = found_is

pub returns-clause-sets : goal.returns-clause-sets
returns-clause-sets c = sets_run

pub returns-clause-same : goal.returns-clause-same
returns-clause-same c = same_run

pub returns-clause-ends : goal.returns-clause-ends
returns-clause-ends c = ends_run

pub returns-clause-answers : goal.returns-clause-answers
returns-clause-answers c = answers_run
