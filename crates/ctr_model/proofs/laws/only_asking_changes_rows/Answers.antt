use Rattle.ctr_model.proofs.Rollbacks.{only_asking_changes_rows, unasked_leaves_no_trace}
use Rattle.ctr_model.proofs.laws.only_asking_changes_rows.Goals as goal

pub returns-clause-entry : goal.returns-clause-entry
returns-clause-entry c = only_asking_changes_rows

pub returns-clause-stretch : goal.returns-clause-stretch
returns-clause-stretch c = unasked_leaves_no_trace
