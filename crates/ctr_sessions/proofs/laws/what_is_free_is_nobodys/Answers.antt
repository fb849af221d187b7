use Rattle.ctr_sessions.proofs.Cleaning.{free_rows, free_names}
use Rattle.ctr_sessions.proofs.laws.what_is_free_is_nobodys.Goals as goal

pub returns-clause-rows : goal.returns-clause-rows
returns-clause-rows c = free_rows

pub returns-clause-names : goal.returns-clause-names
returns-clause-names c = free_names
