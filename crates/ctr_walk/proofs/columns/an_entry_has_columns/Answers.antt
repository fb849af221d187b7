use Rattle.ctr_record_effects.specs.page_Columns.{entry_at}
use Rattle.ctr_walk.proofs.Entries.{entry_columns, are_named, columns_fit, columns_keyed}
use Rattle.ctr_walk.proofs.columns.an_entry_has_columns.Goals as goal

pub returns-clause-named : goal.returns-clause-named
returns-clause-named c = λ counted n page inside passes used. are_named (entry_at n page).bytes (entry_columns counted n page inside passes used)

pub returns-clause-fit : goal.returns-clause-fit
returns-clause-fit c = λ counted n page inside passes used. columns_fit (entry_at n page).bytes (entry_columns counted n page inside passes used)

pub returns-clause-keyed : goal.returns-clause-keyed
returns-clause-keyed c = columns_keyed
