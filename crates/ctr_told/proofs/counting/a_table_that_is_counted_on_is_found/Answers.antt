use Rattle.ctr_told.proofs.Counted.{counted_found, found_counted}
use Rattle.ctr_told.proofs.counting.a_table_that_is_counted_on_is_found.Goals as goal

pub returns-clause-found : goal.returns-clause-found
returns-clause-found c = λ low site scene v e title shown kept lt has under. counted_found low site scene shown kept v e title lt has under

pub returns-clause-counted : goal.returns-clause-counted
returns-clause-counted c = λ low site scene v name e shown kept counts found. found_counted low site scene shown kept v name counts e found
