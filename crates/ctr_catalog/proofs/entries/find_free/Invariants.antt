use Rattle.ctr_names.specs.page_Columns.{entry_at}
use Rattle.ctr_names.specs.page_Searching.{PassesBy}
use Rattle.ctr_catalog.specs.Entries.{is_unused, checks_entry}
use Rattle.ctr_catalog.proofs.entries.find_free.Given as goal

abbrev pub invariant-loop-entry : goal.invariant-loop-entry
invariant-loop-entry l = PassesBy (checks_entry l.counted l.page) (λ n. is_unused (entry_at n l.page)) 0 l.entry
