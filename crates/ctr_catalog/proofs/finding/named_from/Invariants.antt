use Rattle.std.specs.Prelude.{is_some, ◌≤◌}
use Rattle.ctr_names.specs.page_Searching.{PassesBy}
use Rattle.ctr_catalog.specs.Finding.{checks_on, named_on}
use Rattle.ctr_catalog.proofs.finding.named_from.Given as goal

abbrev pub invariant-loop-entry : goal.invariant-loop-entry
invariant-loop-entry l = (l.from ≤ l.entry) × PassesBy (checks_on l.counted l.page) (λ e. is_some (named_on l.name l.page e)) l.from l.entry
