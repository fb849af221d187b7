use Rattle.std.proofs.Common.{◌≡◌}
use Rattle.ctr_model.specs.Refusals.{kind_of}
use Rattle.ctr_page.specs.Columns.{columns_in}
use Rattle.ctr_asking.specs.Values.{columns_behind}
use Rattle.ctr_asking.proofs.columns.kind_of.Given as goal

-- the columns that are left tell what all tell
abbrev pub invariant-loop-i : goal.invariant-loop-i
invariant-loop-i l = kind_of l.name (columns_behind l.i l.entry.bytes) ≡ kind_of l.name (columns_in l.entry.bytes)
