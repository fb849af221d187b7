use Rattle.std.proofs.Common.{◌≡◌, [], take, drop}
use Rattle.ctr_model.specs.Refusals.{bad_set_after}
use Rattle.ctr_page.specs.Columns.{columns_in}
use Rattle.ctr_asking.proofs.columns.bad_set.Given as goal

-- what is left, behind those that are passed, tells what all tell
abbrev pub invariant-loop-i : goal.invariant-loop-i
invariant-loop-i l = bad_set_after (columns_in l.entry.bytes) (take l.i l.sets) (drop l.i l.sets) ≡ bad_set_after (columns_in l.entry.bytes) [] l.sets
