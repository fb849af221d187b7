use Rattle.std.proofs.Common.{◌≡◌, ◌≤◌, ◌+◌, ◌-◌, ◌*◌, ◌++◌}
use Rattle.ctr_names.specs.page_Columns.{columns_from, columns_in}
use Rattle.ctr_catalog.proofs.columns.columns_of.Given as goal

-- the columns that were read, and behind them those that are left
abbrev pub invariant-loop-i : goal.invariant-loop-i
invariant-loop-i l = record {
  at_most : l.i ≤ l.count;
  told : l.columns ++ columns_from (l.count - l.i) (35 + 18 * l.i) l.entry.bytes ≡ columns_in l.entry.bytes;
}

abbrev pub decreases-loop-i : goal.decreases-loop-i
decreases-loop-i l = l.count - l.i
