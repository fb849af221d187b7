use Rattle.std.proofs.Common.{◌≡◌, ◌+◌, ◌-◌, ◌++◌, false, length, replicate}
use Rattle.ctr_load.specs.Generated.{rounds_from, table_lines}
use Rattle.ctr_load.proofs.making.make.Given as goal

-- what is made, and what is still to come, are the script
abbrev pub invariant-loop-done : goal.invariant-loop-done
invariant-loop-done l = record {
  lines : table_lines ++ rounds_from l.count 1 l.seed (replicate l.sessions false)
      ≡ l.making.lines ++ rounds_from (l.count - l.done) (l.done + 1) l.making.draws.state l.making.marked.items;
  marks : length l.making.marked.items ≡ l.sessions;
}
