use Rattle.std.proofs.Common.{◌≡◌, ◌++◌, drop}
use Rattle.ctr_load.specs.Generated.{commits_from}
use Rattle.ctr_load.proofs.making.commit_all.Given as goal

abbrev pub invariant-loop-place : goal.invariant-loop-place
invariant-loop-place l = l.initial.lines ++ commits_from 0 l.marked ≡ l.lines ++ commits_from l.place (drop l.place l.marked)
