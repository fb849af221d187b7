use Rattle.std.proofs.Common.{◌≡◌, ◌++◌, drop}
use Rattle.ctr_exec.specs.Runners.{places_of}
use Rattle.ctr_exec.proofs.runners.places.Given as goal

-- with those of the lines that are left they are all
abbrev pub invariant-loop-line : goal.invariant-loop-line
invariant-loop-line l = (l.n ≡ l.line-index) × (l.places ++ places_of l.s l.n (drop l.line-index l.lines) ≡ places_of l.s 0 l.lines)
