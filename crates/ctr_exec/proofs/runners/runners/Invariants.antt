use Rattle.std.proofs.Common.{◌≡◌, ◌+◌, length}
use Rattle.std.specs.List.{AllByRecursion}
use Rattle.ctr_exec.specs.Runners.{IsUnbegun, AreRunners}
use Rattle.ctr_exec.proofs.runners.runners.Given as goal

-- each is the one of its session
abbrev pub invariant-loop-s : goal.invariant-loop-s
invariant-loop-s l = (length l.runners.items + 1 ≡ l.s) × AreRunners l.lines 1 l.runners.items × AllByRecursion IsUnbegun l.runners.items
