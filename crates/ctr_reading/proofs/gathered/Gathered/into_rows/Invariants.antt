use Rattle.std.proofs.Common.{◌≡◌, ◌++◌, map}
use Rattle.std.specs.Prelude.{ℤ}
use Rattle.ctr_types.specs.declared.value.Row.{Row}
use Rattle.ctr_reading.proofs.gathered.Gathered.into_rows.Given as goal

abbrev pub invariant-loop-row : goal.invariant-loop-row
invariant-loop-row l = map (λ (e : ℤ × Row). e.1) l.fn.self ≡ l.list ++ l.row-iterator
