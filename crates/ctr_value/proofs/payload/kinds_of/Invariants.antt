use Rattle.std.proofs.Common.{◌≡◌, map, take, length}
use Rattle.ctr_print.specs.types_Column.{Column}
use Rattle.ctr_value.proofs.payload.kinds_of.Given as goal

abbrev pub invariant-loop-i : goal.invariant-loop-i
invariant-loop-i l = record {
  so_far : take l.i l.kinds ≡ map (λ (c : Column). c.kind) (take l.i l.columns);
  room : length l.kinds ≡ 8;
}
