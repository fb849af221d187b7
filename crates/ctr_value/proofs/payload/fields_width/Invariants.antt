use Rattle.std.proofs.Common.{◌≡◌, ◌≤◌, ◌+◌, ◌*◌, drop}
use Rattle.ctr_value.specs.Payload.{width}
use Rattle.ctr_value.proofs.payload.fields_width.Given as goal

abbrev pub invariant-loop-i : goal.invariant-loop-i
invariant-loop-i l = record {
  so_far : l.total + width (drop l.i l.columns) ≡ width l.columns;
  small : l.total ≤ 256 * l.i;
}
