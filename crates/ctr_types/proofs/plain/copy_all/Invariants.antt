use Rattle.std.proofs.Common.{◌≡◌, take}
use Rattle.ctr_types.proofs.plain.copy_all.Given as goal

abbrev pub invariant-loop-item : goal.invariant-loop-item
invariant-loop-item g l = l.to.items ≡ take l.item-index l.from
