use Rattle.std.proofs.Common.{take}
use Rattle.std.specs.List.{AllByRecursion}
use Rattle.ctr_rec.specs.Members.{XidFits}
use Rattle.ctr_store.proofs.checkpoint.count_items.Given as goal

abbrev pub invariant-loop-item : goal.invariant-loop-item
invariant-loop-item l = AllByRecursion XidFits (take l.item-index l.items)
