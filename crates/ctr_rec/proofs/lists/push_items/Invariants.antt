use Rattle.std.proofs.Common.{◌≡◌, ◌++◌, take}
use Rattle.std.specs.List.{flat_map}
use Rattle.ctr_rec.specs.Members.{slog_item_bytes}
use Rattle.ctr_rec.proofs.lists.push_items.Given as goal

abbrev pub invariant-loop-item : goal.invariant-loop-item
invariant-loop-item l = l.into.items ≡ l.fn.into.items ++ flat_map slog_item_bytes (take l.item-index l.items)
