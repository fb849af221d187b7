use Rattle.std.proofs.Common.{◌≡◌, ◌-◌, length, take}
use Rattle.std.specs.Prelude.{filter}
use Rattle.ctr_meta.specs.Items.{is_item_by}
use Rattle.ctr_meta.proofs.items.latest_by.Given as goal

abbrev pub invariant-loop-back : goal.invariant-loop-back
invariant-loop-back l = record {
  left : filter (is_item_by l.x) l.items ≡ filter (is_item_by l.x) (take (length l.items - l.back) l.items);
}
