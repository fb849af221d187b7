use Rattle.std.proofs.Common.{◌≡◌, ℕ, ◌<◌, false, get_or}
use Rattle.ctr_rec.specs.declared.record.SlogItem.{SlogItem}
use Rattle.ctr_meta.specs.Items.{is_wanted}
use Rattle.ctr_meta.proofs.items.take_out.Given as goal

abbrev pub invariant-loop-at : goal.invariant-loop-at
invariant-loop-at l = record {
  same : l.items ≡ l.initial.items;
  before : (k : ℕ) (d : SlogItem) → k < l.at → is_wanted l.wanted (get_or l.items.items k d) ≡ false;
}
