use Rattle.std.proofs.Common.{◌≡◌, ℕ, ◌<◌, get_or}
use Rattle.ctr_rec.specs.declared.record.SlogItem.{SlogItem}
use Rattle.ctr_rec.specs.declared.record.SlogItem.TheVariants.{FreeOf}
use Rattle.ctr_clean.proofs.lists.first_freed.Given as goal

abbrev pub invariant-loop-at : goal.invariant-loop-at
invariant-loop-at l = (k p : ℕ) (d : SlogItem) → k < l.at → get_or l.items k d ≡ FreeOf p → ⊥
