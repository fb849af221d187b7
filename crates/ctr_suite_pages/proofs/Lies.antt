-- A slot that has a width lies where a slot so wide does.
use Rattle.std.proofs.Common.{◌≤◌, ◌+◌, ℕ, sym, subst, arith}
use Rattle.ctr_page.specs.declared.rows.Place.{Place}
use Rattle.ctr_page.specs.declared.rows.RowSlot.{RowSlot}
use Rattle.ctr_page.specs.Places.{slot_size, start_of}
use Rattle.ctr_page.specs.Making.{IsSlot}
use Rattle.ctr_heap.specs.Writing.{LiesOnPage}

pub lies : (w : ℕ) (at : Place) (s : RowSlot) → IsSlot w s → w ≤ 512
    → start_of (slot_size w) at.slot + slot_size w ≤ 4096 → LiesOnPage at s
lies w at s fits narrow inside = record {
  narrow = subst (λ k. k ≤ 2048) (sym fits.head.2) (wider w narrow);
  is = subst (λ k. IsSlot k s) (sym fits.head.2) fits;
  inside = subst (λ k. start_of (slot_size k) at.slot + slot_size k ≤ 4096) (sym fits.head.2) inside;
}
  where
    wider : (w : ℕ) → w ≤ 512 → w ≤ 2048
    wider w = omega arith
