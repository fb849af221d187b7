-- What is counted of the slots of a table.
use Rattle.std.specs.Prelude.{◌≡◌, ◌<◌, ◌≤◌, ℕ, ◌+◌, ℤ, ◌+ℤ◌, ◌≤ℤ◌, neg_ℤ, pos, Bool, List, [], ◌∷◌, Option, None, Some}
use Rattle.ctr_page.specs.declared.rows.Place.{Place}
use Rattle.ctr_area.specs.Areas.{Area}
use Rattle.ctr_totals.specs.Facts.{number_at}
use Rattle.ctr_totals.specs.declared.counting.Totals.{Totals}

-- a row, where there is one, is one more
abbrev pub one_row : Option ℤ → ℕ
one_row None = 0
one_row (Some n) = 1

-- What a row's number adds to the sum: nothing where there is no row.
abbrev pub one_number : Option ℤ → ℤ
one_number None = pos 0
one_number (Some n) = n

-- Totals are those before, with such a row.
abbrev pub AddsTo : Option ℤ → Totals → Totals → Type 0
AddsTo number old new =
    (new.rows ≡ old.rows + one_row number) × (new.sum ≡ old.sum +ℤ one_number number)

-- how many rows the slots at these places have
abbrev pub rows_along : (ℕ → Bool) → Area → List Place → ℕ
rows_along test area [] = 0
rows_along test area (at ∷ places) =
    one_row (number_at test area at) + rows_along test area places

-- the sum of their numbers
abbrev pub sum_along : (ℕ → Bool) → Area → List Place → ℤ
sum_along test area [] = pos 0
sum_along test area (at ∷ places) =
    one_number (number_at test area at) +ℤ sum_along test area places

-- Totals are those of the slots at these places.
pub record AreCountedOf (test : ℕ → Bool) (area : Area) (places : List Place) (t : Totals) : Type 0
  where
    pub rows : t.rows ≡ rows_along test area places
    pub sum : t.sum ≡ sum_along test area places

-- Totals of no more slots than there are, so that one more can be added.
pub record IsSmall (t : Totals) : Type 0 where
  pub rows : t.rows < 40800000
  pub most : t.sum ≤ℤ (pos 1000000000000000000000000000)
  pub least : (neg_ℤ (pos 1000000000000000000000000000)) ≤ℤ t.sum

-- one more row may be there, and a number of 64 bits was added
pub record IsNear (old new : Totals) : Type 0 where
  pub rows : new.rows ≤ old.rows + 1
  pub most : new.sum ≤ℤ (old.sum +ℤ pos 9223372036854775808)
  pub least : old.sum ≤ℤ (new.sum +ℤ pos 9223372036854775808)
