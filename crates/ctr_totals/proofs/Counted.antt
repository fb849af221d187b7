-- What was counted along a pass, and what is left to count.
use Rattle.std.proofs.Common.{◌≡◌, ℕ, suc, ◌+◌, ◌-◌, ◌≤◌, ◌*◌, ℤ, pos, neg_ℤ, ◌+ℤ◌, ◌≤ℤ◌, Bool, List, [], ◌∷◌, length, Option, None, Some, refl, sym, ap, subst, arith}
use Rattle.std.specs.Prelude.{IfSome}
use Rattle.std.proofs.lemmas.Int.{ints}
use Rattle.ctr_page.specs.declared.rows.Place.{Place}
use Rattle.ctr_area.specs.Areas.{Area}
use Rattle.ctr_area.specs.Images.{is_committed_in}
use Rattle.ctr_walk.specs.redo_States.{State}
use Rattle.ctr_record_effects.specs.States.{area_in}
use Rattle.ctr_actions.specs.Sites.{Site, site_of}
use Rattle.ctr_cursor.specs.declared.position.Position.{Position}
use Rattle.ctr_cursor.specs.declared.position.Position.TheVariants.{Slot}
use Rattle.ctr_cursor.specs.Pass.{next_position}
use Rattle.ctr_cursor.specs.Standing.{IsPosition}
use Rattle.ctr_totals.specs.declared.counting.Totals.{Totals}
use Rattle.ctr_totals.specs.Totals.{no_totals}
use Rattle.ctr_totals.specs.Facts.{number_at}
use Rattle.ctr_totals.specs.Counting.{one_row, one_number, AddsTo, rows_along, sum_along, AreCountedOf, IsSmall, IsNear}
use Rattle.ctr_totals.specs.Along.{GoesAlong}

-- with those of these slots the totals are those of all
pub record IsCountedTo (test : ℕ → Bool) (area : Area) (rest places : List Place) (t : Totals) : Type 0 where
  pub rows : t.rows + rows_along test area rest ≡ rows_along test area places
  pub sum : t.sum +ℤ sum_along test area rest ≡ sum_along test area places

rows_more : (n more r all new : ℕ) → n + (more + r) ≡ all → new ≡ n + more → new + r ≡ all
rows_more n more r all new is adds = omega (arith, is, adds)

sum_more : (n more r all new : ℤ) → n +ℤ (more +ℤ r) ≡ all → new ≡ n +ℤ more → new +ℤ r ≡ all
sum_more n more r all new is adds = omega (arith, ints)

sum_none : (n all : ℤ) → n +ℤ pos 0 ≡ all → n ≡ all
sum_none n all is = omega (arith, ints)

sum_all : (n : ℤ) → pos 0 +ℤ n ≡ n
sum_all n = omega (arith, ints)

counted_more : (test : ℕ → Bool) (area : Area) (p : Place) (rest places : List Place) (number : Option ℤ) (t new : Totals) → number ≡ number_at test area p → AddsTo number t new
    → IsCountedTo test area (p ∷ rest) places t → IsCountedTo test area rest places new
counted_more test area p rest places number t new is adds counted = record {
  rows = rows_more t.rows (one_row number) (rows_along test area rest) (rows_along test area places) new.rows (subst (λ o. t.rows + (one_row o + rows_along test area rest) ≡ rows_along test area places) (sym is) counted.rows) adds.0;
  sum = sum_more t.sum (one_number number) (sum_along test area rest) (sum_along test area places) new.sum (subst (λ o. t.sum +ℤ (one_number o +ℤ sum_along test area rest) ≡ sum_along test area places) (sym is) counted.sum) adds.1;
}

counted_all : (test : ℕ → Bool) (area : Area) (places : List Place) (t : Totals) → IsCountedTo test area [] places t → AreCountedOf test area places t
counted_all test area places t counted = record {
  rows = let is = counted.rows in omega (arith, is);
  sum = sum_none t.sum (sum_along test area places) counted.sum;
}

-- So much is left, of slots of an entry, from where a pass is.
pub record Rest (s : State) (e : ℕ) (places : List Place) (left : ℕ) (at : Option Position) (t : Totals) : Type 0 where
  pub rest : List Place
  pub goes : GoesAlong (site_of s) e at rest
  pub position : IfSome at (λ x. IsPosition x (site_of s))
  pub counted : IsCountedTo (is_committed_in s.tables) (area_in s) rest places t
  pub few : length places ≤ 40800000 → length rest ≤ left

pub begins : (s : State) (e : ℕ) (places : List Place) (first : Option Position) → GoesAlong (site_of s) e first places → IfSome first (λ x. IsPosition x (site_of s)) → Rest s e places 40800000 first no_totals
begins s e places first goes position = record {
  rest = places;
  goes = goes;
  position = position;
  counted = record { rows = omega arith; sum = sum_all (sum_along (is_committed_in s.tables) (area_in s) places) };
  few = λ few. few;
}

-- at a slot it is one of these
slot_next : (site : Site) (e f b : ℕ) (p : Place) (rest : List Place) → GoesAlong site e (Some (Slot f b p)) rest → (ps : List Place) × (rest ≡ p ∷ ps) × (f ≡ e) × GoesAlong site e (next_position site (Slot f b p)) ps
slot_next site e f b p [] goes = absurd (goes f b p refl)
slot_next site e f b p (q ∷ ps) goes =
    let is = goes.1 in
    let entry : f ≡ e = cc in
    let bucket : b ≡ goes.0 = cc in
    let place : p ≡ q = cc in (
      ps,
      ap (λ (r : Place). r ∷ ps) (sym place),
      entry,
      subst (λ r. GoesAlong site e (next_position site r) ps) (λ i. Slot (sym entry i) (sym bucket i) (sym place i)) goes.2,
    )

pub at_slot : (s : State) (e : ℕ) (places : List Place) (left : ℕ) (f b : ℕ) (p : Place) (t : Totals) → Rest s e places left (Some (Slot f b p)) t → f ≡ e
at_slot s e places left f b p t r = (slot_next (site_of s) e f b p r.rest r.goes).2

one_less : (n left : ℕ) → suc n ≤ left → n ≤ left - 1
one_less n left le = omega (arith, le)

pub goes_on : (s : State) (leads : (x y : Position) → IsPosition x (site_of s) → next_position (site_of s) x ≡ Some y → IsPosition y (site_of s)) (e : ℕ) (places : List Place) (left f b : ℕ) (p : Place) (t new : Totals)
    (number : Option ℤ) (next : Option Position) → Rest s e places left (Some (Slot f b p)) t → number ≡ number_at (is_committed_in s.tables) (area_in s) p → next ≡ next_position (site_of s) (Slot f b p) → AddsTo number t new
    → Rest s e places (left - 1) next new
goes_on s leads e places left f b p t new number next r is next_is adds =
    let slot = slot_next (site_of s) e f b p r.rest r.goes in
    let counted = subst (λ ps. IsCountedTo (is_committed_in s.tables) (area_in s) ps places t) slot.1 r.counted in
    record {
      rest = slot.0;
      goes = subst (λ x. GoesAlong (site_of s) e x slot.0) (sym next_is) slot.3;
      position = led next (sym next_is);
      counted = counted_more (is_committed_in s.tables) (area_in s) p slot.0 places number t new is adds counted;
      few = λ few. one_less (length slot.0) left (subst (λ (ps : List Place). length ps ≤ left) slot.1 (r.few few));
    }
  where
    led : (o : Option Position) → next_position (site_of s) (Slot f b p) ≡ o → IfSome o (λ x. IsPosition x (site_of s))
    led None same = tt
    led (Some y) same = leads (Slot f b p) y r.position same

-- where it is at no slot all are counted
pub no_more : (s : State) (e : ℕ) (places : List Place) (left : ℕ) (at : Option Position) (t : Totals) → Rest s e places left at t → ((f b : ℕ) (p : Place) → at ≡ Some (Slot f b p) → ⊥)
    → AreCountedOf (is_committed_in s.tables) (area_in s) places t
no_more s e places left at t r none = by r.rest r.goes r.counted
  where
    by : (rest : List Place) → GoesAlong (site_of s) e at rest → IsCountedTo (is_committed_in s.tables) (area_in s) rest places t → AreCountedOf (is_committed_in s.tables) (area_in s) places t
    by [] goes counted = counted_all (is_committed_in s.tables) (area_in s) places t counted
    by (p ∷ ps) goes counted = absurd (none e goes.0 p goes.1)

-- and where none may be left
pub over : (s : State) (e : ℕ) (places : List Place) (at : Option Position) (t : Totals) → Rest s e places 0 at t → length places ≤ 40800000 → AreCountedOf (is_committed_in s.tables) (area_in s) places t
over s e places at t r few = by r.rest (r.few few) r.counted
  where
    by : (rest : List Place) → length rest ≤ 0 → IsCountedTo (is_committed_in s.tables) (area_in s) rest places t → AreCountedOf (is_committed_in s.tables) (area_in s) places t
    by [] le counted = counted_all (is_committed_in s.tables) (area_in s) places t counted
    by (p ∷ ps) le counted = absurd (none (length ps) le)
      where
        none : (n : ℕ) → suc n ≤ 0 → ⊥
        none n le = omega (arith, le)

-- ---- sums are small

-- no more than so many numbers of 64 bits were added
pub record IsWithin (left : ℕ) (t : Totals) : Type 0 where
  pub rows : t.rows + left ≤ 40800000
  pub most : t.sum ≤ℤ (pos (9223372036854775808 * (40800000 - left)))
  pub least : (neg_ℤ (pos (9223372036854775808 * (40800000 - left)))) ≤ℤ t.sum

pub is_small : (left : ℕ) (t : Totals) → IsWithin left t → (left ≡ 0 → ⊥) → IsSmall t
is_small left t within some = by left t.rows t.sum within.rows within.most within.least some
  where
    by : (left rows : ℕ) (sum : ℤ) → rows + left ≤ 40800000 → sum ≤ℤ (pos (9223372036854775808 * (40800000 - left))) → (neg_ℤ (pos (9223372036854775808 * (40800000 - left)))) ≤ℤ sum → (left ≡ 0 → ⊥) → IsSmall (record { rows = rows; sum = sum })
    by left rows sum a b c some = record { rows = omega (arith, a, some); most = omega (arith, ints); least = omega (arith, ints) }

pub within_more : (left : ℕ) (t new : Totals) → IsWithin left t → (left ≡ 0 → ⊥) → IsNear t new → IsWithin (left - 1) new
within_more left t new within some near = by left t.rows new.rows t.sum new.sum within.rows within.most within.least some near.rows near.most near.least
  where
    by : (left rows new_rows : ℕ) (sum new_sum : ℤ) → rows + left ≤ 40800000 → sum ≤ℤ (pos (9223372036854775808 * (40800000 - left))) → (neg_ℤ (pos (9223372036854775808 * (40800000 - left)))) ≤ℤ sum → (left ≡ 0 → ⊥)
        → new_rows ≤ rows + 1 → new_sum ≤ℤ (sum +ℤ pos 9223372036854775808) → sum ≤ℤ (new_sum +ℤ pos 9223372036854775808) → IsWithin (left - 1) (record { rows = new_rows; sum = new_sum })
    by left rows new_rows sum new_sum a b c some d e f = record { rows = omega (arith, a, some, d); most = omega (arith, ints); least = omega (arith, ints) }
