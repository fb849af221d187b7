-- Counts of heads, where one slot is changed.
use Rattle.std.proofs.Common.{◌≡◌, ◌⊎◌, ⊎_elim, inl, inr, ℕ, ◌+◌, ◌-◌, ◌<◌, Bool, true, false, cond, ◌++◌, refl, sym, ◌∙◌, ap, subst, arith}
use Rattle.std.proofs.lemmas.Bool.{false≢true, eq-eqb, eqb-true, ne_eqb, lt-ltb}
use Rattle.std.specs.Prelude.{◌==◌, ◌&&◌, not, nat_lt}
use Rattle.ctr_area.proofs.Buckets.{each_of}
use Rattle.ctr_area.proofs.Places.{same_place_itself}
use Rattle.ctr_area.specs.Areas.{Slot, Area}
use Rattle.ctr_area.specs.Changes.{with_slot}
use Rattle.ctr_area.specs.Images.{is_committed_in}
use Rattle.ctr_area.specs.Sound.{AreAllOnce, xids_in, is_headed_by, head_count, AreCounted, NumbersBelow}
use Rattle.ctr_area.specs.meta_Effects.{one_head_more, one_head_less, one_aborted_less}
use Rattle.ctr_area.specs.meta_Tables.{Tables, is_in, heads_in, with_heads}
use Rattle.ctr_record_laws.proofs.Members.{among_front, among_rest, StandsOnce, all_parts, all_both, bit, count_once}
use Rattle.ctr_record_laws.proofs.OneSlot.{other_place}
use Rattle.ctr_record_laws.proofs.Owned.{all_slots}
use Rattle.ctr_record_laws.proofs.Xids.{same_in, in_among, not_both, once_parts, Tells, tells, told, raised, lowered, retold, more_same, less_same, HaveSameXids}
use Rattle.ctr_record_laws.specs.Owed.{loses_head}
use Rattle.ctr_area.specs.ctr_page.declared.rows.Place.{Place}
use Rattle.ctr_area.proofs.ctr_versions.Keys.{known}

-- the heads of each transaction, where one slot changes
pub heads_changed : (area : Area) (at : Place) (s : Slot) (y : ℕ) → StandsOnce at (all_slots area)
    → head_count (with_slot at s area) y + bit (is_headed_by area.slot y at) ≡ head_count area y + bit (s.used && (s.head.0 == y))
heads_changed area at s y once =
    count_once (is_headed_by area.slot y) (is_headed_by (with_slot at s area).slot y) at (λ x apart. ap (λ b. is_head (cond b s (area.slot x))) (other_place x at (λ is. apart (sym is)))) (all_slots area) once
    ∙ ap (λ b. head_count area y + bit (is_head (cond b s (area.slot at)))) (same_place_itself at)
  where
    is_head : Slot → Bool
    is_head s = s.used && (s.head.0 == y)

no_and : (a b : Bool) → (a && (b && false)) ≡ false
no_and true true = refl
no_and true false = refl
no_and false b = refl

pub turn : (x y : ℕ) → (x == y) ≡ (y == x)
turn x y = known (x == y) (λ is. is ∙ sym (eq-eqb y x (sym (eqb-true x y is)))) (λ isnt. isnt ∙ sym (ne_eqb y x (λ is. false≢true (sym isnt ∙ eq-eqb x y (sym is)))))

zero_plus : (n m : ℕ) → n + 0 ≡ m → n ≡ m
zero_plus n m is = omega (arith, is)

pub plus_zero : (n : ℕ) → n ≡ n + 0
plus_zero n = omega arith

module _ (next : ℕ) (area : Area) (tables : Tables) (below : NumbersBelow next (xids_in tables.opens ++ xids_in tables.aborted) area) where
  -- of those that are open or aborted
  abbrev pub IsListed : ℕ → Type 0
  IsListed y = (is_in y tables.opens ≡ true) ⊎ (is_in y tables.aborted ≡ true)

  pub listed_drawn : (y : ℕ) → IsListed y → (0 < y) × (y < next)
  listed_drawn y listed = each_of (λ x. (0 < x) × (x < next)) y (xids_in tables.opens ++ xids_in tables.aborted) below.drawn
      (⊎_elim (λ open_. among_front y (xids_in tables.opens) (xids_in tables.aborted) (in_among y tables.opens open_))
      (λ gone. among_rest y (xids_in tables.opens) (xids_in tables.aborted) (in_among y tables.aborted gone)) listed)

  pub never_both : (y : ℕ) → is_in y tables.opens ≡ true → is_in y tables.aborted ≡ true → ⊥
  never_both y open_ gone = not_both (xids_in tables.opens) (xids_in tables.aborted) y below.once (in_among y tables.opens open_) (in_among y tables.aborted gone)

-- they aren't committed
pub listed_open : (tables : Tables) (y : ℕ) → (is_in y tables.opens ≡ true) ⊎ (is_in y tables.aborted ≡ true) → is_committed_in tables y ≡ false
listed_open tables y (inl open_) = ap (λ b. nat_lt 0 y && (nat_lt y tables.next && (not b && not (is_in y tables.aborted)))) open_ ∙ no_and (nat_lt 0 y) (nat_lt y tables.next)
listed_open tables y (inr gone) =
    ap (λ b. nat_lt 0 y && (nat_lt y tables.next && (not (is_in y tables.opens) && not b))) gone
    ∙ elim (is_in y tables.opens) as (λ b. (nat_lt 0 y && (nat_lt y tables.next && (not b && false))) ≡ false) [ true ↦ no_and (nat_lt 0 y) (nat_lt y tables.next) | false ↦ no_and (nat_lt 0 y) (nat_lt y tables.next) ]

-- and those that were drawn and aren't committed are listed
pub open_listed : (tables : Tables) (y : ℕ) → 0 < y → y < tables.next → is_committed_in tables y ≡ false → (is_in y tables.opens ≡ true) ⊎ (is_in y tables.aborted ≡ true)
open_listed tables y some low isnt = known (is_in y tables.opens) (λ open_. inl open_)
    (λ shut. known (is_in y tables.aborted) (λ gone. inr gone)
    (λ kept. absurd (false≢true (sym isnt ∙ (λ i. lt-ltb 0 y some i && (lt-ltb y tables.next low i && (not (shut i) && not (kept i))))))))

-- ---- whose count falls with a new head

module _ (tables : Tables) (slot : Slot) where
  abbrev over : ℕ
  over = loses_head tables slot

  -- a slot's head is that of a listed one exactly where its count falls
  pub over_test : (y : ℕ) → is_committed_in tables y ≡ false → (y ≡ 0 → ⊥) → (slot.used && (slot.head.0 == y)) ≡ (y == over)
  over_test y open_ some = known slot.used
      (λ used. known (is_committed_in tables slot.head.0)
      (λ is. (ap (λ b. b && (slot.head.0 == y)) used ∙ ne_eqb slot.head.0 y (λ same_. false≢true (sym open_ ∙ ap (is_committed_in tables) (sym same_) ∙ is)))
      ∙ sym ((λ i. y == cond (used i && not (is i)) slot.head.0 0) ∙ ne_eqb y 0 some))
      (λ isnt. (ap (λ b. b && (slot.head.0 == y)) used ∙ turn slot.head.0 y) ∙ sym (λ i. y == cond (used i && not (isnt i)) slot.head.0 0)))
      (λ free. ap (λ b. b && (slot.head.0 == y)) free ∙ sym ((λ i. y == cond (free i && not (is_committed_in tables slot.head.0)) slot.head.0 0) ∙ ne_eqb y 0 some))

  -- it is none, or a listed one
  pub over_listed : (slot.used ≡ true → (0 < slot.head.0) × (slot.head.0 < tables.next)) → (over ≡ 0) ⊎ ((is_in over tables.opens ≡ true) ⊎ (is_in over tables.aborted ≡ true))
  over_listed drawn = known slot.used
      (λ used. known (is_committed_in tables slot.head.0)
      (λ is. inl (λ i. cond (used i && not (is i)) slot.head.0 0))
      (λ isnt. inr (subst (λ y. (is_in y tables.opens ≡ true) ⊎ (is_in y tables.aborted ≡ true)) (sym (λ i. cond (used i && not (isnt i)) slot.head.0 0))
      (open_listed tables slot.head.0 (drawn used).0 (drawn used).1 isnt))))
      (λ free. inl (λ i. cond (free i && not (is_committed_in tables slot.head.0)) slot.head.0 0))

-- ---- a Row's counts

-- the counts by what is told of each
pub counted_by : (tables : Tables) (area : Area) → AreAllOnce (xids_in tables.opens ++ xids_in tables.aborted) → Tells (head_count area) tables.opens → Tells (head_count area) tables.aborted → AreCounted tables area
counted_by tables area once opens aborted =
    let parts = once_parts (xids_in tables.opens) (xids_in tables.aborted) once in
    all_both (λ (p : ℕ × ℕ). p.1 ≡ head_count area p.0) tables.opens tables.aborted (told (head_count area) tables.opens parts.0 opens) (told (head_count area) tables.aborted parts.1 aborted)

pub counts_tell : (tables : Tables) (area : Area) → AreCounted tables area → Tells (head_count area) tables.opens × Tells (head_count area) tables.aborted
counts_tell tables area counts =
    let parts = all_parts (λ (p : ℕ × ℕ). p.1 ≡ head_count area p.0) tables.opens tables.aborted counts in
    (tells (head_count area) tables.opens parts.0, tells (head_count area) tables.aborted parts.1)

once_carried : (old new : Tables) → HaveSameXids old new → AreAllOnce (xids_in old.opens ++ xids_in old.aborted) → AreAllOnce (xids_in new.opens ++ xids_in new.aborted)
once_carried old new same_ once = subst AreAllOnce (λ i. sym same_.opens i ++ sym same_.aborted i) once

module _ (tables : Tables) (area : Area) (at : Place) (s : Slot) (x : ℕ) (once : StandsOnce at (all_slots area)) (used : s.used ≡ true) (mine : s.head.0 ≡ x)
    (below : NumbersBelow tables.next (xids_in tables.opens ++ xids_in tables.aborted) area) (is_open : is_in x tables.opens ≡ true)
    (drawn : (area.slot at).used ≡ true → (0 < (area.slot at).head.0) × ((area.slot at).head.0 < tables.next)) (counts : AreCounted tables area) where
  abbrev falls : ℕ
  falls = loses_head tables (area.slot at)

  abbrev new : Area
  new = with_slot at s area

  abbrev between : ℕ → ℕ
  between y = head_count area y + bit (y == x)

  abbrev Listed : ℕ → Type 0
  Listed y = (is_in y tables.opens ≡ true) ⊎ (is_in y tables.aborted ≡ true)

  nonzero : (y : ℕ) → Listed y → y ≡ 0 → ⊥
  nonzero y listed is = let some = (listed_drawn tables.next area tables below y listed).0 in omega (arith, some, is)

  head_moves_by : (y : ℕ) → Listed y → head_count new y + bit (y == falls) ≡ between y
  head_moves_by y listed =
      ap (λ b. head_count new y + bit b) (sym (over_test tables (area.slot at) y (listed_open tables y listed) (nonzero y listed)))
      ∙ heads_changed area at s y once ∙ ap (λ b. head_count area y + bit b) ((λ i. used i && (mine i == y)) ∙ turn x y)

  others_stay : (y : ℕ) → Listed y → (y ≡ falls → ⊥) → between y ≡ head_count new y
  others_stay y listed apart = sym (zero_plus (head_count new y) (between y) (ap (λ b. head_count new y + bit b) (sym (ne_eqb y falls apart)) ∙ head_moves_by y listed))

  abbrev raised_tables : Tables
  raised_tables = one_head_more x tables

  was_open : (y : ℕ) → is_in y raised_tables.opens ≡ true → is_in y tables.opens ≡ true
  was_open y in_ = same_in y tables.opens raised_tables.opens (sym (more_same x tables).opens) ∙ in_

  raised_opens : Tells between raised_tables.opens
  raised_opens = raised (head_count area) between x tables.opens is_open (counts_tell tables area counts).0 (λ y in_. refl)

  raised_aborted : Tells between tables.aborted
  raised_aborted = retold (head_count area) between tables.aborted
      (λ y in_. plus_zero (head_count area y) ∙ ap (λ b. head_count area y + bit b) (sym (ne_eqb y x (λ is. never_both tables.next area tables below x is_open (subst (λ y. is_in y tables.aborted ≡ true) is in_)))))
      (counts_tell tables area counts).1

  raised_once : AreAllOnce (xids_in raised_tables.opens ++ xids_in raised_tables.aborted)
  raised_once = once_carried tables raised_tables (more_same x tables) below.once

  fallen_once : AreAllOnce (xids_in (one_head_less falls raised_tables).opens ++ xids_in (one_head_less falls raised_tables).aborted)
  fallen_once = once_carried raised_tables (one_head_less falls raised_tables) (less_same falls raised_tables) raised_once

  abbrev less_opens : Tables
  less_opens = record raised_tables { opens = with_heads falls (heads_in falls raised_tables.opens - 1) raised_tables.opens }

  still_open : is_in falls tables.opens ≡ true → is_in falls raised_tables.opens ≡ true
  still_open in_ = same_in falls raised_tables.opens tables.opens (more_same x tables).opens ∙ in_

  not_open : is_in falls tables.aborted ≡ true → is_in falls raised_tables.opens ≡ false
  not_open gone = known (is_in falls raised_tables.opens) (λ is. absurd (never_both tables.next area tables below falls (was_open falls is) gone)) (λ isnt. isnt)

  to_tell : (after : Tables) → one_head_less falls raised_tables ≡ after → AreCounted after new → AreCounted (one_head_less falls raised_tables) new
  to_tell after is told_ = subst (λ t. AreCounted t new) (sym is) told_

  once_there : (after : Tables) → one_head_less falls raised_tables ≡ after → AreAllOnce (xids_in after.opens ++ xids_in after.aborted)
  once_there after is = subst (λ (t : Tables). AreAllOnce (xids_in t.opens ++ xids_in t.aborted)) is fallen_once

  abbrev by_cases : Bool → Bool → Tables
  by_cases none in_opens = cond none raised_tables (cond in_opens less_opens (one_aborted_less falls raised_tables))

  pub row_counts : AreCounted (one_head_less falls raised_tables) new
  row_counts = ⊎_elim nobody (λ listed. ⊎_elim in_opens in_aborted listed) (over_listed tables (area.slot at) drawn)
    where
      nobody : falls ≡ 0 → AreCounted (one_head_less falls raised_tables) new
      nobody is =
          let same_ : one_head_less falls raised_tables ≡ raised_tables = ap (λ b. by_cases b (is_in falls raised_tables.opens)) (eq-eqb falls 0 is) in
          to_tell raised_tables same_ (counted_by raised_tables new raised_once
          (retold between (head_count new) raised_tables.opens (λ y in_. others_stay y (inl (was_open y in_)) (λ same_y. nonzero y (inl (was_open y in_)) (same_y ∙ is))) raised_opens)
          (retold between (head_count new) tables.aborted (λ y in_. others_stay y (inr in_) (λ same_y. nonzero y (inr in_) (same_y ∙ is))) raised_aborted))

      in_opens : is_in falls tables.opens ≡ true → AreCounted (one_head_less falls raised_tables) new
      in_opens there =
          let same_ : one_head_less falls raised_tables ≡ less_opens = (λ i. by_cases (ne_eqb falls 0 (nonzero falls (inl there)) i) (still_open there i)) in
          to_tell less_opens same_ (counted_by less_opens new (once_there less_opens same_)
          (lowered between (head_count new) falls raised_tables.opens (still_open there) raised_opens (λ y in_. head_moves_by y (inl (was_open y in_))))
          (retold between (head_count new) tables.aborted
          (λ y in_. others_stay y (inr in_) (λ is. never_both tables.next area tables below falls there (subst (λ y. is_in y tables.aborted ≡ true) is in_))) raised_aborted))

      in_aborted : is_in falls tables.aborted ≡ true → AreCounted (one_head_less falls raised_tables) new
      in_aborted gone =
          let after : Tables = one_aborted_less falls raised_tables in
          let same_ : one_head_less falls raised_tables ≡ after = (λ i. by_cases (ne_eqb falls 0 (nonzero falls (inr gone)) i) (not_open gone i)) in
          to_tell after same_ (counted_by after new (once_there after same_)
          (retold between (head_count new) raised_tables.opens
          (λ y in_. others_stay y (inl (was_open y in_)) (λ is. never_both tables.next area tables below falls (subst (λ y. is_in y tables.opens ≡ true) is (was_open y in_)) gone)) raised_opens)
          (lowered between (head_count new) falls tables.aborted gone raised_aborted (λ y in_. head_moves_by y (inr in_))))
