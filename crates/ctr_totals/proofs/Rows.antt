-- The rows of a table that are seen, slot by slot: each key has one slot, so each slot is one row more, or none.
use Rattle.std.proofs.Common.{◌≡◌, ⊎_elim, inl, inr, ℕ, zero, suc, ◌+◌, ◌<◌, ◌≤◌, ℤ, pos, Bool, false, cond, List, [], ◌∷◌, ◌++◌, Option, Some, None, refl, sym, ◌∙◌, ap, subst, length, arith}
use Rattle.std.specs.Prelude.{◌+ℤ◌, ◌==◌}
use Rattle.std.specs.Option.{option_map, option_map_or}
use Rattle.std.specs.List.{flat_map}
use Rattle.std.specs.declared.cmp.Ordering.{Ordering}
use Rattle.std.specs.declared.cmp.Ordering.TheVariants.{Less, Equal, Greater}
use Rattle.std.specs.Ordering.{int_cmp, is_eq}
use Rattle.std.specs.FinMap.Entries.{by_order, find, put}
use Rattle.std.proofs.lemmas.Bool.{false≢true, eq-eqb, eqb-true}
use Rattle.std.proofs.lemmas.Int.{ints}
use Rattle.ctr_types.specs.declared.value.Row.{Row}
use Rattle.ctr_versions.specs.Chains.{value_seen}
use Rattle.ctr_versions.specs.Listing.{entries_seen}
use Rattle.ctr_versions.proofs.Keys.{known}
use Rattle.ctr_page.specs.declared.rows.Place.{Place}
use Rattle.ctr_area.specs.Areas.{RowVersion, Area}
use Rattle.ctr_area.specs.Chains.{chain_of, slot_places}
use Rattle.ctr_area.specs.Images.{entry_numbers, numbers, rows_gathered, rows_of_entry}
use Rattle.ctr_area.specs.Sound.{IsAmong, AreKeyed, IsSoundArea}
use Rattle.ctr_meta.specs.Tables.{Tables}
use Rattle.ctr_record_laws.specs.Bounds.{IsInBounds}
use Rattle.ctr_record_laws.proofs.Gathering.{matches, match_key, match_used, none_found}
use Rattle.ctr_record_laws.proofs.Members.{StandsOnce, among_front, once_rest}
use Rattle.ctr_record_laws.proofs.Owned.{among_numbered, slot_inside, slot_once}
use Rattle.ctr_record_laws.proofs.Room.{AreApart}
use Rattle.ctr_totals.specs.Totals.{number_of_row, sum_of_rows}
use Rattle.ctr_totals.specs.Facts.{number_seen}
use Rattle.ctr_totals.specs.Counting.{one_row, one_number, rows_along, sum_along}

-- ---- one row more

nat_moved : (a b c : ℕ) → a + (b + c) ≡ b + (a + c)
nat_moved a b c = omega arith

int_moved : (a b c : ℤ) → a +ℤ (b +ℤ c) ≡ b +ℤ (a +ℤ c)
int_moved a b c = omega (arith, ints)

no_more : (n : ℤ) → n ≡ pos 0 +ℤ n
no_more n = omega (arith, ints)

module _ (test : ℕ → Bool) where
  abbrev Entries : Type 0
  Entries = List (ℤ × List RowVersion)

  -- what is seen of entries has so many rows, and this sum
  pub record Sees (entries : Entries) (rows : ℕ) (sum : ℤ) : Type 0 where
    pub rows_are : length (entries_seen test entries) ≡ rows
    pub sum_is : sum_of_rows (entries_seen test entries) ≡ sum

  sees_first : (e : ℤ × List RowVersion) (es : Entries) (rows : ℕ) (sum : ℤ) → Sees es rows sum → Sees (e ∷ es) (one_row (number_seen test e.1) + rows) (one_number (number_seen test e.1) +ℤ sum)
  sees_first e es rows sum rest = record {
    rows_are = by_rows (value_seen test e.1);
    sum_is = by_sum (value_seen test e.1);
  }
    where
      by_rows : (o : Option Row) → length (option_map_or (λ v. (e.0, v) ∷ entries_seen test es) o (entries_seen test es)) ≡ one_row (option_map number_of_row o) + rows
      by_rows None = let is = rest.rows_are in omega (arith, is)
      by_rows (Some row) = let is = rest.rows_are in omega (arith, is)

      by_sum : (o : Option Row) → sum_of_rows (option_map_or (λ v. (e.0, v) ∷ entries_seen test es) o (entries_seen test es)) ≡ one_number (option_map number_of_row o) +ℤ sum
      by_sum None = rest.sum_is ∙ no_more sum
      by_sum (Some row) = ap (λ s. number_of_row row +ℤ s) rest.sum_is

  abbrev With : List RowVersion → ℕ → ℤ → Entries → Type 0
  With chain rows sum entries = Sees entries (one_row (number_seen test chain) + rows) (one_number (number_seen test chain) +ℤ sum)

  sees_put : (key : ℤ) (chain : List RowVersion) (es : Entries) (rows : ℕ) (sum : ℤ) → find int_cmp key es ≡ None → Sees es rows sum
      → Sees (put int_cmp key chain es) (one_row (number_seen test chain) + rows) (one_number (number_seen test chain) +ℤ sum)
  sees_put key chain [] rows sum none rest = sees_first (key, chain) [] rows sum rest
  sees_put key chain (e ∷ es) rows sum none rest =
      by (λ other. sees_put key chain es (length (entries_seen test es)) (sum_of_rows (entries_seen test es)) other (record { rows_are = refl; sum_is = refl })) (int_cmp key e.0) none
    where
      -- the first one, and those behind it
      behind : Sees (put int_cmp key chain es) (one_row (number_seen test chain) + length (entries_seen test es)) (one_number (number_seen test chain) +ℤ sum_of_rows (entries_seen test es)) → With chain rows sum (e ∷ put int_cmp key chain es)
      behind more =
          let old = sees_first e es (length (entries_seen test es)) (sum_of_rows (entries_seen test es)) (record { rows_are = refl; sum_is = refl }) in
          let new = sees_first e (put int_cmp key chain es) _ _ more in
          let old_rows = sym old.rows_are ∙ rest.rows_are in
          let old_sum = sym old.sum_is ∙ rest.sum_is in
          record {
            rows_are = new.rows_are ∙ nat_moved (one_row (number_seen test e.1)) (one_row (number_seen test chain)) (length (entries_seen test es)) ∙ ap (λ n. one_row (number_seen test chain) + n) old_rows;
            sum_is = new.sum_is ∙ int_moved (one_number (number_seen test e.1)) (one_number (number_seen test chain)) (sum_of_rows (entries_seen test es)) ∙ ap (λ n. one_number (number_seen test chain) +ℤ n) old_sum;
          }

      by : (find int_cmp key es ≡ None → Sees (put int_cmp key chain es) (one_row (number_seen test chain) + length (entries_seen test es)) (one_number (number_seen test chain) +ℤ sum_of_rows (entries_seen test es)))
          → (o : Ordering) → cond (is_eq o) (Some e.1) (find int_cmp key es) ≡ None → With chain rows sum (by_order o ((key, chain) ∷ e ∷ es) ((e.0, chain) ∷ es) (e ∷ put int_cmp key chain es))
      by more Less other = sees_first (key, chain) (e ∷ es) rows sum rest
      by more Equal other = absurd cc
      by more Greater other = behind (more other)

  -- ---- slots

  module _ (area : Area) (e : ℕ) (keyed : AreKeyed area) where
    slots_seen : (places : List Place) → AreApart places → ((at : Place) → IsAmong at places → IsAmong at (slot_places area e)) → Sees (rows_gathered area.older area.slot places) (rows_along test area places) (sum_along test area places)
    slots_seen [] apart all = record { rows_are = refl; sum_is = refl }
    slots_seen (at ∷ places) apart all =
        let rest = slots_seen places apart.1 (λ b in_. all b (inr in_)) in
        let gathered = rows_gathered area.older area.slot places in
        known (area.slot at).used
        (λ used.
        let other : (b : Place) → IsAmong b places → matches area.slot (area.slot at).key b ≡ false = λ b in_. known (matches area.slot (area.slot at).key b)
        (λ is. absurd (apart.0 (subst (λ p. IsAmong p places) (keyed.once e b at (all b (inr in_), match_used area.slot (area.slot at).key b is) (all at (inl refl), used) (match_key area.slot (area.slot at).key b is)) in_)))
        (λ isnt. isnt) in
        let more = sees_put (area.slot at).key (chain_of area.older (area.slot at)) gathered (rows_along test area places) (sum_along test area places) (none_found area.older area.slot (area.slot at).key places other) rest in
        subst (λ b. Sees (cond b (put int_cmp (area.slot at).key (chain_of area.older (area.slot at)) gathered) gathered)
        (one_row (cond b (number_seen test (chain_of area.older (area.slot at))) None) + rows_along test area places)
        (one_number (cond b (number_seen test (chain_of area.older (area.slot at))) None) +ℤ sum_along test area places)) (sym used) more)
        (λ isnt.
        let same_rows = rest.rows_are in
        let same_sum = rest.sum_is in
        subst (λ b. Sees (cond b (put int_cmp (area.slot at).key (chain_of area.older (area.slot at)) gathered) gathered)
        (one_row (cond b (number_seen test (chain_of area.older (area.slot at))) None) + rows_along test area places)
        (one_number (cond b (number_seen test (chain_of area.older (area.slot at))) None) +ℤ sum_along test area places)) (sym isnt)
        (record { rows_are = omega (arith, same_rows); sum_is = same_sum ∙ no_more (sum_along test area places) }))

-- ---- each slot comes once

once_left : (at : Place) (xs ys : List Place) → StandsOnce at (xs ++ ys) → IsAmong at xs → StandsOnce at xs
once_left at [] ys once in_ = absurd in_
once_left at (x ∷ xs) ys once in_ = ⊎_elim
    (λ (here : (at ≡ x) × (IsAmong at (xs ++ ys) → ⊥)). inl (here.0, λ there. here.1 (among_front at xs ys there)))
    (λ (later : (at ≡ x → ⊥) × StandsOnce at (xs ++ ys)). inr (later.0, once_left at xs ys later.1 (⊎_elim (λ is. absurd (later.0 is)) (λ there. there) in_)))
    once

once_in : (f : ℕ → List Place) (at : Place) (e k n : ℕ) → StandsOnce at (flat_map f (numbers k n)) → k ≤ e → e < k + n → IsAmong at (f e) → StandsOnce at (f e)
once_in f at e k zero once from to in_ = absurd (omega (arith, from, to))
once_in f at e k (suc n) once from to in_ = known (k == e)
    (λ is. subst (λ d. StandsOnce at (f d)) (eqb-true k e is) (once_left at (f k) (flat_map f (numbers (k + 1) n)) once (subst (λ d. IsAmong at (f d)) (sym (eqb-true k e is)) in_)))
    (λ isnt.
    let past = later k e from (λ is. false≢true (sym isnt ∙ eq-eqb k e is)) in
    once_in f at e (k + 1) n (once_rest at (f k) (flat_map f (numbers (k + 1) n)) once (among_numbered f at e (k + 1) n past (omega (arith, to)) in_)) past (omega (arith, to)) in_)
  where
    later : (k e : ℕ) → k ≤ e → (k ≡ e → ⊥) → k + 1 ≤ e
    later k e from other = omega (arith, from, other)

all_apart : (xs : List Place) → ((at : Place) → IsAmong at xs → StandsOnce at xs) → AreApart xs
all_apart [] once = tt
all_apart (x ∷ xs) once = (
  λ in_. ⊎_elim (λ (here : (x ≡ x) × (IsAmong x xs → ⊥)). here.1 in_) (λ (later : (x ≡ x → ⊥) × StandsOnce x xs). later.0 refl) (once x (inl refl)),
  all_apart xs (λ at in_. ⊎_elim (λ (here : (at ≡ x) × (IsAmong at xs → ⊥)). absurd (here.1 in_)) (λ (later : (at ≡ x → ⊥) × StandsOnce at xs). later.1) (once at (inr in_))),
)

-- what is seen of a table's rows is what is seen of its slots
pub table_seen : (test : ℕ → Bool) (counted : ℕ) (tables : Tables) (area : Area) (e : ℕ) → IsSoundArea counted tables area → IsInBounds area
    → Sees test (rows_of_entry area e) (rows_along test area (slot_places area e)) (sum_along test area (slot_places area e))
unfolding entry_numbers
table_seen test counted tables area e sound bounds = slots_seen test area e sound.keys (slot_places area e)
    (all_apart (slot_places area e) (λ at in_.
    let lt = slot_inside area bounds e at in_ in
    once_in (slot_places area) at e 0 32 (slot_once area bounds counted _ tables.items sound.owned e at in_) (omega arith) (omega (arith, lt)) in_))
    (λ at in_. in_)
