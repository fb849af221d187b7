-- One slot is changed: the chain of its key is set, and no other.
use Rattle.std.proofs.Common.{◌≡◌, ⊎_elim, inr, ℕ, ◌<◌, ◌≤◌, ℤ, Bool, true, false, cond, List, [], Option, Some, None, refl, sym, ◌∙◌, ap, subst, arith}
use Rattle.std.proofs.lemmas.Bool.{false≢true, eq-eqb, eqb-true, cases_lt}
use Rattle.std.specs.FinMap.Entries.{find, is_sorted}
use Rattle.std.specs.Ordering.{int_cmp, int_eq}
use Rattle.std.specs.Prelude.{◌==◌, ◌&&◌, T, unwrap_or}
use Rattle.ctr_area.proofs.Places.{same_place_is}
use Rattle.ctr_area.specs.Areas.{same_place, RowVersion, Slot, Area}
use Rattle.ctr_area.specs.Chains.{slot_places, chain_of}
use Rattle.ctr_area.specs.Changes.{with_slot}
use Rattle.ctr_area.specs.Images.{rows_gathered, rows_of_entry, entry_numbers, versions_in}
use Rattle.ctr_area.specs.Sound.{IsAmong}
use Rattle.ctr_record_laws.proofs.Fitting.{alone}
use Rattle.ctr_record_laws.proofs.Gathering.{matches, is_match, match_used, match_key, sorted-gathered, found_here, none_found, same_found, numbered_past, numbered_here}
use Rattle.ctr_record_laws.proofs.OneSlot.{slot_here, slot_apart}
use Rattle.ctr_area.specs.ctr_page.declared.rows.Place.{Place}
use Rattle.ctr_area.proofs.ctr_versions.Keys.{known}
use Rattle.ctr_area.specs.versions_Versions.{slots_of, rows_of, is_slot, RowsSet}

-- ---- the rows of a table

pub slots_here : (committed : ℕ → Bool) (area : Area) (i : ℕ) → i < 32 → slots_of (versions_in committed area) i ≡ rows_of_entry area i
unfolding entry_numbers
slots_here committed area i lt = ap (λ (o : Option (List (ℤ × List RowVersion))). unwrap_or o []) (numbered_here (rows_of_entry area) i 0 32 (omega arith) (omega (arith, lt)))

pub slots_past : (committed : ℕ → Bool) (area : Area) (i : ℕ) → 32 ≤ i → slots_of (versions_in committed area) i ≡ []
unfolding entry_numbers
slots_past committed area i le = ap (λ (o : Option (List (ℤ × List RowVersion))). unwrap_or o []) (numbered_past (rows_of_entry area) i 0 32 (inr (omega (arith, le))))

pub rows_sorted : (committed : ℕ → Bool) (area : Area) (i : ℕ) → T (is_sorted int_cmp (slots_of (versions_in committed area) i))
rows_sorted committed area i = ⊎_elim
    (λ lt. subst (λ slots. T (is_sorted int_cmp slots)) (sym (slots_here committed area i lt)) (sorted-gathered area.older area.slot (slot_places area i)))
    (λ le. subst (λ slots. T (is_sorted int_cmp slots)) (sym (slots_past committed area i le)) tt) (cases_lt i 32)

abbrev pub chain_found : Option (List RowVersion) → List RowVersion
chain_found o = unwrap_or o []

-- ---- one slot

-- A slot of a table is changed that is free or has the key, and no other used slot of the table has the key.
module _ (committed : ℕ → Bool) (area : Area) (e : ℕ) (at : Place) (s : Slot) (key : ℤ) (inside : e < 32) (here : IsAmong at (slot_places area e)) (only : (f : ℕ) → IsAmong at (slot_places area f) → f ≡ e)
    (old_key : (area.slot at).used ≡ true → (area.slot at).key ≡ key) (new_key : s.used ≡ true → s.key ≡ key)
    (alone : (b : Place) → IsAmong b (slot_places area e) → (area.slot b).used ≡ true → (area.slot b).key ≡ key → b ≡ at) where
  abbrev new_area : Area
  new_area = with_slot at s area

  slot_itself : new_area.slot at ≡ s
  slot_itself = slot_here area at s at refl

  but_here : (b : Place) → (b ≡ at → ⊥) → new_area.slot b ≡ area.slot b
  but_here = slot_apart area at s

  new_alone : (b : Place) → IsAmong b (slot_places area e) → matches new_area.slot key b ≡ true → b ≡ at
  new_alone b in_ is = known (same_place b at) (λ same_. same_place_is b at same_)
      (λ apart. let same_ = ap (λ t. cond t s (area.slot b)) apart in
      alone b in_ (ap (λ (s : Slot). s.used) (sym same_) ∙ match_used new_area.slot key b is) (ap (λ (s : Slot). s.key) (sym same_) ∙ match_key new_area.slot key b is))

  -- where it is used it stands under its key, and else nothing does
  key_here : find int_cmp key (rows_gathered area.older new_area.slot (slot_places area e)) ≡ cond s.used (Some (chain_of area.older s)) None
  key_here = known s.used
      (λ used. found_here area.older new_area.slot key (slot_places area e) at here
      (is_match new_area.slot key at (ap (λ (s : Slot). s.used) slot_itself ∙ used) (ap (λ (s : Slot). s.key) slot_itself ∙ new_key used)) new_alone
      ∙ ap (λ s. Some (chain_of area.older s)) slot_itself ∙ sym (ap (λ b. cond b (Some (chain_of area.older s)) None) used))
      (λ free. none_found area.older new_area.slot key (slot_places area e)
      (λ b in_. known (matches new_area.slot key b)
      (λ is. absurd (false≢true (sym free ∙ sym (ap (λ (s : Slot). s.used) slot_itself) ∙ ap (λ b. (new_area.slot b).used) (sym (new_alone b in_ is)) ∙ match_used new_area.slot key b is)))
      (λ is. is))
      ∙ sym (ap (λ b. cond b (Some (chain_of area.older s)) None) free))

  no_match : (slot : Slot) (k : ℤ) → (slot.used ≡ true → slot.key ≡ key) → int_eq k key ≡ false → (slot.used && int_eq k slot.key) ≡ false
  no_match slot k its other = known slot.used
      (λ used. (λ i. used i && int_eq k (its used i)) ∙ other)
      (λ free. ap (λ b. b && int_eq k slot.key) free)

  -- other keys of the table
  slot_others : (k : ℤ) → int_eq k key ≡ false → find int_cmp k (rows_gathered area.older new_area.slot (slot_places area e)) ≡ find int_cmp k (rows_gathered area.older area.slot (slot_places area e))
  slot_others k other = same_found area.older area.older area.slot new_area.slot k (slot_places area e)
      (λ b in_. known (same_place b at)
      (λ same_. let is = same_place_is b at same_ in
      subst (λ b. matches new_area.slot k b ≡ matches area.slot k b) (sym is)
      (ap (λ (s : Slot). s.used && int_eq k s.key) slot_itself ∙ no_match s k new_key other ∙ sym (no_match (area.slot at) k old_key other)))
      (λ apart. ap (λ (s : Slot). s.used && int_eq k s.key) (same_but b apart)))
      (λ b in_ is. known (same_place b at)
      (λ same_. absurd (false≢true (sym (no_match (area.slot at) k old_key other) ∙ ap (matches area.slot k) (sym (same_place_is b at same_)) ∙ is)))
      (λ apart. ap (chain_of area.older) (same_but b apart)))
    where
      same_but : (b : Place) → same_place b at ≡ false → new_area.slot b ≡ area.slot b
      same_but b apart = ap (λ t. cond t s (area.slot b)) apart

  -- other tables
  slot_elsewhere : (i : ℕ) → (i ≡ e → ⊥) → (k : ℤ) → find int_cmp k (rows_gathered area.older new_area.slot (slot_places area i)) ≡ find int_cmp k (rows_gathered area.older area.slot (slot_places area i))
  slot_elsewhere i apart k = same_found area.older area.older area.slot new_area.slot k (slot_places area i)
      (λ b in_. ap (λ (s : Slot). s.used && int_eq k s.key) (but_here b (away b in_)))
      (λ b in_ is. ap (chain_of area.older) (but_here b (away b in_)))
    where
      away : (b : Place) → IsAmong b (slot_places area i) → b ≡ at → ⊥
      away b in_ is = apart (only i (subst (λ b. IsAmong b (slot_places area i)) is in_))

  others_slots : (i : ℕ) (k : ℤ) → is_slot e key i k ≡ false → i < 32 → rows_of (versions_in committed new_area) i k ≡ rows_of (versions_in committed area) i k
  others_slots i k other lt =
      ap (λ slots. chain_found (find int_cmp k slots)) (slots_here committed new_area i lt)
      ∙ ap chain_found (known (i == e)
      (λ same_. let is = eqb-true i e same_ in
      subst (λ i. find int_cmp k (rows_gathered area.older new_area.slot (slot_places area i)) ≡ find int_cmp k (rows_gathered area.older area.slot (slot_places area i))) (sym is)
      (slot_others k (sym (ap (λ b. b && int_eq k key) same_) ∙ other)))
      (λ apart. slot_elsewhere i (λ is. false≢true (sym apart ∙ eq-eqb i e is)) k))
      ∙ sym (ap (λ slots. chain_found (find int_cmp k slots)) (slots_here committed area i lt))

  pub slot_set : RowsSet (versions_in committed area) (versions_in committed (with_slot at s area)) e key (cond s.used (chain_of area.older s) [])
  slot_set = record {
    names = refl;
    sorted = rows_sorted committed (with_slot at s area);
    here = ap (λ slots. chain_found (find int_cmp key slots)) (slots_here committed (with_slot at s area) e inside) ∙ ap chain_found key_here
        ∙ elim s.used as (λ b. unwrap_or (cond b (Some (chain_of area.older s)) None) [] ≡ cond b (chain_of area.older s) []) [ true ↦ refl | false ↦ refl ];
    others = λ i k other. ⊎_elim (others_slots i k other)
        (λ le. ap (λ slots. chain_found (find int_cmp k slots)) (slots_past committed (with_slot at s area) i le) ∙ sym (ap (λ slots. chain_found (find int_cmp k slots)) (slots_past committed area i le))) (cases_lt i 32);
  }

-- what stood under the key before
pub slot_was : (committed : ℕ → Bool) (area : Area) (e : ℕ) (at : Place) (key : ℤ) → e < 32 → IsAmong at (slot_places area e) → (area.slot at).used ≡ true → (area.slot at).key ≡ key
    → ((b : Place) → IsAmong b (slot_places area e) → (area.slot b).used ≡ true → (area.slot b).key ≡ key → b ≡ at) → rows_of (versions_in committed area) e key ≡ chain_of area.older (area.slot at)
slot_was committed area e at key inside here used its alone =
    ap (λ slots. chain_found (find int_cmp key slots)) (slots_here committed area e inside)
    ∙ ap chain_found (found_here area.older area.slot key (slot_places area e) at here (is_match area.slot key at used its) (λ b in_ is. alone b in_ (match_used area.slot key b is) (match_key area.slot key b is)))

pub slot_wasnt : (committed : ℕ → Bool) (area : Area) (e : ℕ) (key : ℤ) → e < 32 → ((b : Place) → IsAmong b (slot_places area e) → (area.slot b).used ≡ true → (area.slot b).key ≡ key → ⊥) → rows_of (versions_in committed area) e key ≡ []
slot_wasnt committed area e key inside none =
    ap (λ slots. chain_found (find int_cmp key slots)) (slots_here committed area e inside)
    ∙ ap chain_found (none_found area.older area.slot key (slot_places area e)
    (λ b in_. known (matches area.slot key b) (λ is. absurd (none b in_ (match_used area.slot key b is) (match_key area.slot key b is))) (λ is. is)))
