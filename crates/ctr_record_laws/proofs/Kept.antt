-- Version entries are changed that no chain has: a free one, or one that no pointer leads to.
use Rattle.std.proofs.Common.{◌≡◌, ℕ, ◌<◌, Bool, true, false, cond, List, [], ◌∷◌, ◌++◌, map, drop, refl, sym, ◌∙◌, ap, subst}
use Rattle.std.proofs.lemmas.Bool.{false≢true}
use Rattle.std.specs.FinMap.Entries.{put}
use Rattle.std.specs.List.{AllByRecursion}
use Rattle.ctr_area.proofs.Buckets.{each_of}
use Rattle.ctr_area.proofs.Places.{same_place_itself}
use Rattle.ctr_area.specs.Areas.{RowVersion, Slot, Older, Area}
use Rattle.ctr_area.specs.Chains.{older_bound, slot_places, places_along, if_any, chain_of, Leads}
use Rattle.ctr_area.specs.Changes.{with_older}
use Rattle.ctr_area.specs.Images.{rows_of_entry, entry_numbers, versions_in, image_rows, tables_standing, is_standing}
use Rattle.ctr_area.specs.Sound.{IsAmong, IsUsedSlot, AreBehind, IsKeptFor, along, ArePointed}
use Rattle.ctr_area.specs.model_Database.{name_cmp}
use Rattle.ctr_record_laws.proofs.Along.{versions_at, same_along, all_along, leads_same, same_versions}
use Rattle.ctr_record_laws.proofs.Gathering.{same_gathered}
use Rattle.ctr_record_laws.proofs.Members.{all_each}
use Rattle.ctr_record_laws.proofs.OneSlot.{other_place}
use Rattle.ctr_area.specs.ctr_page.declared.rows.Place.{Place}
use Rattle.ctr_area.specs.versions_Listing.{entries_seen}

module _ (area : Area) (at : Place) (k : Older) where
  abbrev after : Area
  after = with_older at k area

  pub older_apart : (q : Place) → (q ≡ at → ⊥) → after.older q ≡ area.older q
  older_apart q apart = ap (λ b. cond b k (area.older q)) (other_place q at apart)

  pub older_here : (q : Place) → q ≡ at → after.older q ≡ k
  older_here q is = ap after.older is ∙ ap (λ b. cond b k (area.older at)) (same_place_itself at)

  -- a free entry is on no way through used ones
  pub free_apart : (is : Place → Older → Type 0) → ((q : Place) (j : Older) → is q j → j.used ≡ true) → (area.older at).used ≡ false
      → (q : Place) → is q (area.older q) → after.older q ≡ area.older q
  free_apart is uses free q its = older_apart q (λ same_. false≢true (sym free ∙ ap (λ q. (area.older q).used) (sym same_) ∙ uses q (area.older q) its))

  -- a chain that leads through others is what it was
  pub same_chain : (is : Place → Older → Type 0) → ((q : Place) → is q (area.older q) → after.older q ≡ area.older q)
      → (slot : Slot) → Leads older_bound area.older is slot.pointer → chain_of after.older slot ≡ chain_of area.older slot
  same_chain is same_ slot leads =
      ap (λ vs. slot.head ∷ (if_any slot.previous ++ vs))
      (ap (versions_at after.older) (same_along area.older is after.older same_ older_bound slot.pointer leads)
      ∙ same_versions area.older after.older (places_along older_bound area.older slot.pointer)
      (all_each {P = λ q. is q (area.older q)} {Q = λ q. after.older q ≡ area.older q} (places_along older_bound area.older slot.pointer) same_
      (all_along area.older is older_bound slot.pointer leads)))

  -- where the chains of all used slots are what they were, so is all that is shown
  module _ (chains : (e : ℕ) (b : Place) → IsUsedSlot area e b → chain_of after.older (area.slot b) ≡ chain_of area.older (area.slot b)) where
    pub rows_stay : (e : ℕ) → rows_of_entry after e ≡ rows_of_entry area e
    rows_stay e = same_gathered area.older after.older area.slot (slot_places area e) (λ b in_ used. chains e b (in_, used))

    pub versions_stay : (committed : ℕ → Bool) → versions_in committed after ≡ versions_in committed area
    versions_stay committed = λ i. record (versions_in committed area) { slots = map (λ e. (e, rows_stay e i)) entry_numbers }

    tables_stay : (committed : ℕ → Bool) (es : List ℕ) → tables_standing committed after es ≡ tables_standing committed area es
    tables_stay committed [] = refl
    tables_stay committed (e ∷ es) = λ i. cond (is_standing committed (area.title e))
        (put name_cmp (area.title e).name (record { schema = record { columns = (area.title e).columns }; rows = entries_seen committed (rows_stay e i) }) (tables_stay committed es i))
        (tables_stay committed es i)

    pub image_stays : (committed : ℕ → Bool) → image_rows committed after ≡ image_rows committed area
    image_stays committed = tables_stay committed entry_numbers

    pub behind_stays : (committed : ℕ → Bool) → AreBehind committed area → AreBehind committed after
    behind_stays committed behind e b used =
        subst (λ c. (0 < (area.slot b).head.0) × AllByRecursion (λ (w : RowVersion). committed w.0 ≡ true) (drop 1 c)) (sym (chains e b used)) (behind e b used)

-- ---- a Keep

module _ (area : Area) (at : Place) (k : Older) (free : (area.older at).used ≡ false) (pointers : ArePointed area) where
  abbrev kept : Area
  kept = with_older at k area

  way_stays : (e : ℕ) (b : Place) → (q : Place) → IsKeptFor area e (area.slot b).key q (area.older q) → kept.older q ≡ area.older q
  way_stays e b = free_apart area at k (IsKeptFor area e (area.slot b).key) (λ q j its. its.1) free

  pub kept_chains : (e : ℕ) (b : Place) → IsUsedSlot area e b → chain_of kept.older (area.slot b) ≡ chain_of area.older (area.slot b)
  kept_chains e b used = same_chain area at k (IsKeptFor area e (area.slot b).key) (way_stays e b) (area.slot b) (pointers.lead e b used)

  pub kept_along : (e : ℕ) (b : Place) → IsUsedSlot area e b → along kept b ≡ along area b
  kept_along e b used = same_along area.older (IsKeptFor area e (area.slot b).key) kept.older (way_stays e b) older_bound (area.slot b).pointer (pointers.lead e b used)

  pub kept_pointers : ArePointed kept
  kept_pointers = record {
    lead = λ e b used. leads_same area.older (IsKeptFor area e (area.slot b).key) kept.older (IsKeptFor kept e (area.slot b).key) (way_stays e b) (λ q its. its) older_bound (area.slot b).pointer (pointers.lead e b used);
    apart = λ e f a b q used_a used_b in_a in_b. pointers.apart e f a b q used_a used_b (subst (IsAmong q) (kept_along e a used_a) in_a) (subst (IsAmong q) (kept_along f b used_b) in_b);
  }

  -- the entry was in no chain
  pub not_along : (e : ℕ) (b : Place) → IsUsedSlot area e b → IsAmong at (along area b) → ⊥
  not_along e b used in_ =
      let its = each_of (λ q. IsKeptFor area e (area.slot b).key q (area.older q)) at (along area b) (all_along area.older (IsKeptFor area e (area.slot b).key) older_bound (area.slot b).pointer (pointers.lead e b used)) in_ in
      false≢true (sym free ∙ its.1)
