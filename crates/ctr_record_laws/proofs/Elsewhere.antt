-- Version entries that no chain has, where an area is another one off the pages of the tables.
use Rattle.std.proofs.Common.{◌≡◌, ⊎_elim, ℕ, ◌<◌, List, [], ◌∷◌, refl, sym, ◌∙◌, subst}
use Rattle.std.specs.List.{flat_map}
use Rattle.ctr_area.proofs.Buckets.{nothing_from_0, on_chain}
use Rattle.ctr_area.specs.Areas.{Title, Firsts, Older, Area}
use Rattle.ctr_area.specs.Chains.{pages_bound, pages_from, places_from, slot_places, table_pages}
use Rattle.ctr_area.specs.Changes.{with_firsts, with_blank, ChangesEntry}
use Rattle.ctr_area.specs.Sound.{IsAmong, IsUsedSlot, ArePointed, IsSoundArea}
use Rattle.ctr_area.specs.meta_Tables.{Tables}
use Rattle.ctr_record_laws.proofs.Members.{among_front, among_rest, among_parts}
use Rattle.ctr_record_laws.specs.Bounds.{IsInBounds}
use Rattle.ctr_area.specs.ctr_page.declared.header.Header.{Header}
use Rattle.ctr_area.specs.ctr_page.declared.rows.Place.{Place}
use Rattle.ctr_record_laws.proofs.Away.{place_on_chains, older_places_same, used_back, away_along, IsSameOn}
use Rattle.ctr_record_laws.proofs.Format.{same_away, in_tables}
use Rattle.ctr_record_laws.proofs.Fresh.{AreZeros, AreNoPages, table_entry, mid_sound, fresh_away, fresh_firsts, fresh_tables}
use Rattle.ctr_record_laws.specs.Owed.{OwedByFormat}
use Rattle.ctr_record_laws.proofs.Chained.{firsts_loose}
use Rattle.ctr_record_laws.specs.Loose.{IsLoose}

-- the page of a slot is the table's
slot_on : (area : Area) (e : ℕ) (at : Place) → IsUsedSlot area e at → IsAmong at.page (table_pages area e)
slot_on area e at used = among_front at.page (flat_map (pages_from pages_bound area.header) (area.firsts e).buckets) (pages_from pages_bound area.header (area.firsts e).versions)
    (place_on_chains area (area.firsts e).buckets at used.0)

module _ (On : ℕ → Type 0) (old new : Area) (same_ : IsSameOn On old new) (firsts : (f : ℕ) → new.firsts f ≡ old.firsts f) (pages : (f q : ℕ) → IsAmong q (table_pages old f) → On q)
    (pointers : ArePointed old) (e : ℕ) (q : Place) (it : Older) (loose : IsLoose old e q it) where
  away_loose : IsLoose new e q it
  away_loose = record {
    here = subst (IsAmong q) (sym (older_places_same On old new same_ firsts pages e)) loose.here;
    content = same_.older q (pages e q.page (among_rest q.page (flat_map (pages_from pages_bound old.header) (old.firsts e).buckets) (pages_from pages_bound old.header (old.firsts e).versions)
        (on_chain old (old.firsts e).versions q loose.here).0)) ∙ loose.content;
    used = loose.used;
    unlinked = λ f b used in_. loose.unlinked f b (used_back On old new same_ firsts pages f b used).0 (subst (IsAmong q) (away_along On old new same_ firsts pages pointers f b used) in_);
  }

-- ---- a Format

module _ (counted : ℕ) (tables : Tables) (area : Area) (x p : ℕ) (h : Header) (bounds : IsInBounds area) (sound : IsSoundArea counted tables area) (owed : OwedByFormat tables x p) (e : ℕ) where
  pub format_loose : (q : Place) (it : Older) → IsLoose area e q it → IsLoose (with_blank p h area) e q it
  format_loose q it loose = away_loose (λ r. r ≡ p → ⊥) area (with_blank p h area) (same_away counted tables area x p h bounds sound owed) (λ f. refl) (in_tables counted tables area x p h bounds sound owed)
      sound.pointers e q it loose

  pub format_slot : (at : Place) → IsUsedSlot area e at → (with_blank p h area).slot at ≡ area.slot at
  format_slot at used = (same_away counted tables area x p h bounds sound owed).slots at (in_tables counted tables area x p h bounds sound owed e at.page (slot_on area e at used))

-- ---- an entry of the catalog without a page gets another title, and chains without a page

pub no_places : (area : Area) (ps : List ℕ) (at : Place) → AreZeros ps → IsAmong at (flat_map (places_from area) ps) → ⊥
no_places area [] at zeros in_ = in_
no_places area (p ∷ ps) at zeros in_ = ⊎_elim (λ here. nothing_from_0 area at (subst (λ p. IsAmong at (places_from area p)) zeros.0 here))
    (λ there. no_places area ps at zeros.1 there) (among_parts at (places_from area p) (flat_map (places_from area) ps) in_)

module _ (counted : ℕ) (tables : Tables) (area : Area) (f : ℕ) (t : Firsts) (sound : IsSoundArea counted tables area) (inside : f < 32) (zeros : AreNoPages t) (none : AreNoPages (area.firsts f))
    (title : Title) (new : Area) (changes : ChangesEntry f title t area new) (e : ℕ) where
  abbrev mid : Area
  mid = with_firsts f t area

  pub entry_loose : (q : Place) (it : Older) → IsLoose area e q it → IsLoose new e q it
  entry_loose q it loose = away_loose (λ r. (area.header r).entry ≡ f → ⊥) mid new
      (fresh_away counted tables area f t sound inside zeros none title new changes) (fresh_firsts counted tables area f t sound inside zeros none title new changes)
      (fresh_tables counted tables area f t sound inside zeros none title new changes) (mid_sound counted tables area f t sound inside zeros none).pointers e q it
      (firsts_loose area f t e q it loose (λ at in_ used. absurd (no_places area t.buckets at zeros.0 in_))
      (λ in_ is. absurd (nothing_from_0 area q (subst (λ p. IsAmong q (places_from area p)) none.1 in_))))

  pub entry_slot : (at : Place) → IsUsedSlot area e at → new.slot at ≡ area.slot at
  entry_slot at used = changes.slots at (λ is. no_places area (area.firsts f).buckets at none.0
      (subst (λ g. IsAmong at (slot_places area g)) (sym (table_entry area sound.readable e at.page (slot_on area e at used)) ∙ is) used.0))
