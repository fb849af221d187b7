-- The rows of an area: whose chains they are, and that those of a new or a freed entry stay.
use Rattle.std.proofs.Common.{Bool, List, Option, Some, [], ap, cond, inl, inr, refl, subst, sym, true, ℕ, ℤ, ⊎_elim, ◌<◌, ◌∙◌, ◌∷◌, ◌≡◌}
use Rattle.std.specs.FinMap.Entries.{find}
use Rattle.std.specs.List.{flat_map}
use Rattle.std.specs.Ordering.{int_cmp}
use Rattle.std.specs.Prelude.{unwrap_or}
use Rattle.std.proofs.lemmas.Bool.{cases_lt}
use Rattle.ctr_record_laws.specs.versions_Listing.{chain_at}
use Rattle.ctr_record_laws.specs.versions_Versions.{rows_of}
use Rattle.ctr_record_laws.proofs.versions_Keys.{known}
use Rattle.ctr_record_laws.specs.meta_Tables.{Tables}
use Rattle.ctr_record_laws.specs.page_Place.{Place}
use Rattle.ctr_record_laws.specs.area_Areas.{Area, Firsts, Older, RowVersion, Slot, Title}
use Rattle.ctr_record_laws.specs.area_Chains.{chain_of, pages_bound, pages_from, places_from, slot_places, table_pages}
use Rattle.ctr_record_laws.specs.area_Changes.{ChangesEntry, with_firsts, with_title}
use Rattle.ctr_record_laws.specs.area_Images.{rows_gathered, rows_of_entry, versions_in}
use Rattle.ctr_record_laws.specs.area_Sound.{IsAmong, IsSoundArea, IsUsedSlot}
use Rattle.ctr_record_laws.proofs.Away.{IsSameOn, away_chain, place_on_chains, slot_places_same}
use Rattle.ctr_record_laws.proofs.Firsts.{by_entry}
use Rattle.ctr_record_laws.proofs.Fresh.{AreNoPages, fresh_away, fresh_firsts, fresh_tables, mid_sound, zero_places}
use Rattle.ctr_record_laws.proofs.Gathering.{found_step, match_used, matches}
use Rattle.ctr_record_laws.proofs.Members.{among_front}
use Rattle.ctr_record_laws.proofs.Shown.{gathered_same, shows_same}
use Rattle.ctr_record_laws.proofs.Slots.{slots_here, slots_past}

-- ---- rows: each chain is a used slot's, or there is none

gathered_chain : (P : List RowVersion → Type 0) (older : Place → Older) (slot : Place → Slot) (key : ℤ) (places : List Place) → P [] → ((at : Place) → IsAmong at places → (slot at).used ≡ true → P (chain_of older (slot at)))
    → P (chain_at int_cmp key (rows_gathered older slot places))
gathered_chain P older slot key [] none each = none
gathered_chain P older slot key (at ∷ places) none each =
    let rest = gathered_chain P older slot key places none (λ b in_ used. each b (inr in_) used) in
    known (matches slot key at)
    (λ is. subst (λ (o : Option (List RowVersion)). P (unwrap_or o [])) (sym (found_step older slot key at places ∙ ap (λ b. cond b (Some (chain_of older (slot at))) (find int_cmp key (rows_gathered older slot places))) is)) (each at (inl refl) (match_used slot key at is)))
    (λ isnt. subst (λ (o : Option (List RowVersion)). P (unwrap_or o [])) (sym (found_step older slot key at places ∙ ap (λ b. cond b (Some (chain_of older (slot at))) (find int_cmp key (rows_gathered older slot places))) isnt)) rest)

pub row_chain : (P : List RowVersion → Type 0) (test : ℕ → Bool) (area : Area) (id : ℕ) (key : ℤ) → P [] → ((at : Place) → IsUsedSlot area id at → P (chain_of area.older (area.slot at))) → P (rows_of (versions_in test area) id key)
row_chain P test area id key none each = ⊎_elim
    (λ lt. subst (λ slots. P (chain_at int_cmp key slots)) (sym (slots_here test area id lt)) (gathered_chain P area.older area.slot key (slot_places area id) none (λ at in_ used. each at (in_, used))))
    (λ le. subst (λ slots. P (chain_at int_cmp key slots)) (sym (slots_past test area id le)) none) (cases_lt id 32)

-- ---- an entry without pages, whose title and chains change

module _ (counted : ℕ) (tables : Tables) (area : Area) (e : ℕ) (t : Firsts) (sound : IsSoundArea counted tables area) (inside : e < 32) (zeros : AreNoPages t) (none : AreNoPages (area.firsts e)) (u : Title) (new : Area) (changes : ChangesEntry e u t area new) where
  abbrev between : Area
  between = with_firsts e t area

  abbrev Away : ℕ → Type 0
  Away q = (area.header q).entry ≡ e → ⊥

  same_pages : IsSameOn Away between new
  same_pages = fresh_away counted tables area e t sound inside zeros none u new changes

  same_first_pages : (f : ℕ) → new.firsts f ≡ between.firsts f
  same_first_pages = fresh_firsts counted tables area e t sound inside zeros none u new changes

  apart_pages : (f q : ℕ) → IsAmong q (table_pages between f) → Away q
  apart_pages = fresh_tables counted tables area e t sound inside zeros none u new changes

  between_rows : (f : ℕ) → rows_of_entry between f ≡ rows_of_entry area f
  between_rows = by_entry area e t (λ f v. rows_gathered area.older area.slot (flat_map (places_from area) v.buckets) ≡ rows_of_entry area f)
      (ap (rows_gathered area.older area.slot) (zero_places area t.buckets zeros.0 ∙ sym (zero_places area (area.firsts e).buckets none.0))) (λ f apart. refl)

  pub entry_rows : (f : ℕ) → rows_of_entry new f ≡ rows_of_entry area f
  entry_rows f = ap (rows_gathered new.older new.slot) (slot_places_same Away between new same_pages same_first_pages apart_pages f)
      ∙ gathered_same between new (slot_places between f)
      (λ at in_. same_pages.slots at (on_table f at in_))
      (λ at in_ used. away_chain Away between new same_pages same_first_pages apart_pages (mid_sound counted tables area e t sound inside zeros none).pointers f at (in_, used))
      ∙ between_rows f
    where
      on_table : (f : ℕ) (at : Place) → IsAmong at (slot_places between f) → Away at.page
      on_table f at in_ = apart_pages f at.page (among_front at.page (flat_map (pages_from pages_bound between.header) (between.firsts f).buckets) (pages_from pages_bound between.header (between.firsts f).versions) (place_on_chains between (between.firsts f).buckets at in_))

  pub entry_versions : (committed : ℕ → Bool) → versions_in committed new ≡ versions_in committed (with_title e u area)
  entry_versions committed = (shows_same (with_title e u area) new changes.titles entry_rows committed).0
