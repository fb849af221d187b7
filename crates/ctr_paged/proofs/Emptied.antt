-- Unlink of a page of rows from a table that is dead: each key of it has the chain that it had, or none.
use Rattle.std.proofs.Common.{◌≡◌, ◌⊎◌, ⊎_elim, inl, inr, ℕ, ◌+◌, ◌<◌, ℤ, Bool, true, false, cond, List, [], ◌∷◌, set, Option, Some, refl, sym, ◌∙◌, ap, subst}
use Rattle.std.specs.Prelude.{unwrap_or}
use Rattle.std.specs.List.{flat_map}
use Rattle.std.specs.Ordering.{int_cmp}
use Rattle.std.proofs.lemmas.Bool.{false≢true, eq-eqb, ne_eqb, and_parts, cases_lt}
use Rattle.ctr_model.specs.declared.state.State.{State}
use Rattle.ctr_model.specs.State.{same_name}
use Rattle.ctr_versions.proofs.Keys.{known}
use Rattle.ctr_versions.specs.Chains.{value_seen}
use Rattle.ctr_versions.specs.Listing.{chain_at}
use Rattle.ctr_versions.specs.Versions.{Made, names_at, rows_of}
use Rattle.ctr_rec.specs.declared.record.SlogItem.TheVariants.{FreeOf}
use Rattle.ctr_actions.specs.meta_Effects.{with_item}
use Rattle.ctr_actions.specs.page_Place.{Place}
use Rattle.ctr_actions.specs.area_Areas.{RowVersion, Slot, Older, Firsts, Area}
use Rattle.ctr_actions.specs.area_Chains.{pages_bound, pages_from, places_on, places_from, slot_places}
use Rattle.ctr_actions.specs.area_Changes.{with_firsts, with_bucket}
use Rattle.ctr_actions.specs.area_Images.{is_committed_in, is_live, versions_in, rows_gathered, rows_of_entry}
use Rattle.ctr_actions.specs.area_Sound.{IsAmong, IsOfRows, EndsIn}
use Rattle.ctr_actions.specs.record_laws_Bounds.{IsInBounds}
use Rattle.ctr_names.proofs.record_laws_Gathering.{matches, match_used, match_key, found_here, none_found}
use Rattle.ctr_actions.proofs.record_laws_Members.{among_rest}
use Rattle.ctr_names.proofs.record_laws_Slots.{slots_here, slots_past, rows_sorted}
use Rattle.ctr_actions.specs.record_laws_Owed.{OwedByUnlink}
use Rattle.ctr_actions.proofs.record_laws_Ends.{behind_chain, bucket_chain, front_places, set_among, one_among}
use Rattle.ctr_actions.proofs.record_laws_Links.{bucket_inside}
use Rattle.ctr_actions.proofs.record_laws_Unlinks.{unlink_sound, above_zero}
use Rattle.ctr_actions.specs.Sites.{Site}
use Rattle.ctr_versions.proofs.Dead.{emptied_step}
use Rattle.ctr_paged.specs.Paged.{Run, engine_at, ShowsPaged}
use Rattle.ctr_paged.proofs.Carry.{drops_same, paged_moved}
use Rattle.ctr_names.proofs.Names.{names_here}
use Rattle.ctr_names.proofs.Chains.{seen_entry}

-- ---- fewer places

find_match : (slot : Place → Slot) (key : ℤ) (places : List Place) → ((at : Place) × IsAmong at places × (matches slot key at ≡ true)) ⊎ ((b : Place) → IsAmong b places → matches slot key b ≡ false)
find_match slot key [] = inr (λ b in_. absurd in_)
find_match slot key (p ∷ ps) = known (matches slot key p)
    (λ is. inl (p, inl refl, is))
    (λ isnt. ⊎_elim (λ found. inl (found.0, inr found.1, found.2)) (λ none. inr (λ b in_. ⊎_elim (λ is. ap (matches slot key) is ∙ isnt) (λ there. none b there) in_)) (find_match slot key ps))

fewer_places : (older : Place → Older) (slot : Place → Slot) (key : ℤ) (some all : List Place) → ((b : Place) → IsAmong b some → IsAmong b all)
    → ((a b : Place) → IsAmong a all → IsAmong b all → (slot a).used ≡ true → (slot b).used ≡ true → (slot a).key ≡ (slot b).key → a ≡ b)
    → (chain_at int_cmp key (rows_gathered older slot some) ≡ chain_at int_cmp key (rows_gathered older slot all)) ⊎ (chain_at int_cmp key (rows_gathered older slot some) ≡ [])
fewer_places older slot key some all part alone = ⊎_elim
    (λ found. let one : (b : Place) → IsAmong b all → matches slot key b ≡ true → b ≡ found.0 = λ b in_ is. alone b found.0 in_ (part found.0 found.1) (match_used slot key b is) (match_used slot key found.0 found.2) (match_key slot key b is ∙ sym (match_key slot key found.0 found.2)) in
    inl (ap (λ (o : Option (List RowVersion)). unwrap_or o []) (found_here older slot key some found.0 found.1 found.2 (λ b in_ is. one b (part b in_) is) ∙ sym (found_here older slot key all found.0 (part found.0 found.1) found.2 one))))
    (λ none. inr (ap (λ (o : Option (List RowVersion)). unwrap_or o []) (none_found older slot key some none)))
    (find_match slot key some)

module _ (low : ℕ) (site : Site) (run : Run) (state : State) (paged : ShowsPaged low site run state) where
  pub unlink_shows : (p e bucket : ℕ) → OwedByUnlink site.tables site.area p e bucket → IsInBounds (with_firsts e (with_bucket bucket (site.area.header p).next (site.area.firsts e)) site.area)
      → ShowsPaged low (record site { tables = with_item (FreeOf p) site.tables; area = with_firsts e (with_bucket bucket (site.area.header p).next (site.area.firsts e)) site.area }) run state
  unlink_shows p e bucket owed bounds = paged_moved low site run state paged after (with_item (FreeOf p) site.tables) state bounds
      (unlink_sound site.counted site.tables site.area p e paged.sound (above_zero p owed.some) inside bucket owed.there owed.first owed.heads)
      (record { next = refl; opens = refl; aborted = refl }) (drops_same site.area.title)
      (emptied_step low (engine_at site run) state paged.shows (versions_in committed after) e unnamed (record { names = refl; sorted = rows_sorted committed after; others = others; fewer = fewer }))
      paged.modelled refl refl
    where
      committed : ℕ → Bool
      committed = is_committed_in site.tables

      next : ℕ
      next = (site.area.header p).next

      after : Area
      after = with_firsts e (with_bucket bucket next (site.area.firsts e)) site.area

      inside : e < 32
      inside = bucket_inside site.area paged.bounds e bucket owed.there

      buckets : List ℕ
      buckets = (site.area.firsts e).buckets

      chain : (pages_from pages_bound site.area.header p ≡ p ∷ pages_from pages_bound site.area.header next) × EndsIn pages_bound site.area.header (IsOfRows e (0 + bucket)) next
      chain = behind_chain site.area.header p next (above_zero p owed.some) refl (IsOfRows e (0 + bucket))
          (subst (EndsIn pages_bound site.area.header (IsOfRows e (0 + bucket))) owed.first (bucket_chain site.area e 0 bucket buckets owed.there (paged.sound.readable.rows e)))

      part : (at : Place) → IsAmong at (flat_map (places_from site.area) (set buckets bucket next)) → IsAmong at (slot_places site.area e)
      part at in_ = ⊎_elim
          (λ behind_. one_among (places_from site.area) at buckets bucket owed.there
          (subst (λ f. IsAmong at (places_from site.area f)) (sym owed.first) (subst (IsAmong at) (sym (front_places site.area p next chain.0)) (among_rest at (places_on p 0 (site.area.room p)) (places_from site.area next) behind_))))
          (λ was. was) (set_among (places_from site.area) at buckets bucket next in_)

      rows_here : rows_of_entry after e ≡ rows_gathered site.area.older site.area.slot (flat_map (places_from site.area) (set buckets bucket next))
      rows_here = ap (λ (f : Firsts). rows_gathered site.area.older site.area.slot (flat_map (places_from site.area) f.buckets)) (ap (λ b. cond b (with_bucket bucket next (site.area.firsts e)) (site.area.firsts e)) (eq-eqb e e refl))

      others : (i : ℕ) (key : ℤ) → (i ≡ e → ⊥) → rows_of (versions_in committed after) i key ≡ rows_of (versions_in committed site.area) i key
      others i key apart = ⊎_elim
          (λ lt. ap (chain_at int_cmp key) (slots_here committed after i lt
          ∙ ap (λ (f : Firsts). rows_gathered site.area.older site.area.slot (flat_map (places_from site.area) f.buckets)) (ap (λ b. cond b (with_bucket bucket next (site.area.firsts e)) (site.area.firsts i)) (ne_eqb i e apart))
          ∙ sym (slots_here committed site.area i lt)))
          (λ le. ap (chain_at int_cmp key) (slots_past committed after i le ∙ sym (slots_past committed site.area i le))) (cases_lt i 32)

      fewer : (key : ℤ) → (rows_of (versions_in committed after) e key ≡ rows_of (versions_in committed site.area) e key) ⊎ (rows_of (versions_in committed after) e key ≡ [])
      fewer key = ⊎_elim
          (λ same. inl (ap (chain_at int_cmp key) (slots_here committed after e inside ∙ rows_here) ∙ same ∙ sym (ap (chain_at int_cmp key) (slots_here committed site.area e inside))))
          (λ gone. inr (ap (chain_at int_cmp key) (slots_here committed after e inside ∙ rows_here) ∙ gone))
          (fewer_places site.area.older site.area.slot key (flat_map (places_from site.area) (set buckets bucket next)) (slot_places site.area e) part
          (λ a b in_a in_b used_a used_b keys. paged.sound.keys.once e a b (in_a, used_a) (in_b, used_b) keys))

      unnamed : (name : List ℕ) (made : Made) (test : ℕ → Bool) → value_seen test (names_at (versions_in committed site.area) name) ≡ Some made → made.id ≡ e → ⊥
      unnamed name made test seen = seen_entry (λ m. m.id ≡ e → ⊥) committed test site.area.title name made
          (λ f lt named same. false≢true (sym owed.dead ∙ ap (λ g. is_live (site.area.title g)) (sym same) ∙ (and_parts (is_live (site.area.title f)) (same_name name (site.area.title f).name) named).0))
          (ap (value_seen test) (sym (names_here committed site.area name)) ∙ seen)
