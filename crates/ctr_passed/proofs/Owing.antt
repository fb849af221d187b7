-- What an action owes in a state of a database says of pages and entries: they are counted, and inside the catalog.
use Rattle.std.proofs.Common.{◌≡◌, ◌≢◌, ⊎_elim, inl, ℕ, ◌+◌, ◌≤◌, ◌<◌, Bool, true, false, cond, List, length, refl, sym, ◌∙◌, ap, subst, arith}
use Rattle.std.specs.Prelude.{◌==◌}
use Rattle.std.specs.List.{flat_map}
use Rattle.std.proofs.lemmas.Bool.{eqb-true, cases_lt, cases_eq}
use Rattle.ctr_actions.specs.page_Header.{Header}
use Rattle.ctr_actions.specs.area_Areas.{Firsts, Area, no_pages}
use Rattle.ctr_actions.specs.area_Chains.{pages_bound, pages_from, table_pages}
use Rattle.ctr_actions.specs.area_Images.{entry_numbers, is_live}
use Rattle.ctr_actions.specs.area_Sound.{IsAmong, IsOfRows, IsOfVersions, EndsIn, page_of_item, owned_pages}
use Rattle.ctr_actions.proofs.area_Buckets.{each_of}
use Rattle.ctr_actions.specs.ctr_redo.States.{State}
use Rattle.ctr_actions.specs.record_laws_Bounds.{IsInBounds}
use Rattle.ctr_actions.specs.record_laws_Owed.{OwedByFormat, first_page, OwedByUnlink, OwedByOlderUnlink}
use Rattle.ctr_actions.proofs.record_laws_Bounds.{pages_bounded}
use Rattle.ctr_actions.proofs.record_laws_Ends.{steps, page_goes_on, behind_chain, bucket_chain}
use Rattle.ctr_actions.proofs.record_laws_Format.{item_page, page_inside}
use Rattle.ctr_actions.proofs.record_laws_Members.{among_front, among_rest}
use Rattle.ctr_actions.proofs.record_laws_Owned.{in_all}
use Rattle.ctr_actions.proofs.record_laws_Unlinks.{above_zero}
use Rattle.ctr_actions.specs.ctr_record_effects.Standing.{IsDatabaseState}
use Rattle.ctr_actions.specs.ctr_record_effects.States.{pages_in, area_in}
use Rattle.ctr_passed.proofs.Passing.{in_rows, in_versions}
use Rattle.ctr_passed.proofs.Reshaped.{behind_it}

-- a chain that begins at a page has it
begins_with : (header : ℕ → Header) (p : ℕ) → (p ≡ 0 → ⊥) → IsAmong p (pages_from pages_bound header p)
begins_with header p some = subst (IsAmong p) (sym (ap (λ m. pages_from m header p) steps.1 ∙ page_goes_on header steps.0 p some)) (inl refl)

-- an entry has eight buckets, or none
eight_at_most : (c : Bool) (buckets : List ℕ) (versions : ℕ) → length buckets ≡ 8 → length (cond c no_pages (record { buckets = buckets; versions = versions })).buckets ≤ 8
eight_at_most true buckets versions eight = omega arith
eight_at_most false buckets versions eight = omega (arith, eight)

module _ (s : State) (sound : IsDatabaseState s) where
  abbrev area : Area
  area = area_in s

  bounds : IsInBounds area
  bounds = pages_bounded (pages_in s)

  owned : (p : ℕ) → IsAmong p (owned_pages s.tables.items area) → (3 ≤ p) × (p < s.counted) × (area.taken p ≡ true)
  owned p in_ = each_of (λ p. (3 ≤ p) × (p < s.counted) × (area.taken p ≡ true)) p (owned_pages s.tables.items area) sound.sound.owned.inside in_

  -- a page of an allocation's item
  pub item_inside : (x p : ℕ) → OwedByFormat s.tables x p → (3 ≤ p) × (p < s.counted)
  item_inside x p owed =
      let its = owned p (among_rest p (flat_map (table_pages area) entry_numbers) (flat_map page_of_item s.tables.items) (item_page x p s.tables.items owed).1) in
      (its.0, its.1)

  -- a page of a table
  pub table_inside : (e p : ℕ) → IsAmong p (table_pages area e) → (e < 32) × (p < s.counted)
  table_inside e p in_ =
      let few = page_inside area bounds e p in_ in
      (few, (owned p (among_front p (flat_map (table_pages area) entry_numbers) (flat_map page_of_item s.tables.items) (in_all area bounds (table_pages area) p e few in_))).1)

  -- ---- of a bucket

  pub entry_few : (e b : ℕ) → b < length (area.firsts e).buckets → e < 32
  entry_few e b lt = ⊎_elim (λ few. few) (λ ge. absurd (none (subst (λ (f : Firsts). b < length f.buckets) (bounds.entries e ge) lt))) (cases_lt e 32)
    where
      none : b < 0 → ⊥
      none lt = omega (arith, lt)

  pub bucket_few : (e b : ℕ) → b < length (area.firsts e).buckets → b < 8
  bucket_few e b lt = let most : length (area.firsts e).buckets ≤ 8 = eight_at_most ((area.title e).state == 0) _ _ refl in omega (arith, lt, most)

  pub bucket_counted : (e b : ℕ) → 0 < s.counted → b < length (area.firsts e).buckets → first_page area e b < s.counted
  bucket_counted e b some lt = ⊎_elim (λ none. subst (λ n. n < s.counted) (sym none) some)
      (λ is. (table_inside e (first_page area e b) (in_rows s.counted s.tables area bounds sound.sound e b (first_page area e b) lt (begins_with area.header (first_page area e b) is))).1)
      (cases_eq (first_page area e b) 0)

  pub versions_counted : (e : ℕ) → 0 < s.counted → (area.firsts e).versions < s.counted
  versions_counted e some = ⊎_elim (λ none. subst (λ n. n < s.counted) (sym none) some)
      (λ is. (table_inside e (area.firsts e).versions (in_versions s.counted s.tables area bounds sound.sound e (area.firsts e).versions (begins_with area.header (area.firsts e).versions is))).1)
      (cases_eq (area.firsts e).versions 0)

  -- ---- the page behind the first of a chain

  module _ (e p : ℕ) (some : 0 < p) (in_table : (q : ℕ) → IsAmong q (pages_from pages_bound area.header p) → IsAmong q (table_pages area e)) (Is : Header → Type 0) (ends : EndsIn pages_bound area.header Is p) where
    its : (e < 32) × (p < s.counted)
    its = table_inside e p (in_table p (begins_with area.header p (above_zero p some)))

    next_counted : (area.header p).next < s.counted
    next_counted = ⊎_elim (λ none. subst (λ n. n < s.counted) (sym none) (let lt = its.1 in omega (arith, lt)))
        (λ is. (table_inside e (area.header p).next (in_table (area.header p).next (behind_it area.header p (area.header p).next
        (behind_chain area.header p (area.header p).next (above_zero p some) refl Is ends).0 (begins_with area.header (area.header p).next is)))).1)
        (cases_eq (area.header p).next 0)

  pub unlinked_rows : (p e b : ℕ) → OwedByUnlink s.tables area p e b → (area.header p).next < s.counted
  unlinked_rows p e b owed = next_counted e p owed.some
      (λ q in_. in_rows s.counted s.tables area bounds sound.sound e b q owed.there (subst (λ f. IsAmong q (pages_from pages_bound area.header f)) (sym owed.first) in_))
      (IsOfRows e (0 + b)) (subst (EndsIn pages_bound area.header (IsOfRows e (0 + b))) owed.first (bucket_chain area e 0 b (area.firsts e).buckets owed.there (sound.sound.readable.rows e)))

  pub unlinked_versions : (p e : ℕ) → OwedByOlderUnlink area p e → (e < 32) × ((area.header p).next < s.counted)
  unlinked_versions p e owed =
      let in_table : (q : ℕ) → IsAmong q (pages_from pages_bound area.header p) → IsAmong q (table_pages area e) =
      λ q in_. in_versions s.counted s.tables area bounds sound.sound e q (subst (λ f. IsAmong q (pages_from pages_bound area.header f)) (sym owed.first) in_) in
      let ends = subst (EndsIn pages_bound area.header (IsOfVersions e)) owed.first (sound.sound.readable.versions e) in
      ((its e p owed.some in_table (IsOfVersions e) ends).0, next_counted e p owed.some in_table (IsOfVersions e) ends)

  -- ---- a table that is live

  pub live_used : (e : ℕ) → is_live (area.title e) ≡ true → (area.title e).state ≢ 0
  live_used e live none = let one = eqb-true (area.title e).state 1 live in omega (arith, one, none)

  pub live_few : (e : ℕ) → is_live (area.title e) ≡ true → e < 32
  live_few e live = ⊎_elim (λ few. few) (λ ge. absurd (live_used e live (ap (λ t. t.state) (bounds.titles e ge)))) (cases_lt e 32)
