-- A search along a chain of a table's pages comes to its end.
use Rattle.std.proofs.Common.{◌≡◌, ⊎_elim, inl, inr, ℕ, zero, suc, ◌+◌, ◌*◌, ◌-◌, ◌/◌, ◌%◌, ◌<◌, ◌≤◌, List, Err, [], ◌∷◌, drop, length, slice_index, refl, sym, ◌∙◌, ap, subst, arith}
use Rattle.std.proofs.lemmas.Bool.{cases_lt, eq-eqb, ne_eqb}
use Rattle.std.specs.List.{AllByRecursion}
use Rattle.ctr_page.specs.declared.checks.Chain.TheVariants.{Rows, Versions}
use Rattle.ctr_page.specs.declared.header.Header.{Header}
use Rattle.ctr_page.specs.Places.{slot_size, kept_size, room_for}
use Rattle.ctr_page.specs.Columns.{kinds_of, kinds_width, columns_in}
use Rattle.ctr_page.specs.Damage.{header_check, entry_check}
use Rattle.ctr_page.specs.Walking.{most_in_chain}
use Rattle.ctr_page.proofs.Holding.{kinds_wide}
use Rattle.ctr_meta.specs.Tables.{Tables}
use Rattle.ctr_heap.specs.area_Areas.{Area}
use Rattle.ctr_heap.specs.area_Chains.{pages_bound, pages_from}
use Rattle.ctr_heap.specs.area_Checked.{Passes, kinds_at, ArePassed}
use Rattle.ctr_heap.specs.area_Reading.{entry_bytes, header_on, columns_on, width_on, size_of_kind, area_of}
use Rattle.ctr_heap.specs.area_Sound.{IsAmong, IsOfRows, IsOfVersions, IsSoundArea}
use Rattle.ctr_heap.proofs.area_Buckets.{each_of}
use Rattle.ctr_chain.specs.record_laws_Bounds.{IsInBounds}
use Rattle.ctr_heap.proofs.record_laws_Bounds.{pages_bounded}
use Rattle.ctr_heap.proofs.record_laws_Ends.{steps, page_goes_on, bucket_chain}
use Rattle.ctr_heap.proofs.record_laws_Owning.{all_of}
use Rattle.ctr_heap.proofs.ctr_passed.Pagewise.{PassedIn, page_by_page}
use Rattle.ctr_heap.specs.ctr_walk.Along.{ChainSought, EndsPage, EndsAlong}
use Rattle.ctr_heap.specs.ctr_walk.Tables.{chain_sought}
use Rattle.ctr_heap.specs.declared.slots.SlotSought.{SlotSought}
use Rattle.ctr_heap.specs.Slots.{checks_slot, seeks_slot, EndsSlots}
use Rattle.ctr_heap.specs.Finding.{EndsBucket}
use Rattle.ctr_chain.specs.ctr_pvs.Entries.{checks_version, is_free_version, EndsFree}
use Rattle.ctr_chain.specs.ctr_pvs.Along.{EndsVersions}
use Rattle.ctr_chain.proofs.ctr_pvs.Told.{header_here}
use Rattle.ctr_undamaged.specs.Undamaged.{EndsWell}
use Rattle.ctr_undamaged.proofs.Entries.{passes_or_fails, search_whole}
use Rattle.ctr_undamaged.proofs.Inside.{on_bucket, on_versions, few_on_bucket, few_on_versions}

-- ---- along pages of which each is good

module _ (s : ChainSought) (pages : ℕ → List ℕ) where
  abbrev head : ℕ → Header
  head = header_on pages

  -- behind the catalog, with a header that passes, and without damage behind it
  pub record IsGood (q : ℕ) : Type 0 where
    pub behind : 3 ≤ q
    pub header : Passes (header_check s.chain s.counted (pages q))
    pub ends : EndsWell (s.ends (pages q))

  page_whole : (q : ℕ) → IsGood q → EndsWell (EndsPage s (pages q))
  page_whole q good bad (inl (b, fails, is)) = passes_or_fails (header_check s.chain s.counted (pages q)) tt b good.header fails
  page_whole q good bad (inr (passes, ends)) = good.ends bad ends

  pub along_whole : (n m last p : ℕ) → n < m → AllByRecursion IsGood (pages_from m head p) → length (pages_from m head p) ≤ n → EndsWell (EndsAlong s pages n last p)
  along_whole n zero last p lt all short bad ends = absurd (omega (arith, lt))
  along_whole zero (suc m) last p lt all short bad (inl end) = absurd (let f = end.1 in cc)
  along_whole zero (suc m) last p lt all short bad (inr (some, is)) =
      none (pages_from m head (head p).next) (subst (λ ps. length ps ≤ 0) (page_goes_on head m p some) short)
    where
      none : (ps : List ℕ) → length (p ∷ ps) ≤ 0 → ⊥
      none ps le = omega (arith, le)
  along_whole (suc n) (suc m) last p lt all short bad (inl end) = absurd (let f = end.1 in cc)
  along_whole (suc n) (suc m) last p lt all short bad (inr (some, inl (k, ends, is))) = absurd cc
  along_whole (suc n) (suc m) last p lt all short bad (inr (some, inr (inl (b, ends, is)))) =
      page_whole p (subst (AllByRecursion IsGood) (page_goes_on head m p some) all).0 b ends
  along_whole (suc n) (suc m) last p lt all short bad (inr (some, inr (inr (ends, rest)))) =
      let more = page_goes_on head m p some in
      let good = subst (AllByRecursion IsGood) more all in
      along_whole n m p (head p).next (omega (arith, lt)) good.1
      (less (pages_from m head (head p).next) (subst (λ ps. length ps ≤ suc n) more short)) bad
      (subst (λ (h : Header). EndsAlong s pages n p h.next (Err bad)) (sym (header_here pages p good.0.behind)) rest)
    where
      less : (ps : List ℕ) → length (p ∷ ps) ≤ suc n → length ps ≤ n
      less ps le = omega (arith, le)

  -- from no page on
  pub nothing_whole : (n last p : ℕ) → p ≡ 0 → EndsWell (EndsAlong s pages n last p)
  nothing_whole zero last p none bad (inl end) = absurd (let f = end.1 in cc)
  nothing_whole zero last p none bad (inr (some, is)) = some none
  nothing_whole (suc n) last p none bad (inl end) = absurd (let f = end.1 in cc)
  nothing_whole (suc n) last p none bad (inr (some, more)) = some none

few_steps : (counted : ℕ) → counted ≤ pages_bound → most_in_chain counted < pages_bound
few_steps counted few = subst (λ m. counted - 3 < m) (sym steps.1) (lower counted steps.0 (subst (λ m. counted ≤ m) steps.1 few))
  where
    lower : (c m : ℕ) → c ≤ suc m → c - 3 < suc m
    lower c m le = omega (arith, le)

-- of a bucket that the table hasn't there is no page
beyond : (ps : List ℕ) (b : ℕ) → length ps ≤ b → slice_index ps b ≡ 0
beyond [] b le = refl
beyond (p ∷ ps) zero le = absurd (none (length ps) le)
  where
    none : (n : ℕ) → suc n ≤ 0 → ⊥
    none n le = omega (arith, le)
beyond (p ∷ ps) (suc b) le = beyond ps b (less (length ps) le)
  where
    less : (n : ℕ) → suc n ≤ suc b → n ≤ b
    less n le = omega (arith, le)

-- ---- how much room there is

module _ (pages : ℕ → List ℕ) (q e : ℕ) (entry : (header_on pages q).entry ≡ e) where
  abbrev wide : kinds_width (kinds_of (columns_on pages q)) ≡ width_on pages q
  wide = kinds_wide (drop 1 (columns_on pages q))

  pub rows_room : (header_on pages q).kind ≡ 1 → room_for (slot_size (kinds_width (kinds_at (area_of pages) e))) ≡ (area_of pages).room q
  rows_room kind =
      ap (λ f. room_for (slot_size (kinds_width (kinds_of (columns_in (entry_bytes pages f)))))) (sym entry)
      ∙ ap (λ v. room_for (slot_size v)) wide ∙ sym (ap (λ b. room_for (size_of_kind b (width_on pages q))) (eq-eqb (header_on pages q).kind 1 kind))

  pub versions_room : (header_on pages q).kind ≡ 2 → room_for (kept_size (kinds_width (kinds_at (area_of pages) e))) ≡ (area_of pages).room q
  versions_room kind =
      ap (λ f. room_for (kept_size (kinds_width (kinds_of (columns_in (entry_bytes pages f)))))) (sym entry)
      ∙ ap (λ v. room_for (kept_size v)) wide ∙ sym (ap (λ b. room_for (size_of_kind b (width_on pages q))) (ne_eqb (header_on pages q).kind 1 (λ one. omega (arith, kind, one))))

-- ---- the chains of a table

module _ (counted : ℕ) (tables : Tables) (pages : ℕ → List ℕ) (passed : ArePassed counted pages) (sound : IsSoundArea counted tables (area_of pages)) (few : counted ≤ pages_bound) (e : ℕ) (lt : e < 32) where
  abbrev area : Area
  area = area_of pages

  abbrev bounds : IsInBounds area
  bounds = pages_bounded pages

  abbrev whole : PassedIn counted pages area
  whole = page_by_page counted pages passed

  module _ (b : ℕ) (sought : SlotSought) where
    abbrev rows : ChainSought
    rows = chain_sought pages counted (Rows e b) (EndsSlots sought)

    abbrev first : ℕ
    first = slice_index (area.firsts e).buckets b

    rows_good : b < length (area.firsts e).buckets → (q : ℕ) → IsAmong q (pages_from pages_bound area.header first) → IsGood rows pages q
    rows_good there q in_ =
        let its = whole.rows e b q there in_ in
        let h = each_of (λ r. IsOfRows e (0 + b) (area.header r)) q (pages_from pages_bound area.header first) (bucket_chain area e 0 b (area.firsts e).buckets there (sound.readable.rows e)).0 in_ in
        record {
          behind = (on_bucket counted tables area bounds sound e b q there in_).0;
          header = its.header;
          ends = search_whole (checks_slot (kinds_at area e) counted (pages q)) (seeks_slot (kinds_width (kinds_at area e)) sought (pages q)) 0 (room_for (slot_size (kinds_width (kinds_at area e))))
              (λ n fits. its.slots n (subst (λ m. n < m) (rows_room pages q e h.1 h.0) fits));
        }

    pub bucket_whole : EndsWell (EndsBucket counted pages e b sought)
    bucket_whole bad (inl (d, fails, is)) = passes_or_fails (entry_check counted (256 * (e % 16)) (pages (1 + e / 16))) tt d (passed.entries e lt) fails
    bucket_whole bad (inr (passes, along)) = ⊎_elim
        (λ there. along_whole rows pages (most_in_chain counted) pages_bound 0 first (few_steps counted few)
        (all_of (IsGood rows pages) (pages_from pages_bound area.header first) (rows_good there)) (few_on_bucket counted tables area bounds sound e b lt there) bad along)
        (λ ge. nothing_whole rows pages (most_in_chain counted) 0 first (beyond (area.firsts e).buckets b ge) bad along)
        (cases_lt b (length (area.firsts e).buckets))

  abbrev kept : ChainSought
  kept = chain_sought pages counted (Versions e) EndsFree

  abbrev start : ℕ
  start = (area.firsts e).versions

  versions_good : (q : ℕ) → IsAmong q (pages_from pages_bound area.header start) → IsGood kept pages q
  versions_good q in_ =
      let its = whole.versions e q in_ in
      let h = each_of (λ r. IsOfVersions e (area.header r)) q (pages_from pages_bound area.header start) (sound.readable.versions e).0 in_ in
      record {
        behind = (on_versions counted tables area bounds sound e q in_).0;
        header = its.header;
        ends = search_whole (checks_version (kinds_at area e) counted (pages q)) (is_free_version (kinds_width (kinds_at area e)) (pages q)) 0 (room_for (kept_size (kinds_width (kinds_at area e))))
            (λ n fits. its.older n (subst (λ m. n < m) (versions_room pages q e h.1 h.0) fits));
      }

  pub versions_whole : EndsWell (EndsVersions counted pages e)
  versions_whole bad (inl (d, fails, is)) = passes_or_fails (entry_check counted (256 * (e % 16)) (pages (1 + e / 16))) tt d (passed.entries e lt) fails
  versions_whole bad (inr (passes, along)) = along_whole kept pages (most_in_chain counted) pages_bound 0 start (few_steps counted few)
      (all_of (IsGood kept pages) (pages_from pages_bound area.header start) versions_good) (few_on_versions counted tables area bounds sound e lt) bad along
