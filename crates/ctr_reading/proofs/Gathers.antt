-- Rows that are gathered of lists of slots, one behind another: of a page, of the pages of a bucket, of the buckets of a table.
use Rattle.std.proofs.Common.{◌≡◌, ℕ, zero, suc, ◌+◌, ◌-◌, ◌<◌, ◌≤◌, ℤ, Bool, true, false, cond, List, [], ◌∷◌, ◌++◌, drop, length, map, slice_index, Option, None, Some, Err, refl, sym, ◌∙◌, ap, arith}
use Rattle.std.specs.Prelude.{◌==◌, IfOk}
use Rattle.std.specs.List.{flat_map}
use Rattle.std.specs.declared.cmp.Ordering.{Ordering}
use Rattle.std.specs.declared.cmp.Ordering.TheVariants.{Less, Equal, Greater}
use Rattle.std.specs.Ordering.{int_cmp}
use Rattle.std.specs.FinMap.Entries.{by_order, put}
use Rattle.ctr_types.specs.declared.value.Row.{Row}
use Rattle.ctr_page.specs.Columns.{entry_in, first_in, versions_first_in}
use Rattle.ctr_page.specs.declared.rows.Place.{Place}
use Rattle.ctr_area.specs.Areas.{Area, no_pages}
use Rattle.ctr_area.specs.Chains.{pages_from, places_on, places_from}
use Rattle.ctr_area.specs.Reading.{area_of, bucket_numbers, entry_bytes}
use Rattle.ctr_record_laws.proofs.Ends.{page_goes_on, page_ends}
use Rattle.ctr_views.specs.chain_Visible.{visible_row}
use Rattle.ctr_views.specs.chain_ReadRefusal.{ReadRefusal}
use Rattle.ctr_views.specs.chain_ReadRefusal.TheVariants as refusal
use Rattle.ctr_views.specs.Scanning.{with_seen}
use Rattle.ctr_reading.specs.Reading.{as_told}
use Rattle.ctr_reading.specs.Gathering.{gathered_at, gathered, Gathers}

-- ---- where there are rows, there are more

pub put_some : (key : ℤ) (row : Row) (rows : List (ℤ × Row)) → put int_cmp key row rows ≡ [] → ⊥
put_some key row [] is = absurd cc
put_some key row (e ∷ es) is = by (int_cmp key e.0) is
  where
    by : (o : Ordering) → by_order o ((key, row) ∷ e ∷ es) ((e.0, row) ∷ es) (e ∷ put int_cmp key row es) ≡ [] → ⊥
    by Less none = absurd cc
    by Equal none = absurd cc
    by Greater none = absurd cc

module _ (test : ℕ → Bool) (area : Area) where
  abbrev Rows : Type 0
  Rows = List (ℤ × Row)

  abbrev gather : List Place → Rows → Rows
  gather places rows = gathered test area places rows

  with_some : (key : ℤ) (o : Option Row) (rows : Rows) → (rows ≡ [] → ⊥) → with_seen key o rows ≡ [] → ⊥
  with_some key None rows some = some
  with_some key (Some row) rows some = put_some key row rows

  at_some : (at : Place) (rows : Rows) → (rows ≡ [] → ⊥) → gathered_at test area at rows ≡ [] → ⊥
  at_some at rows some = elim (area.slot at).used as (λ b. cond b (with_seen (area.slot at).key (visible_row test area at) rows) rows ≡ [] → ⊥) [
    | true ↦ with_some (area.slot at).key (visible_row test area at) rows some
    | false ↦ some
  ]

  gathered_some : (places : List Place) (rows : Rows) → (rows ≡ [] → ⊥) → gather places rows ≡ [] → ⊥
  gathered_some [] rows some = some
  gathered_some (at ∷ places) rows some = gathered_some places (gathered_at test area at rows) (at_some at rows some)

  -- So what is refused on the way is refused of all.
  pub refused_further : (S T : Type 0) (places : List Place) (some all rows others : Rows) (e : ReadRefusal) → gather places some ≡ all
      → IfOk (as_told {T = S} (Err e)) (Gathers some rows) → IfOk (as_told {T = T} (Err e)) (Gathers all others)
  refused_further S T places some all rows others (refusal.Store e) is holds = tt
  refused_further S T places some all rows others refusal.OutOfMemory is holds = λ none. gathered_some places some holds (is ∙ none)

  -- ---- a page

  pub gather_both : (xs ys : List Place) (rows : Rows) → gather (xs ++ ys) rows ≡ gather ys (gather xs rows)
  gather_both [] ys rows = refl
  gather_both (x ∷ xs) ys rows = gather_both xs ys (gathered_at test area x rows)

  -- one slot of a page, and those behind it
  pub slots_step : (p k n : ℕ) (rows : Rows) → k < n → gather (places_on p k (n - k)) rows ≡ gather (places_on p (k + 1) (n - (k + 1))) (gathered_at test area (record { page = p; slot = k }) rows)
  slots_step p k n rows lt = let one : n - k ≡ suc (n - (k + 1)) = omega (arith, lt) in ap (λ (m : ℕ). gather (places_on p k m) rows) one

  pub slots_end : (p k n : ℕ) (rows : Rows) → n ≤ k → gather (places_on p k (n - k)) rows ≡ rows
  slots_end p k n rows le = let none : n - k ≡ 0 = omega (arith, le) in ap (λ (m : ℕ). gather (places_on p k m) rows) none

  -- ---- pages

  abbrev pub on_page : ℕ → List Place
  on_page q = places_on q 0 (area.room q)

  abbrev pub pages_places : ℕ → ℕ → List Place
  pages_places n p = flat_map on_page (pages_from n area.header p)

  pub page_step : (n p : ℕ) (rows : Rows) → (p ≡ 0 → ⊥) → gather (pages_places (suc n) p) rows ≡ gather (pages_places n (area.header p).next) (gather (on_page p) rows)
  page_step n p rows some = ap (λ ps. gather (flat_map on_page ps) rows) (page_goes_on area.header n p some) ∙ gather_both (on_page p) (pages_places n (area.header p).next) rows

  pub pages_end : (n p : ℕ) (rows : Rows) → p ≡ 0 → gather (pages_places n p) rows ≡ rows
  pages_end n p rows is = ap (λ ps. gather (flat_map on_page ps) rows) (page_ends area.header n p is)

  -- ---- buckets

  abbrev pub buckets_places : List ℕ → List Place
  buckets_places ps = flat_map (places_from area) ps

  pub no_places : (p : ℕ) (rows : Rows) → p ≡ 0 → gather (places_from area p) rows ≡ rows
  no_places p rows is = ap (λ ps. gather (flat_map on_page ps) rows) (page_ends area.header _ p is)

  next_bucket : (ps : List ℕ) (b : ℕ) (rows : Rows) → gather (buckets_places (drop b ps)) rows ≡ gather (buckets_places (drop (suc b) ps)) (gather (places_from area (slice_index ps b)) rows)
  next_bucket [] zero rows = sym (no_places 0 rows refl)
  next_bucket [] (suc b) rows = sym (no_places 0 rows refl)
  next_bucket (p ∷ ps) zero rows = gather_both (places_from area p) (buckets_places ps) rows
  next_bucket (p ∷ ps) (suc b) rows = next_bucket ps b rows

  pub bucket_step : (ps : List ℕ) (b : ℕ) (rows : Rows) → gather (buckets_places (drop b ps)) rows ≡ gather (buckets_places (drop (b + 1) ps)) (gather (places_from area (slice_index ps b)) rows)
  bucket_step ps b rows = let one : suc b ≡ b + 1 = omega arith in next_bucket ps b rows ∙ ap (λ (n : ℕ). gather (buckets_places (drop n ps)) (gather (places_from area (slice_index ps b)) rows)) one

  pub buckets_end : (ps : List ℕ) (b : ℕ) (rows : Rows) → length ps ≤ b → gather (buckets_places (drop b ps)) rows ≡ rows
  buckets_end [] zero rows le = refl
  buckets_end [] (suc b) rows le = refl
  buckets_end (p ∷ ps) zero rows le = absurd (none (length ps) le)
    where
      none : (n : ℕ) → suc n ≤ 0 → ⊥
      none n le = omega (arith, le)
  buckets_end (p ∷ ps) (suc b) rows le = buckets_end ps b rows (less (length ps) le)
    where
      less : (n : ℕ) → suc n ≤ suc b → n ≤ b
      less n le = omega (arith, le)

-- a table has eight buckets, or none
pub eight_buckets : (pages : ℕ → List ℕ) (e : ℕ) → length ((area_of pages).firsts e).buckets ≤ 8
eight_buckets pages e =
    let entry = entry_in (entry_bytes pages e) in
    elim (entry.state == 0) as (λ b. length (cond b no_pages (record {
      buckets = map (λ k. first_in k entry.bytes) bucket_numbers;
      versions = versions_first_in entry.bytes;
    })).buckets ≤ 8) [
      | true ↦ let few : 0 ≤ 8 = omega arith in few
      | false ↦ let few : 8 ≤ 8 = omega arith in few
    ]
