-- The pages of a table are counted ones behind the catalog, and a chain of them has no more than there are.
use Rattle.std.proofs.Common.{◌≡◌, ⊎_elim, ℕ, ◌+◌, ◌-◌, ◌<◌, ◌≤◌, true, List, ◌++◌, length, slice_index, subst, arith}
use Rattle.std.proofs.lemmas.Bool.{cases_lt}
use Rattle.std.specs.List.{flat_map}
use Rattle.std.specs.Prelude.{◌==◌}
use Rattle.ctr_meta.specs.Tables.{Tables}
use Rattle.ctr_heap.specs.area_Areas.{Firsts, Area}
use Rattle.ctr_heap.specs.area_Chains.{pages_bound, pages_from, table_pages}
use Rattle.ctr_heap.specs.area_Images.{numbers, entry_numbers}
use Rattle.ctr_heap.specs.area_Sound.{IsAmong, how_many, page_of_item, xids_in, owned_pages, IsSoundArea}
use Rattle.ctr_heap.proofs.area_Buckets.{each_of}
use Rattle.ctr_chain.specs.record_laws_Bounds.{IsInBounds}
use Rattle.ctr_heap.proofs.record_laws_Ends.{one_among, one_count}
use Rattle.ctr_heap.proofs.record_laws_Few.{counts_apart, number_among, length-numbers, flat_count, entry_among}
use Rattle.ctr_heap.proofs.record_laws_Firsts.{counted_among}
use Rattle.ctr_heap.proofs.record_laws_Members.{among_front, among_rest, count_append, count_among}
use Rattle.ctr_heap.proofs.record_laws_Owned.{entry_inside, in_all, owned_once}
use Rattle.ctr_heap.proofs.record_laws_Room.{apart_fit}
use Rattle.ctr_heap.proofs.ctr_walk.Telling.{none_from}

module _ (counted : ℕ) (tables : Tables) (area : Area) (bounds : IsInBounds area) (sound : IsSoundArea counted tables area) where
  abbrev pub count : ℕ → List ℕ → ℕ
  count q xs = how_many (λ r. r == q) xs

  abbrev owned : List ℕ
  owned = owned_pages tables.items area

  abbrev bucket_pages : ℕ → ℕ → List ℕ
  bucket_pages e b = pages_from pages_bound area.header (slice_index (area.firsts e).buckets b)

  abbrev older_pages : ℕ → List ℕ
  older_pages e = pages_from pages_bound area.header (area.firsts e).versions

  -- ---- a page of a table

  pub table_inside : (e p : ℕ) → IsAmong p (table_pages area e) → e < 32
  table_inside e p in_ = entry_inside area bounds (λ (f : Firsts). flat_map (pages_from pages_bound area.header) f.buckets ++ pages_from pages_bound area.header f.versions) p e (none_from pages_bound area.header) in_

  page_inside : (e p : ℕ) → IsAmong p (table_pages area e) → (3 ≤ p) × (p < counted)
  page_inside e p in_ =
      let its = each_of (λ q. (3 ≤ q) × (q < counted) × (area.taken q ≡ true)) p owned sound.owned.inside
      (among_front p (flat_map (table_pages area) entry_numbers) (flat_map page_of_item tables.items) (in_all area bounds (table_pages area) p e (table_inside e p in_) in_)) in
      (its.0, its.1)

  pub on_bucket : (e b p : ℕ) → b < length (area.firsts e).buckets → IsAmong p (bucket_pages e b) → (3 ≤ p) × (p < counted)
  on_bucket e b p lt in_ = page_inside e p (among_front p (flat_map (pages_from pages_bound area.header) (area.firsts e).buckets) (older_pages e) (one_among (pages_from pages_bound area.header) p (area.firsts e).buckets b lt in_))

  pub on_versions : (e p : ℕ) → IsAmong p (older_pages e) → (3 ≤ p) × (p < counted)
  on_versions e p in_ = page_inside e p (among_rest p (flat_map (pages_from pages_bound area.header) (area.firsts e).buckets) (older_pages e) in_)

  -- ---- how many

  most_once : (q : ℕ) → count q owned ≤ 1
  most_once q = ⊎_elim (λ lt. low (count q owned) lt)
      (λ le. one (count q owned) (owned_once area bounds counted (xids_in tables.opens) tables.items sound.owned q (counted_among q owned le)))
      (cases_lt (count q owned) 1)
    where
      low : (n : ℕ) → n < 1 → n ≤ 1
      low n lt = omega (arith, lt)

      one : (n : ℕ) → n ≡ 1 → n ≤ 1
      one n is = omega (arith, is)

  few_of : (e : ℕ) (xs : List ℕ) → e < 32 → ((q : ℕ) → count q xs ≤ count q (table_pages area e)) → length xs ≤ counted - 3
  few_of e xs lt within = subst (λ n. length xs ≤ n) (length-numbers 3 (counted - 3))
      (apart_fit xs (numbers 3 (counted - 3)) (counts_apart xs (λ q. most (count q xs) (count q owned) (upto q) (most_once q)))
      (λ q in_. inside q (its q in_)))
    where
      upto : (q : ℕ) → count q xs ≤ count q owned
      upto q = sums (count q xs) (count q (table_pages area e)) (count q (flat_map (table_pages area) entry_numbers)) (count q (flat_map page_of_item tables.items)) (count q owned)
          (within q) (flat_count (table_pages area) (λ r. r == q) e entry_numbers (entry_among e lt))
          (count_append (λ r. r == q) (flat_map (table_pages area) entry_numbers) (flat_map page_of_item tables.items))
        where
          sums : (a b c d f : ℕ) → a ≤ b → b ≤ c → f ≡ c + d → a ≤ f
          sums a b c d f one two is = omega (arith, one, two, is)

      most : (a b : ℕ) → a ≤ b → b ≤ 1 → a ≤ 1
      most a b one two = omega (arith, one, two)

      its : (q : ℕ) → IsAmong q xs → (3 ≤ q) × (q < counted)
      its q in_ = page_inside e q (counted_among q (table_pages area e) (some (count q xs) (count q (table_pages area e)) (count_among q xs in_) (within q)))
        where
          some : (a b : ℕ) → 1 ≤ a → a ≤ b → 1 ≤ b
          some a b one two = omega (arith, one, two)

      inside : (q : ℕ) → (3 ≤ q) × (q < counted) → IsAmong q (numbers 3 (counted - 3))
      inside q there = number_among q 3 (counted - 3) there.0 (omega (arith, there.0, there.1))

  -- a chain of a table has no more pages than are counted behind the catalog
  pub few_on_bucket : (e b : ℕ) → e < 32 → b < length (area.firsts e).buckets → length (bucket_pages e b) ≤ counted - 3
  few_on_bucket e b lt there = few_of e (bucket_pages e b) lt (λ q. front (count q (bucket_pages e b)) (count q (flat_map (pages_from pages_bound area.header) (area.firsts e).buckets)) (count q (older_pages e)) (count q (table_pages area e))
      (one_count (pages_from pages_bound area.header) (λ r. r == q) (area.firsts e).buckets b there)
      (count_append (λ r. r == q) (flat_map (pages_from pages_bound area.header) (area.firsts e).buckets) (older_pages e)))
    where
      front : (a b c d : ℕ) → a ≤ b → d ≡ b + c → a ≤ d
      front a b c d le is = omega (arith, le, is)

  pub few_on_versions : (e : ℕ) → e < 32 → length (older_pages e) ≤ counted - 3
  few_on_versions e lt = few_of e (older_pages e) lt (λ q. behind (count q (older_pages e)) (count q (flat_map (pages_from pages_bound area.header) (area.firsts e).buckets)) (count q (table_pages area e))
      (count_append (λ r. r == q) (flat_map (pages_from pages_bound area.header) (area.firsts e).buckets) (older_pages e)))
    where
      behind : (a b d : ℕ) → d ≡ b + a → a ≤ d
      behind a b d is = omega (arith, is)
