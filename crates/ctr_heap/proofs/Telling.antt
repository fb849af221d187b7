-- What a search along the chain of a bucket has found, in the area.
use Rattle.std.proofs.Common.{◌≡◌, ◌≢◌, ℕ, zero, suc, ◌+◌, ◌≤◌, ℤ, List, [], ◌∷◌, slice_index, Option, None, Some, Result, Ok, sym, subst, arith}
use Rattle.std.specs.List.{AllByRecursion}
use Rattle.ctr_disk.specs.declared.fault.StoreFault.{StoreFault}
use Rattle.ctr_page.specs.declared.checks.Chain.TheVariants.{Rows}
use Rattle.ctr_page.specs.declared.header.Header.{Header}
use Rattle.ctr_page.specs.declared.rows.Place.{Place}
use Rattle.ctr_page.specs.declared.walk.BadChain.{BadChain}
use Rattle.ctr_page.specs.Places.{bucket_of}
use Rattle.ctr_page.specs.Columns.{kinds_of, columns_in}
use Rattle.ctr_page.specs.Searching.{IsFirst}
use Rattle.ctr_page.specs.Walking.{most_in_chain}
use Rattle.ctr_passed.specs.area_Areas.{Area}
use Rattle.ctr_passed.specs.area_Reading.{entry_bytes, area_of}
use Rattle.ctr_passed.specs.area_Chains.{pages_bound, pages_from}
use Rattle.ctr_passed.specs.area_Sound.{IsOfRows, AreBuckets, AreReadable}
use Rattle.ctr_walk.specs.Damage.{EndsTold}
use Rattle.ctr_walk.specs.Tables.{first_of_chain}
use Rattle.ctr_walk.specs.Along.{ChainSought, EndsAlong}
use Rattle.ctr_walk.proofs.Telling.{none_from, not_used, not_free, page_found, pages_without, place_found, no_place}
use Rattle.ctr_heap.specs.declared.slots.SlotSought.{SlotSought}
use Rattle.ctr_heap.specs.declared.slots.SlotSought.TheVariants.{Key, Free}
use Rattle.ctr_heap.specs.Slots.{EndsSlots, seeks_in}
use Rattle.ctr_heap.specs.Finding.{bucket_sought, EndsBucket, FindsKey, FindsFree}
use Rattle.ctr_heap.proofs.Sought.{first_in_area}
use Rattle.ctr_heap.proofs.Keyed.{key_found, key_absent}

-- the pages of a bucket's chain are its own
bucket_pages : (area : Area) (e b n : ℕ) (ps : List ℕ) → AreBuckets area e b ps → AllByRecursion (λ q. IsOfRows e (b + n) (area.header q)) (pages_from pages_bound area.header (slice_index ps n))
bucket_pages area e b n [] buckets = subst (AllByRecursion (λ q. IsOfRows e (b + n) (area.header q))) (sym (none_from pages_bound area.header)) tt
bucket_pages area e b zero (p ∷ ps) buckets =
    let same : b ≡ b + 0 = omega arith in
    subst (λ k. AllByRecursion (λ q. IsOfRows e k (area.header q)) (pages_from pages_bound area.header p)) same buckets.0.0
bucket_pages area e b (suc n) (p ∷ ps) buckets =
    let same : b + 1 + n ≡ b + suc n = omega arith in
    subst (λ k. AllByRecursion (λ q. IsOfRows e k (area.header q)) (pages_from pages_bound area.header (slice_index ps n))) same (bucket_pages area e (b + 1) n ps buckets.1)

has_kind : (e b : ℕ) (h : Header) → IsOfRows e b h → h.kind ≢ 0
has_kind e b h rows none = omega (arith, rows.0, none)

module _ (pages : ℕ → List ℕ) (e counted last : ℕ) (readable : AreReadable (area_of pages)) (few : counted ≤ pages_bound) where
  abbrev area : Area
  area = area_of pages

  module _ (bucket : ℕ) (sought : SlotSought) where
    abbrev s : ChainSought
    s = bucket_sought pages counted e bucket sought

    ours : AllByRecursion (λ q. IsOfRows e bucket (area.header q)) (pages_from pages_bound area.header (first_of_chain area (Rows e bucket)))
    ours =
        let plain : 0 + bucket ≡ bucket = omega arith in
        subst (λ k. AllByRecursion (λ q. IsOfRows e k (area.header q)) (pages_from pages_bound area.header (first_of_chain area (Rows e bucket)))) plain (bucket_pages area e 0 bucket (area.firsts e).buckets (readable.rows e))

    here : (p : ℕ) (o : Option ℕ) → IsOfRows e bucket (area.header p) → s.ends (pages p) (Ok o) → IsFirst (seeks_in area p sought) 0 (area.room p) o
    here p o rows ends = first_in_area pages p counted sought rows.0 o (subst (λ f. EndsSlots sought (kinds_of (columns_in (entry_bytes pages f))) counted (pages p) (Ok o)) (sym rows.1) ends)

    -- where the search of the bucket ends without damage
    abbrev Ends : Option Place → Type 0
    Ends o = EndsAlong s pages (most_in_chain counted) last (first_of_chain area (Rows e bucket)) (Ok o)

  pub key_told : (key : ℤ) (o : Option Place) → Ends (bucket_of key) (Key key) o → FindsKey area e key o
  key_told key (Some at) ends =
      let b = bucket_of key in
      let told = page_found pages (s b (Key key)) (IsOfRows e b) (λ p. seeks_in area p (Key key)) (has_kind e b) (here b (Key key)) few last (first_of_chain area (Rows e b)) (ours b (Key key)) at ends in
      key_found area e at.page at.slot key told.0 told.1
  key_told key None ends = λ keyed.
      let b = bucket_of key in
      key_absent area e key readable keyed (pages_without pages (s b (Key key)) (IsOfRows e b) (λ p. seeks_in area p (Key key)) (has_kind e b) (here b (Key key)) few last (first_of_chain area (Rows e b)) (ours b (Key key)) ends)

  pub free_told : (bucket : ℕ) (o : Option Place) → Ends bucket Free o → FindsFree area e bucket o
  free_told b (Some at) ends =
      let told = place_found pages (s b Free) (IsOfRows e b) (λ p. seeks_in area p Free) (has_kind e b) (here b Free) few last (first_of_chain area (Rows e b)) (ours b Free) at ends in
      (told.0, not_used (area.slot at).used told.1)
  free_told b None ends = λ at in_.
      not_free (area.slot at).used (no_place pages (s b Free) (IsOfRows e b) (λ p. seeks_in area p Free) (has_kind e b) (here b Free) few last (first_of_chain area (Rows e b)) (ours b Free) ends at in_)

-- the search for a key ends in the key's bucket
pub key_ends : (told : BadChain → StoreFault) (counted : ℕ) (pages : ℕ → List ℕ) (e : ℕ) (key k : ℤ) (bucket : ℕ) (result : Result (Option Place) StoreFault) → k ≡ key → bucket ≡ bucket_of k
    → EndsTold told (EndsBucket counted pages e bucket (Key k)) result → EndsTold told (EndsBucket counted pages e (bucket_of key) (Key key)) result
key_ends told counted pages e key k bucket result same is ends = subst (λ z. EndsTold told (EndsBucket counted pages e (bucket_of z) (Key z)) result) same (subst (λ b. EndsTold told (EndsBucket counted pages e b (Key k)) result) is ends)
