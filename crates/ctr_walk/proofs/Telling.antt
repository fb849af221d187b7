-- What a search along a chain of pages has found, in the area.
use Rattle.std.proofs.Common.{◌≡◌, ◌≢◌, inl, inr, ℕ, zero, suc, ◌-◌, ◌≤◌, Bool, true, false, cond, List, [], ◌∷◌, Option, None, Some, Ok, refl, sym, ap, subst, arith}
use Rattle.std.specs.Prelude.{nat_lt, not}
use Rattle.std.specs.List.{AllByRecursion}
use Rattle.std.proofs.lemmas.Bool.{ne_eqb}
use Rattle.ctr_record_effects.proofs.ctr_versions.Keys.{known}
use Rattle.ctr_record_effects.specs.page_Header.{Header}
use Rattle.ctr_record_effects.specs.page_Place.{Place}
use Rattle.ctr_record_effects.specs.page_Reading.{header_in}
use Rattle.ctr_record_effects.specs.page_Searching.{IsFirst}
use Rattle.ctr_record_effects.specs.page_Walking.{most_in_chain}
use Rattle.ctr_record_effects.specs.area_Areas.{Area}
use Rattle.ctr_record_effects.specs.area_Reading.{no_header, area_of}
use Rattle.ctr_record_effects.specs.area_Chains.{pages_bound, pages_from, places_from}
use Rattle.ctr_record_effects.specs.area_Sound.{IsAmong}
use Rattle.ctr_record_effects.proofs.area_Buckets.{each_of, on_chain, in_chain}
use Rattle.ctr_walk.specs.Along.{ChainSought, EndsPage, EndsAlong}

pub none_from : (n : ℕ) (header : ℕ → Header) → pages_from n header 0 ≡ []
none_from zero header = refl
none_from (suc n) header = refl

one_more : (n : ℕ) (header : ℕ → Header) (p : ℕ) → p ≢ 0 → pages_from (suc n) header p ≡ p ∷ pages_from n header (header p).next
one_more n header p some = ap (λ b. cond b [] (p ∷ pages_from n header (header p).next)) (ne_eqb p 0 some)

-- the search of a page that ends well has come behind its header
ends_behind : (s : ChainSought) (page : List ℕ) (found : Option ℕ) → EndsPage s page (Ok found) → s.ends page (Ok found)
ends_behind s page found (inl (bad, fails, is)) = absurd (let f = is in cc)
ends_behind s page found (inr ends) = ends.1

pub bounded : (counted : ℕ) → counted ≤ 30000 → counted ≤ pages_bound
unfolding pages_bound
bounded counted few = few

few_steps : (counted bound : ℕ) → counted ≤ bound → counted - 3 ≤ bound
few_steps counted bound few = omega (arith, few)

-- what is free isn't used, both ways
pub not_used : (b : Bool) → not b ≡ true → b ≡ false
not_used true is = absurd cc
not_used false is = refl

pub not_free : (b : Bool) → not b ≡ false → b ≡ true
not_free true is = refl
not_free false is = absurd cc

-- Its pages are of some kind, and what the search of one finds is the first place there that is sought.
module _ (pages : ℕ → List ℕ) (s : ChainSought) (IsOurs : Header → Type 0) (sought : ℕ → ℕ → Bool) (kind : (h : Header) → IsOurs h → h.kind ≢ 0)
    (finds : (p : ℕ) (o : Option ℕ) → IsOurs ((area_of pages).header p) → s.ends (pages p) (Ok o) → IsFirst (sought p) 0 ((area_of pages).room p) o) where
  abbrev area : Area
  area = area_of pages

  abbrev AreOurs : ℕ → ℕ → Type 0
  AreOurs m p = AllByRecursion (λ q. IsOurs (area.header q)) (pages_from m area.header p)

  -- none on a page is sought
  abbrev HasNone : ℕ → Type 0
  HasNone q = IsFirst (sought q) 0 (area.room q) None

  -- it is behind the catalog, so its header is read
  next_read : (p : ℕ) → IsOurs (area.header p) → (header_in (pages p)).next ≡ (area.header p).next
  next_read p ours = known (nat_lt p 3)
      (λ low. absurd (kind (area.header p) ours (ap (λ t. (cond t no_header (header_in (pages p))).kind) low)))
      (λ high. sym (ap (λ t. (cond t no_header (header_in (pages p))).next) high))

  nothing : (m p : ℕ) → p ≡ 0 → AllByRecursion HasNone (pages_from m area.header p)
  nothing m p none = subst (λ q. AllByRecursion HasNone (pages_from m area.header q)) (sym none) (subst (AllByRecursion HasNone) (sym (none_from m area.header)) tt)

  absent : (n m last p : ℕ) → n ≤ m → AreOurs m p → EndsAlong s pages n last p (Ok None) → AllByRecursion HasNone (pages_from m area.header p)
  absent zero m last p le ours (inl end) = nothing m p end.0
  absent zero m last p le ours (inr long) = absurd (let f = long.1 in cc)
  absent (suc n) zero last p le ours ends = absurd (omega (arith, le))
  absent (suc n) (suc m) last p le ours (inl end) = nothing (suc m) p end.0
  absent (suc n) (suc m) last p le ours (inr (some, inl (k, ends, is))) = absurd cc
  absent (suc n) (suc m) last p le ours (inr (some, inr (inl (bad, ends, is)))) = absurd cc
  absent (suc n) (suc m) last p le ours (inr (some, inr (inr (ends, rest)))) =
      let more = one_more m area.header p some in
      let all = subst (AllByRecursion (λ q. IsOurs (area.header q))) more ours in
      subst (AllByRecursion HasNone) (sym more) (finds p None all.0 (ends_behind s (pages p) None ends), absent n m p (area.header p).next (omega (arith, le)) all.1 (subst (λ q. EndsAlong s pages n p q (Ok None)) (next_read p all.0) rest))

  abbrev IsFound : ℕ → ℕ → Place → Type 0
  IsFound m p at = IsAmong at.page (pages_from m area.header p) × IsFirst (sought at.page) 0 (area.room at.page) (Some at.slot)

  found : (n m last p : ℕ) (at : Place) → n ≤ m → AreOurs m p → EndsAlong s pages n last p (Ok (Some at)) → IsFound m p at
  found zero m last p at le ours (inl end) = absurd (let f = end.1 in cc)
  found zero m last p at le ours (inr long) = absurd (let f = long.1 in cc)
  found (suc n) zero last p at le ours ends = absurd (omega (arith, le))
  found (suc n) (suc m) last p at le ours (inl end) = absurd (let f = end.1 in cc)
  found (suc n) (suc m) last p at le ours (inr (some, inl (k, ends, is))) =
      let more = one_more m area.header p some in
      let all = subst (AllByRecursion (λ q. IsOurs (area.header q))) more ours in
      let there : Place = record { page = p; slot = k } in
      let same : there ≡ at = cc is in
      subst (IsFound (suc m) p) same (subst (IsAmong p) (sym more) (inl refl), finds p (Some k) all.0 (ends_behind s (pages p) (Some k) ends))
  found (suc n) (suc m) last p at le ours (inr (some, inr (inl (bad, ends, is)))) = absurd cc
  found (suc n) (suc m) last p at le ours (inr (some, inr (inr (ends, rest)))) =
      let more = one_more m area.header p some in
      let all = subst (AllByRecursion (λ q. IsOurs (area.header q))) more ours in
      let behind = found n m p (area.header p).next at (omega (arith, le)) all.1 (subst (λ q. EndsAlong s pages n p q (Ok (Some at))) (next_read p all.0) rest) in
      (subst (IsAmong at.page) (sym more) (inr behind.0), behind.1)

  module _ (few : s.counted ≤ pages_bound) (last first : ℕ) (ours : AreOurs pages_bound first) where
    -- on the pages of the chain
    pub page_found : (at : Place) → EndsAlong s pages (most_in_chain s.counted) last first (Ok (Some at)) → IsFound pages_bound first at
    page_found at ends = found (most_in_chain s.counted) pages_bound last first at (few_steps s.counted pages_bound few) ours ends

    pub pages_without : EndsAlong s pages (most_in_chain s.counted) last first (Ok None) → AllByRecursion HasNone (pages_from pages_bound area.header first)
    pages_without ends = absent (most_in_chain s.counted) pages_bound last first (few_steps s.counted pages_bound few) ours ends

    -- among the places of the chain
    pub place_found : (at : Place) → EndsAlong s pages (most_in_chain s.counted) last first (Ok (Some at)) → IsAmong at (places_from area first) × (sought at.page at.slot ≡ true)
    place_found at ends =
        let told = page_found at ends in
        (in_chain area first at.page at.slot told.0 told.1.1, told.1.2)

    pub no_place : EndsAlong s pages (most_in_chain s.counted) last first (Ok None) → (at : Place) → IsAmong at (places_from area first) → sought at.page at.slot ≡ false
    no_place ends at in_ =
        let there = on_chain area first at in_ in
        each_of HasNone at.page (pages_from pages_bound area.header first) (pages_without ends) there.0 at.slot (omega arith) there.1
