-- The lowest free entry of the catalog is the lowest on its first page, or else on its second.
use Rattle.std.proofs.Common.{◌≡◌, ⊎_elim, inl, inr, ℕ, ◌+◌, ◌-◌, ◌*◌, ◌<◌, ◌≤◌, false, List, Option, None, Some, Result, Ok, Err, sym, ◌∙◌, ap, subst, arith}
use Rattle.std.specs.Prelude.{◌==◌, IfOk, IfSome}
use Rattle.std.proofs.lemmas.Bool.{cases_lt}
use Rattle.ctr_alloc.specs.redo_States.{page_limit}
use Rattle.ctr_rec.specs.declared.decoding.BadRecord.{BadRecord}
use Rattle.ctr_names.specs.page_Searching.{IsFirst}
use Rattle.ctr_names.specs.area_Areas.{Area}
use Rattle.ctr_alloc.specs.area_Reading.{area_of}
use Rattle.ctr_catalog.specs.Entries.{frees_in}
use Rattle.ctr_catalog.specs.Free.{EndsFreeEntry, EndsCatalog, is_free_entry}
use Rattle.ctr_catalog.proofs.Titles.{free_in_area}

-- the pages of the catalog are there
pub in_limit : (p : ℕ) → p < 3 → p < page_limit
unfolding page_limit
in_limit p lt = omega (arith, lt)

-- one that is found on a page is one of its 16
pub few_found : (counted : ℕ) (page : List ℕ) (found : Result (Option ℕ) BadRecord) → EndsFreeEntry counted page found → IfOk found (λ o. IfSome o (λ n. n < 16))
few_found counted page (Ok (Some n)) ends = ends.1
few_found counted page (Ok None) ends = tt
few_found counted page (Err bad) ends = tt

module _ (area : Area) where
  low : (m : ℕ) → frees_in area 0 m ≡ is_free_entry area m
  low m = let same : 16 * 0 + m ≡ m = omega arith in ap (λ e. (area.title e).state == 0) same

  high : (m : ℕ) → frees_in area 1 m ≡ is_free_entry area (16 + m)
  high m = let same : 16 * 1 + m ≡ 16 + m = omega arith in ap (λ e. (area.title e).state == 0) same

  on_first : (e : ℕ) → IsFirst (frees_in area 0) 0 16 (Some e) → IsFirst (is_free_entry area) 0 32 (Some e)
  on_first e first = (omega arith, let few = first.1 in omega (arith, few), sym (low e) ∙ first.2, λ m ge lt. sym (low m) ∙ first.3 m ge lt)

  none_first : IsFirst (frees_in area 0) 0 16 None → (m : ℕ) → m < 16 → is_free_entry area m ≡ false
  none_first none m lt = sym (low m) ∙ none m (omega arith) lt

  behind : (m : ℕ) → 16 ≤ m → frees_in area 1 (m - 16) ≡ false → is_free_entry area m ≡ false
  behind m le is = let same : m ≡ 16 + (m - 16) = omega (arith, le) in ap (is_free_entry area) same ∙ sym (high (m - 16)) ∙ is

  on_second : (n : ℕ) → IsFirst (frees_in area 0) 0 16 None → IsFirst (frees_in area 1) 0 16 (Some n) → IsFirst (is_free_entry area) 0 32 (Some (16 + n))
  on_second n none found = (
    omega arith,
    (let few = found.1 in omega (arith, few)),
    sym (high n) ∙ found.2,
    λ m ge lt. ⊎_elim (none_first none m) (λ le. behind m le (found.3 (m - 16) (omega arith) (before m le lt))) (cases_lt m 16),
  )
    where
      before : (m : ℕ) → 16 ≤ m → m < 16 + n → m - 16 < n
      before m le lt = omega (arith, le, lt)

  none_at_all : IsFirst (frees_in area 0) 0 16 None → IsFirst (frees_in area 1) 0 16 None → IsFirst (is_free_entry area) 0 32 None
  none_at_all none second = λ m ge lt. ⊎_elim (none_first none m) (λ le. behind m le (second (m - 16) (omega arith) (before m le lt))) (cases_lt m 16)
    where
      before : (m : ℕ) → 16 ≤ m → m < 32 → m - 16 < 16
      before m le lt = omega (arith, le, lt)

module _ (pages : ℕ → List ℕ) (counted : ℕ) where
  first_page : (found : Option ℕ) → EndsFreeEntry counted (pages 1) (Ok found) → IsFirst (frees_in (area_of pages) 0) 0 16 found
  first_page found ends = free_in_area pages 0 0 counted (omega arith) found ends

  second_page : (found : Option ℕ) → EndsFreeEntry counted (pages 2) (Ok found) → IsFirst (frees_in (area_of pages) 1) 0 16 found
  second_page found ends = free_in_area pages 1 0 counted (omega arith) found ends

  pub lowest_free : (found : Option ℕ) → EndsCatalog counted pages (Ok found) → IsFirst (is_free_entry (area_of pages)) 0 32 found
  lowest_free (Some e) (inl ends) = on_first (area_of pages) e (first_page (Some e) ends)
  lowest_free (Some e) (inr (none, (n, is, ends))) =
      subst (λ x. IsFirst (is_free_entry (area_of pages)) 0 32 (Some x)) (sym is) (on_second (area_of pages) n (first_page None none) (second_page (Some n) ends))
  lowest_free None (none, second) = none_at_all (area_of pages) (first_page None none) (second_page None second)
