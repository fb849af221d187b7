-- An entry on a page of the catalog is the one of the area.
use Rattle.std.proofs.Common.{◌≡◌, ℕ, ◌+◌, ◌*◌, ◌/◌, ◌%◌, ◌<◌, true, cond, List, [], Ok, ◌∙◌, ap, arith}
use Rattle.std.specs.Prelude.{◌==◌, nat_lt, Option}
use Rattle.std.proofs.lemmas.Bool.{lt-ltb}
use Rattle.ctr_names.specs.page_Reading.{piece}
use Rattle.ctr_names.specs.page_Columns.{entry_in, entry_at}
use Rattle.ctr_names.specs.page_Searching.{EndsSearch, IsFirst}
use Rattle.ctr_names.proofs.page_Searches.{ends_first}
use Rattle.ctr_names.specs.area_Areas.{Title}
use Rattle.ctr_alloc.specs.area_Reading.{title_of, area_of}
use Rattle.ctr_catalog.specs.Entries.{is_unused, checks_entry, frees_in}

module _ (pages : ℕ → List ℕ) (half from counted : ℕ) (two : half < 2) where
  title_here : (n : ℕ) → n < 16 → (area_of pages).title (16 * half + n) ≡ title_of (entry_at n (pages (1 + half)))
  title_here n few =
      let e = 16 * half + n in
      let low : (nat_lt e 32) ≡ true = lt-ltb e 32 (omega (arith, two, few)) in
      let place : e % 16 ≡ n = omega (arith, few) in
      let page : e / 16 ≡ half = omega (arith, few) in
      ap (λ b. title_of (entry_in (cond b (piece (256 * (e % 16)) 256 (pages (1 + e / 16))) []))) low
      ∙ (λ i. title_of (entry_in (piece (256 * place i) 256 (pages (1 + page i)))))

  pub free_in_area : (found : Option ℕ) → EndsSearch (checks_entry counted (pages (1 + half))) (λ n. is_unused (entry_at n (pages (1 + half)))) from 16 (Ok found)
      → IsFirst (frees_in (area_of pages) half) from 16 found
  free_in_area found ends =
      ends_first (checks_entry counted (pages (1 + half))) (λ n. is_unused (entry_at n (pages (1 + half)))) (frees_in (area_of pages) half) from 16 found
      (λ m few passes. ap (λ (t : Title). t.state == 0) (title_here m few)) ends
