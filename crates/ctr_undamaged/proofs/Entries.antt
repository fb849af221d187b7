-- No entry of the catalog fails its check, so no search of it ends at one.
use Rattle.std.proofs.Common.{◌≡◌, inl, inr, ℕ, ◌+◌, ◌*◌, ◌/◌, ◌%◌, ◌<◌, Bool, List, Option, Result, Ok, Err, sym, ◌∙◌, subst, arith}
use Rattle.std.specs.Prelude.{⊤}
use Rattle.ctr_rec.specs.declared.decoding.BadRecord.{BadRecord}
use Rattle.ctr_page.specs.declared.table.TheConstants.{ENTRY_SIZE}
use Rattle.ctr_page.specs.declared.walk.BadChain.TheVariants.{OnPage, TooLong}
use Rattle.ctr_page.specs.Damage.{entry_check}
use Rattle.ctr_page.specs.Searching.{EndsSearch}
use Rattle.ctr_heap.specs.area_Checked.{Passes, ArePassed}
use Rattle.ctr_heap.specs.ctr_walk.Damage.{EndsOnPage}
use Rattle.ctr_catalog.specs.Finding.{checks_at, EndsEntries, EndsEntry}
use Rattle.ctr_catalog.specs.Free.{EndsFreeEntry, EndsCatalog}
use Rattle.ctr_undamaged.specs.Undamaged.{EndsWell, MeetsNoDamage}

-- a call tells only what its search ends at
pub meets : {T B : Type 0} (Ends : Result T B → Type 0) → EndsWell Ends → MeetsNoDamage Ends
meets Ends well = record { ends = well; told = λ told d at. well at.0 at.1 }

-- what passes doesn't fail
pub passes_or_fails : {A B : Type 0} (checked : Result A B) (x : A) (bad : B) → checked ≡ Ok x → checked ≡ Err bad → ⊥
passes_or_fails checked x bad passes fails = let e = sym passes ∙ fails in absurd cc

-- a search in which no check fails
pub search_whole : (check : ℕ → Result ⊤ BadRecord) (sought : ℕ → Bool) (from count : ℕ) → ((n : ℕ) → n < count → Passes (check n)) → EndsWell (EndsSearch check sought from count)
search_whole check sought from count all bad (n, le, lt, before, fails) = passes_or_fails (check n) tt bad (all n lt) fails

module _ (counted : ℕ) (pages : ℕ → List ℕ) (passed : ArePassed counted pages) where
  pub entries_whole : (sought : ℕ → Bool) → EndsWell (EndsEntries (checks_at counted pages) sought)
  entries_whole sought (OnPage q bad) (e, lt, before, fails, is) = passes_or_fails (checks_at counted pages e) tt bad (passed.entries e lt) fails
  entries_whole sought (TooLong last most) none = none

  pub entry_whole : (who : Option ℕ) (e : ℕ) → e < 32 → EndsWell (EndsEntry (checks_at counted pages e) who e)
  entry_whole who e lt (OnPage q bad) ends = passes_or_fails (checks_at counted pages e) tt bad (passed.entries e lt) ends.0
  entry_whole who e lt (TooLong last most) none = none

  -- by its number on the first page of the catalog (0) or the second (1)
  on_half : (half n : ℕ) → half < 2 → n < 16 → Passes (entry_check counted (ENTRY_SIZE * n) (pages (1 + half)))
  on_half half n two lt =
      subst (λ q. Passes (entry_check counted (ENTRY_SIZE * n) (pages (1 + q)))) (let e : (16 * half + n) / 16 ≡ half = omega (arith, lt) in e)
      (subst (λ m. Passes (entry_check counted (ENTRY_SIZE * m) (pages (1 + (16 * half + n) / 16)))) (let e : (16 * half + n) % 16 ≡ n = omega (arith, lt) in e)
      (passed.entries (16 * half + n) (omega (arith, two, lt))))

  half_whole : (half : ℕ) → half < 2 → EndsWell (EndsOnPage (1 + half) (EndsFreeEntry counted (pages (1 + half))))
  half_whole half two (OnPage q bad) (is, (n, from, lt, before, fails)) = passes_or_fails (entry_check counted (ENTRY_SIZE * n) (pages (1 + half))) tt bad (on_half half n two lt) fails
  half_whole half two (TooLong last most) none = none

  pub free_whole : EndsWell (EndsCatalog counted pages)
  free_whole bad (inl first) = half_whole 0 (omega arith) bad first
  free_whole bad (inr (none, second)) = half_whole 1 (omega arith) bad second
