-- A search for a free entry through the two pages of the catalog.
use Rattle.std.specs.Prelude.{◌≡◌, ◌⊎◌, ℕ, ◌+◌, ◌==◌, Bool, List, Option, None, Some, Result, Ok, Err}
use Rattle.ctr_rec.specs.declared.decoding.BadRecord.{BadRecord}
use Rattle.ctr_names.specs.page_Columns.{entry_at}
use Rattle.ctr_names.specs.page_Searching.{EndsSearch}
use Rattle.ctr_names.specs.page_BadChain.{BadChain}
use Rattle.ctr_names.specs.area_Areas.{Area}
use Rattle.ctr_alloc.specs.walk_Damage.{EndsOnPage}
use Rattle.ctr_catalog.specs.declared.entries.TheConstants.{ENTRIES_ON_PAGE}
use Rattle.ctr_catalog.specs.Entries.{is_unused, checks_entry}

-- Where the search of a page ends: its entries are looked at in order.
abbrev pub EndsFreeEntry : ℕ → List ℕ → Result (Option ℕ) BadRecord → Type 0
EndsFreeEntry counted page result =
    EndsSearch (checks_entry counted page) (λ n. is_unused (entry_at n page)) 0 ENTRIES_ON_PAGE
    result

-- Where the search of both ends: on the first page, or, where none is free there, on the second.
abbrev pub EndsCatalog : ℕ → (ℕ → List ℕ) → Result (Option ℕ) BadChain → Type 0
EndsCatalog counted pages (Ok (Some e)) =
    EndsFreeEntry counted (pages 1) (Ok (Some e))
    ⊎ (EndsFreeEntry counted (pages 1) (Ok None)
    × ((n : ℕ) × (e ≡ ENTRIES_ON_PAGE + n) × EndsFreeEntry counted (pages 2) (Ok (Some n))))
EndsCatalog counted pages (Ok None) =
    EndsFreeEntry counted (pages 1) (Ok None) × EndsFreeEntry counted (pages 2) (Ok None)
EndsCatalog counted pages (Err b) =
    EndsOnPage 1 (EndsFreeEntry counted (pages 1)) (Err b)
    ⊎ (EndsFreeEntry counted (pages 1) (Ok None)
    × EndsOnPage 2 (EndsFreeEntry counted (pages 2)) (Err b))

-- an entry of the area is free
abbrev pub is_free_entry : Area → ℕ → Bool
is_free_entry area e = (area.title e).state == 0
