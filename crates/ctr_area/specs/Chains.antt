-- Chains in an area: of pages, of version entries, and the versions of a slot.
use Rattle.std.specs.Prelude.{◌≡◌, ℕ, zero, suc, ◌+◌, ◌==◌, ◌⊎◌, ℤ, List, [], ◌∷◌, ◌++◌, map, slice_index, Option, Some, None, if◌then◌else◌}
use Rattle.std.specs.List.{flat_map}
use Rattle.ctr_page.specs.declared.header.Header.{Header}
use Rattle.ctr_page.specs.declared.rows.Place.{Place}
use Rattle.ctr_page.specs.Places.{bucket_of}
use Rattle.ctr_area.specs.Areas.{RowVersion, Slot, Older, Area}

-- As many steps as pages can be counted, and as 170 version entries on each of them: no chain that
-- ends is cut short.
unfoldable pub pages_bound : ℕ
pages_bound = 30000

-- as many version entries as stand on all pages that can be counted
unfoldable pub older_bound : ℕ
older_bound = 5100000

-- ---- pages

-- the pages from one on, along the next pages
abbrev pub pages_from : ℕ → (ℕ → Header) → ℕ → List ℕ
pages_from zero header p = []
pages_from (suc n) header p =
    if p == 0 then [] else p ∷ pages_from n header (header p).next

-- so many places on a page, from a number on
abbrev pub places_on : ℕ → ℕ → ℕ → List Place
places_on p k zero = []
places_on p k (suc n) = record { page = p; slot = k } ∷ places_on p (k + 1) n

-- the places on the pages of a chain
abbrev pub places_from : Area → ℕ → List Place
places_from area p =
    flat_map (λ q. places_on q 0 (area.room q)) (pages_from pages_bound area.header p)

-- the slots of a table, bucket after bucket
abbrev pub slot_places : Area → ℕ → List Place
slot_places area e = flat_map (places_from area) (area.firsts e).buckets

-- the first page of the bucket of a key, 0 for none
abbrev pub bucket_first : Area → ℕ → ℤ → ℕ
bucket_first area e key = slice_index (area.firsts e).buckets (bucket_of key)

-- the version entries of a table
abbrev pub older_places : Area → ℕ → List Place
older_places area e = places_from area (area.firsts e).versions

-- the pages of a table
abbrev pub table_pages : Area → ℕ → List ℕ
table_pages area e =
    flat_map (pages_from pages_bound area.header) (area.firsts e).buckets
    ++ pages_from pages_bound area.header (area.firsts e).versions

-- ---- versions

-- the version entries from a place on, along the pointers
abbrev pub places_along : ℕ → (Place → Older) → Place → List Place
places_along zero older at = []
places_along (suc n) older at =
    if at.page == 0 then [] else at ∷ places_along n older (older at).pointer

-- the previous version, where there is one
abbrev pub if_any : Option RowVersion → List RowVersion
if_any None = []
if_any (Some v) = v ∷ []

-- the chain of a slot: head, previous, and the versions along the pointers
abbrev pub chain_of : (Place → Older) → Slot → List RowVersion
chain_of older slot =
    slot.head ∷ (if_any slot.previous
    ++ map (λ at. (older at).version) (places_along older_bound older slot.pointer))

-- the pointers come to an end within so many steps, through entries of which this holds
abbrev pub Leads : ℕ → (Place → Older) → (Place → Older → Type 0) → Place → Type 0
Leads zero older Is at = at.page ≡ 0
Leads (suc n) older Is at =
    (at.page ≡ 0) ⊎ (Is at (older at) × Leads n older Is (older at).pointer)
