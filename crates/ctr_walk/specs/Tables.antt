-- A chain of pages of a table, by the table's entry of the catalog.
use Rattle.std.specs.Prelude.{◌≡◌, ◌≢◌, ◌⊎◌, ℕ, ◌+◌, ◌*◌, ◌/◌, ◌%◌, ◌<◌, ◌≤◌, List, take, slice_index, Option, None, Some, ⊤, Result, Ok, Err}
use Rattle.ctr_types.specs.declared.value.Kind.{Kind}
use Rattle.ctr_store.specs.rec_BadRecord.{BadRecord}
use Rattle.ctr_record_effects.specs.page_Chain.{Chain}
use Rattle.ctr_record_effects.specs.page_Chain.TheVariants.{Rows, Versions}
use Rattle.ctr_record_effects.specs.page_BadChain.{BadChain}
use Rattle.ctr_record_effects.specs.page_BadChain.TheVariants.{OnPage}
use Rattle.ctr_record_effects.specs.page_Place.{Place}
use Rattle.ctr_record_effects.specs.page_table_TheConstants.{ENTRY_SIZE}
use Rattle.ctr_record_effects.specs.page_Columns.{entry_at, first_in, versions_first_in, columns_in, kinds_of}
use Rattle.ctr_record_effects.specs.page_Damage.{chain_entry, entry_check}
use Rattle.ctr_record_effects.specs.page_Walking.{most_in_chain}
use Rattle.ctr_record_effects.specs.area_Areas.{Firsts, Area}
use Rattle.ctr_record_effects.specs.area_Reading.{firsts_of, area_of}
use Rattle.ctr_record_effects.specs.area_Checked.{kinds_at}
use Rattle.ctr_walk.specs.Along.{ChainSought, EndsAlong}
use Rattle.ctr_walk.specs.Damage.{EndsOnPage}
use Rattle.ctr_walk.specs.declared.table.TableOf.{TableOf}
use Rattle.ctr_walk.specs.declared.table.ChainPages.{ChainPages}

-- the kinds of a table's columns behind the key
abbrev pub kinds_said : TableOf → List Kind
kinds_said t = take t.count t.kinds

-- A chain is of one of the 32 entries of the catalog, and of one of the 8 buckets.
abbrev pub IsChain : Chain → Type 0
IsChain (Rows e bucket) = (e < 32) × (bucket < 8)
IsChain (Versions e) = e < 32

-- the first page of a chain among those of its table; 0 for none
abbrev pub first_among : Firsts → Chain → ℕ
first_among firsts (Rows e bucket) = slice_index firsts.buckets bucket
first_among firsts (Versions e) = firsts.versions

-- The first page of a chain, in the bytes of its table's entry.
abbrev pub first_at : Chain → List ℕ → ℕ
first_at (Rows e bucket) bytes = first_in bucket bytes
first_at (Versions e) bytes = versions_first_in bytes

-- the number of the table's entry on its page of the catalog
abbrev pub entry_number : Chain → ℕ
entry_number chain = chain_entry chain % 16

-- the first page, as a page of the catalog says it
abbrev pub first_said : Chain → List ℕ → ℕ
first_said chain page = first_among (firsts_of (entry_at (entry_number chain) page)) chain

-- the check of the table's entry, on a page of the catalog
abbrev pub chain_table_check : ℕ → Chain → List ℕ → Result ⊤ BadRecord
chain_table_check counted chain page = entry_check counted (ENTRY_SIZE * entry_number chain) page

-- What a page of the catalog says of a chain: the check of the table's entry fails; or it passes,
-- and the chain has no page; or it has a first page, and so many columns behind the key hold this.
abbrev pub ChainSaid : ℕ → Chain → List ℕ → Result (Option ChainPages) BadRecord → Type 0
ChainSaid counted chain page (Err bad) = chain_table_check counted chain page ≡ Err bad
ChainSaid counted chain page (Ok None) =
    (chain_table_check counted chain page ≡ Ok tt) × (first_said chain page ≡ 0)
ChainSaid counted chain page (Ok (Some found)) =
    (chain_table_check counted chain page ≡ Ok tt) × (first_said chain page ≡ found.first)
    × (kinds_said found.table ≡ kinds_of (columns_in (entry_at (entry_number chain) page).bytes))

-- a first page is that of a chain, of which 0 is none
abbrev pub IsFirstPage : ℕ → Option ℕ → Type 0
IsFirstPage first None = first ≡ 0
IsFirstPage first (Some p) = (first ≢ 0) × (p ≡ first)

-- What is said of a chain's first page: the check of the table's entry fails; or it passes, and the
-- page is this one, or there is none.
abbrev pub FirstSaid : Result ⊤ BadRecord → ℕ → Result (Option ℕ) BadRecord → Type 0
FirstSaid check first (Err bad) = check ≡ Err bad
FirstSaid check first (Ok found) = (check ≡ Ok tt) × IsFirstPage first found

-- the first page is there, and is counted
abbrev pub PagesFit : ℕ → ChainPages → Type 0
PagesFit counted found = (found.first ≢ 0) × (found.first < counted) × (found.table.count ≤ 7)

-- ---- in a store

-- where the search of a page ends, by the kinds of the columns behind the key, and where so many
-- pages are counted
abbrev pub EndsByKinds : Type 1
EndsByKinds = List Kind → ℕ → List ℕ → Result (Option ℕ) BadRecord → Type 0

-- what is sought in a chain of a table, by the table's columns
abbrev pub chain_sought : (ℕ → List ℕ) → ℕ → Chain → EndsByKinds → ChainSought
chain_sought pages counted chain ends = record {
  chain = chain;
  counted = counted;
  ends = ends (kinds_at (area_of pages) (chain_entry chain)) counted;
}

-- the first page of a chain
abbrev pub first_of_chain : Area → Chain → ℕ
first_of_chain area chain = first_among (area.firsts (chain_entry chain)) chain

-- Where the search of a chain ends: at the damage of the table's entry; or the entry passes, and it
-- ends along the chain.
abbrev pub EndsChain : ℕ → (ℕ → List ℕ) → Chain → EndsByKinds → Result (Option Place) BadChain
    → Type 0
EndsChain counted pages chain ends result =
    ((bad : BadRecord)
    × (chain_table_check counted chain (pages (1 + chain_entry chain / 16)) ≡ Err bad)
    × (result ≡ Err (OnPage (1 + chain_entry chain / 16) bad)))
    ⊎ ((chain_table_check counted chain (pages (1 + chain_entry chain / 16)) ≡ Ok tt)
    × EndsAlong (chain_sought pages counted chain ends) pages (most_in_chain counted) 0
    (first_of_chain (area_of pages) chain) result)

-- Where a call ends that asks for the first page of a chain: at the damage of the table's entry, on
-- its page of the catalog; or the entry passes, and the page is the one that the area has.
abbrev pub EndsFirst : ℕ → (ℕ → List ℕ) → Chain → Result (Option ℕ) BadChain → Type 0
EndsFirst counted pages chain result =
    EndsOnPage (1 + chain_entry chain / 16)
    (FirstSaid (chain_table_check counted chain (pages (1 + chain_entry chain / 16)))
    (first_of_chain (area_of pages) chain)) result
