-- The entries on a page of the catalog: which is sought, and what is wrong with one.
use Rattle.std.specs.Prelude.{ℕ, ◌+◌, ◌*◌, ◌==◌, Bool, ◌&&◌, List, ⊤, Result}
use Rattle.ctr_model.specs.State.{same_name}
use Rattle.ctr_rec.specs.declared.decoding.BadRecord.{BadRecord}
use Rattle.ctr_names.specs.page_CatalogEntry.{CatalogEntry}
use Rattle.ctr_names.specs.page_table_TheConstants.{ENTRY_SIZE}
use Rattle.ctr_names.specs.page_Columns.{table_name_in}
use Rattle.ctr_names.specs.page_Damage.{entry_check}
use Rattle.ctr_names.specs.area_Areas.{Area}

-- a live entry of a name
abbrev pub is_live_of : List ℕ → CatalogEntry → Bool
is_live_of name entry = (entry.state == 1) && same_name (table_name_in entry.bytes) name

-- an entry of no table
abbrev pub is_unused : CatalogEntry → Bool
is_unused entry = entry.state == 0

-- what is wrong with an entry, by its number on a page
abbrev pub checks_entry : ℕ → List ℕ → ℕ → Result ⊤ BadRecord
checks_entry counted page n = entry_check counted (ENTRY_SIZE * n) page

-- ---- in the area

-- an entry of the area is free, by its number on the first page of the catalog (0) or the second
-- (1)
abbrev pub frees_in : Area → ℕ → ℕ → Bool
frees_in area half n = (area.title (16 * half + n)).state == 0
