-- Entries of the catalog: what their bytes say, and the bytes of a new one.
use Rattle.std.specs.Prelude.{◌≡◌, ℕ, zero, suc, ◌+◌, ◌-◌, ◌*◌, List, [], ◌∷◌, ◌++◌, map, length, drop, replicate, ◌==◌, if◌then◌else◌}
use Rattle.std.specs.List.{flat_map}
use Rattle.ctr_rec.specs.types_Column.{Column}
use Rattle.ctr_rec.specs.types_Kind.{Kind}
use Rattle.ctr_rec.specs.types_Kind.TheVariants.{Int, Chars}
use Rattle.ctr_rec.specs.bytes_Fields.{spelled, field}
pub use Rattle.ctr_value.specs.Payload.{kinds_width}
use Rattle.ctr_value.specs.Columns.{column_bytes}
use Rattle.ctr_page.specs.declared.entry.CatalogEntry.{CatalogEntry}
use Rattle.ctr_page.specs.declared.table.TheConstants.{ENTRY_SIZE, CREATOR_AT, DROPPER_AT, NAME_AT, NAME_MOST, COLUMNS_AT, COLUMN_SIZE, MOST_COLUMNS, FIRSTS_AT, VERSIONS_AT}
use Rattle.ctr_page.specs.Places.{slot_size, kept_size, start_of}
use Rattle.ctr_page.specs.Reading.{piece}

-- ---- what the bytes of an entry say

-- What the bytes say of the entry's state and its transactions. The rest is read of them when it is
-- asked for.
abbrev pub entry_in : List ℕ → CatalogEntry
entry_in bytes = record {
  state = field 1 0 bytes;
  creator = field 8 CREATOR_AT bytes;
  dropper = field 8 DROPPER_AT bytes;
  bytes = bytes;
}

-- the entry of a number on a page
abbrev pub entry_at : ℕ → List ℕ → CatalogEntry
entry_at number page = entry_in (piece (ENTRY_SIZE * number) ENTRY_SIZE page)

-- a name at a place: its length, and so many bytes
abbrev pub name_in : ℕ → List ℕ → List ℕ
name_in at bytes = piece (at + 1) (field 1 at bytes) bytes

-- INT for 0, else a text of so many bytes
abbrev pub kind_said : ℕ → Kind
kind_said n = if n == 0 then Int else Chars n

-- where the kind of a column stands, which begins at a place
abbrev pub column_kind_at : ℕ → ℕ
column_kind_at at = at + COLUMN_SIZE - 1

-- so many columns from a place on
abbrev pub columns_from : ℕ → ℕ → List ℕ → List Column
columns_from zero at bytes = []
columns_from (suc n) at bytes =
    record { name = name_in at bytes; kind = kind_said (field 1 (column_kind_at at) bytes) }
    ∷ columns_from n (at + COLUMN_SIZE) bytes

-- the columns of the table
abbrev pub columns_in : List ℕ → List Column
columns_in bytes = columns_from (field 1 COLUMNS_AT bytes) (COLUMNS_AT + 1) bytes

-- the name of the table
abbrev pub table_name_in : List ℕ → List ℕ
table_name_in bytes = name_in NAME_AT bytes

-- the first page of a bucket, 0 for none
abbrev pub first_in : ℕ → List ℕ → ℕ
first_in bucket bytes = field 4 (FIRSTS_AT + 4 * bucket) bytes

-- the first page of versions
abbrev pub versions_first_in : List ℕ → ℕ
versions_first_in bytes = field 4 VERSIONS_AT bytes

-- what the columns behind the key hold
abbrev pub kinds_of : List Column → List Kind
kinds_of cs = map (λ (c : Column). c.kind) (drop 1 cs)

-- where a slot of such rows stands on a page
abbrev pub slot_start : List Kind → ℕ → ℕ
slot_start kinds number = start_of (slot_size (kinds_width kinds)) number

-- Where the version entry of a number starts on a page of versions.
abbrev pub kept_start : List Kind → ℕ → ℕ
kept_start kinds number = start_of (kept_size (kinds_width kinds)) number

-- ---- the bytes of a new entry

-- a text behind its length, with zeros up to the most that it may have
abbrev pub text_bytes : ℕ → List ℕ → List ℕ
text_bytes most text = length text ∷ (text ++ replicate (most - length text) 0)

-- how many columns, each, and zeros for those that aren't there
abbrev pub columns_bytes : List Column → List ℕ
columns_bytes cs =
    spelled 1 (length cs) ++ flat_map column_bytes cs
    ++ replicate (COLUMN_SIZE * (MOST_COLUMNS - length cs)) 0

-- a live entry, which nobody has dropped, and without a page: zeros to 256
abbrev pub new_entry_bytes : ℕ → List ℕ → List Column → List ℕ
new_entry_bytes creator name cs =
    spelled 1 1 ++ spelled 8 creator ++ spelled 8 0 ++ text_bytes NAME_MOST name
    ++ columns_bytes cs ++ replicate 77 0

-- an entry of the catalog that is live, made by this transaction, and dropped by none
pub record IsNewTitle (made_by : ℕ) (bytes : List ℕ) : Type 0 where
  pub live : field 1 0 bytes ≡ 1
  pub creator : field 8 CREATOR_AT bytes ≡ made_by
  pub undropped : field 8 DROPPER_AT bytes ≡ 0
