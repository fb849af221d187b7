-- What can be read where no check fails: which rows stand in a slot or a version entry, by the
-- columns of their table, and the parts of an entry of the catalog.
use Rattle.std.specs.Prelude.{◌≡◌, ◌≢◌, ℕ, zero, suc, ◌+◌, ◌<◌, ◌≤◌, ℤ, List, IfSome}
use Rattle.ctr_rec.specs.types_Column.{Column}
use Rattle.ctr_value.specs.Payload.{IsRowOf}
use Rattle.ctr_value.specs.Values.{row_values}
use Rattle.ctr_rec.specs.bytes_Fields.{field}
use Rattle.ctr_page.specs.declared.entry.CatalogEntry.{CatalogEntry}
use Rattle.ctr_page.specs.Columns.{first_in}
use Rattle.ctr_page.specs.declared.table.TheConstants.{NAME_AT, NAME_MOST, COLUMNS_AT, COLUMN_SIZE, MOST_COLUMNS}
use Rattle.ctr_page.specs.declared.rows.Version.{Version}
use Rattle.ctr_page.specs.declared.rows.RowSlot.{RowSlot}
use Rattle.ctr_page.specs.declared.rows.VersionEntry.{VersionEntry}

-- the payload is that of the row of the key that it says
abbrev pub HoldsRow : List Column → ℤ → Version → Type 0
HoldsRow cs key v = IsRowOf cs key v.payload (row_values cs key v.payload)

-- a slot that is used: of its head, and of the version before it where there is one
abbrev pub HoldsRows : List Column → RowSlot → Type 0
HoldsRows cs s =
    s.used ≡ 1 → HoldsRow cs s.key s.head × IfSome s.previous (λ v. HoldsRow cs s.key v)

-- a version entry that is used
abbrev pub HoldsOlder : List Column → VersionEntry → Type 0
HoldsOlder cs e = e.used ≡ 1 → HoldsRow cs e.key e.version

-- the names of so many columns from a place on have room
abbrev pub NamesFit : ℕ → ℕ → List ℕ → Type 0
NamesFit zero at bytes = Unit {0}
NamesFit (suc n) at bytes =
    (field 1 at bytes ≤ NAME_MOST) × NamesFit n (at + COLUMN_SIZE) bytes

-- The parts of an entry, by its bytes: its name has room, it has a key's column and no more than
-- there may be, and their names have room.
pub record PartsHaveRoom (bytes : List ℕ) : Type 0 where
  pub name : field 1 NAME_AT bytes ≤ NAME_MOST
  pub keyed : 1 ≤ field 1 COLUMNS_AT bytes
  pub few : field 1 COLUMNS_AT bytes ≤ MOST_COLUMNS
  pub columns : NamesFit (field 1 COLUMNS_AT bytes) (COLUMNS_AT + 1) bytes

-- an entry that isn't free has them
abbrev pub HasParts : CatalogEntry → Type 0
HasParts entry = entry.state ≢ 0 → PartsHaveRoom entry.bytes

-- the first pages of the buckets of an entry that isn't free are counted
abbrev pub FirstsAreCounted : ℕ → CatalogEntry → Type 0
FirstsAreCounted counted entry =
    entry.state ≢ 0 → (b : ℕ) → b < 8 → first_in b entry.bytes < counted
