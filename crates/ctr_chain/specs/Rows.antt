-- The row of a version, by what its payload says, whatever bytes it has.
use Rattle.std.specs.Prelude.{◌≡◌, ℤ, ◌==◌, List, Option, None, Some, Result, Ok, Err, if◌then◌else◌}
use Rattle.ctr_types.specs.declared.memory.OutOfMemory.{OutOfMemory}
use Rattle.ctr_types.specs.declared.value.Kind.{Kind}
use Rattle.ctr_types.specs.declared.value.Row.{Row}
use Rattle.ctr_page.specs.ctr_value.Values.{row_by_kinds}
use Rattle.ctr_page.specs.declared.rows.Version.{Version}
use Rattle.ctr_page.specs.declared.rows.RowSlot.{RowSlot}
use Rattle.ctr_page.specs.declared.rows.VersionEntry.{VersionEntry}

-- the row of a version, or none for a tombstone
abbrev pub row_of_version : List Kind → ℤ → Version → Option Row
row_of_version kinds key v =
    if v.tombstone == 0 then Some (row_by_kinds kinds key v.payload) else None

-- of one that may be there
abbrev pub row_if_any : List Kind → ℤ → Option Version → Option Row
row_if_any kinds key None = None
row_if_any kinds key (Some v) = row_of_version kinds key v

-- of the newest version in a slot; one that isn't used has none
abbrev pub head_row : List Kind → RowSlot → Option Row
head_row kinds s = if s.used == 1 then row_of_version kinds s.key s.head else None

-- of the version before it
abbrev pub previous_row : List Kind → RowSlot → Option Row
previous_row kinds s = if s.used == 1 then row_if_any kinds s.key s.previous else None

-- The row of a version entry, where the entry is used and has one.
abbrev pub kept_row : List Kind → VersionEntry → Option Row
kept_row kinds e = if e.used == 1 then row_of_version kinds e.key e.version else None

-- The row is given that is wanted. Memory runs out only where that is a row.
abbrev pub GivesRow : Option Row → Result (Option Row) OutOfMemory → Type 0
GivesRow wanted (Ok given) = given ≡ wanted
GivesRow wanted (Err e) = (row : Row) × (wanted ≡ Some row)
