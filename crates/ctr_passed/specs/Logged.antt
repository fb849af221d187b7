-- Where the bytes of a record lie that is logged in a state, and what of them passes its checks.
use Rattle.std.specs.Prelude.{◌≡◌, ◌≢◌, ℕ, ◌<◌, ◌≤◌, ℤ, IfSome, List, length, replicate}
use Rattle.ctr_actions.specs.page_Header.{Header}
use Rattle.ctr_types.specs.declared.value.Column.{Column}
use Rattle.ctr_actions.specs.page_Place.{Place}
use Rattle.ctr_actions.specs.page_Version.{Version}
use Rattle.ctr_actions.specs.page_RowSlot.{RowSlot}
use Rattle.ctr_actions.specs.page_VersionEntry.{VersionEntry}
use Rattle.ctr_actions.specs.page_table_TheConstants.{PAGE_SIZE}
use Rattle.ctr_actions.specs.page_Columns.{kinds_of, kinds_width}
use Rattle.ctr_actions.specs.page_Places.{kept_size, start_of, room_for}
use Rattle.ctr_actions.specs.page_Making.{header_bytes, slot_bytes, kept_bytes, IsSlot, IsEntry}
use Rattle.ctr_actions.specs.page_Readable.{HoldsRow}
use Rattle.ctr_actions.specs.page_Reading.{put_over}
use Rattle.ctr_actions.specs.rec_Record.{Record}
use Rattle.ctr_actions.specs.ctr_redo.States.{State, step}
use Rattle.ctr_actions.specs.ctr_record_effects.States.{pages_in, area_in, IsWholePage}
use Rattle.ctr_actions.specs.ctr_record_effects.Changing.{laid_on_place, Lays}
use Rattle.ctr_actions.specs.Actions.{Action}
use Rattle.ctr_passed.specs.Laid.{slot_size_in, older_size_in, width_in, LiesAs, LaidPasses}

-- A record lays bytes over what stands at a place of a whole page, where all that stands on it has
-- this size: no more bytes than that.
pub record LaysAtPlace (r : Record) (at : Place) (size : ℕ) (bytes : List ℕ) (s : State) : Type 0
  where
    pub lays : Lays r (laid_on_place at size bytes)
    pub whole : IsWholePage at.page s
    pub inside : start_of size at.slot ≤ PAGE_SIZE
    pub short : length bytes ≤ size

-- The bytes of a record lie as an action says, where it is logged in a state.
abbrev pub RecordLies : Action → Record → State → Type 0
RecordLies a r s = LiesAs a (area_in s) (pages_in s) (pages_in (step r s))

-- What a record lays passes, where it is logged in a state as this action.
abbrev pub RecordPasses : Action → Record → State → Type 0
RecordPasses a r s = LaidPasses a s.counted (area_in (step r s)) (pages_in (step r s))

-- A record is laid as an action: its bytes lie as that says, and what it lays passes.
abbrev pub IsLaidAs : Action → Record → State → Type 0
IsLaidAs a r s = RecordLies a r s × RecordPasses a r s

-- The page is blank: it has a header, and zeros behind it.
abbrev pub IsBlankPage : ℕ → Header → State → Type 0
IsBlankPage p h s = pages_in s p ≡ put_over 0 (header_bytes h) (replicate PAGE_SIZE 0)

-- ---- slots and version entries that are well made

-- a place is page 0, for none, or one of a version entry on a page that is counted
abbrev pub LeadsInside : ℕ → ℕ → Place → Type 0
LeadsInside counted w at =
    at.page ≢ 0 → (at.page < counted) × (at.slot < room_for (kept_size w))

-- a version is a tombstone or isn't, by 1 or 0, and its payload is that of a row of the key
abbrev pub IsVersionOf : List Column → ℤ → Version → Type 0
IsVersionOf columns key v = (v.tombstone ≤ 1) × HoldsRow columns key v

-- A slot is one of a table with these columns: free, or in use with rows of its key, and it leads
-- to a counted page or nowhere.
pub record IsSlotOf (counted : ℕ) (columns : List Column) (slot : RowSlot) : Type 0 where
  pub is : IsSlot (kinds_width (kinds_of columns)) slot
  pub state : slot.used ≤ 1
  pub rows : slot.used ≡ 1 → IsVersionOf columns slot.key slot.head
      × IfSome slot.previous (λ v. IsVersionOf columns slot.key v)
  pub leads : slot.used ≡ 1 → LeadsInside counted (kinds_width (kinds_of columns)) slot.older

-- A version entry is one of a table with these columns, likewise.
pub record IsOlderOf (counted : ℕ) (columns : List Column) (older : VersionEntry) : Type 0 where
  pub is : IsEntry (kinds_width (kinds_of columns)) older
  pub state : older.used ≤ 1
  pub row : older.used ≡ 1 → IsVersionOf columns older.key older.version
  pub leads : older.used ≡ 1 → LeadsInside counted (kinds_width (kinds_of columns)) older.older

-- A record lays this slot over a place of a table.
pub record LaysSlot (r : Record) (e : ℕ) (at : Place) (slot : RowSlot) (s : State) : Type 0 where
  pub made : IsSlotOf s.counted ((area_in s).title e).columns slot
  pub behind_catalog : 3 ≤ at.page
  pub laid : LaysAtPlace r at (slot_size_in (area_in s) e)
      (slot_bytes (width_in (area_in s) e) slot) s

-- A record lays this version entry over a place of a table.
pub record LaysOlder (r : Record) (e : ℕ) (at : Place) (older : VersionEntry) (s : State) : Type 0
  where
    pub made : IsOlderOf s.counted ((area_in s).title e).columns older
    pub behind_catalog : 3 ≤ at.page
    pub laid : LaysAtPlace r at (older_size_in (area_in s) e) (kept_bytes older) s

-- A record lays a slot that is well made, on a whole page, over what stands at a place of a table.
pub record PutsSlot (r : Record) (e : ℕ) (at : Place) (slot : RowSlot) (s : State) : Type 0 where
  pub made : IsSlotOf s.counted ((area_in s).title e).columns slot
  pub whole : IsWholePage at.page s
  pub lays : Lays r (laid_on_place at (slot_size_in (area_in s) e)
      (slot_bytes (width_in (area_in s) e) slot))

-- A record lays a version entry that is well made, likewise.
pub record PutsOlder (r : Record) (e : ℕ) (at : Place) (older : VersionEntry) (s : State) : Type 0
  where
    pub made : IsOlderOf s.counted ((area_in s).title e).columns older
    pub whole : IsWholePage at.page s
    pub lays : Lays r (laid_on_place at (older_size_in (area_in s) e) (kept_bytes older))
