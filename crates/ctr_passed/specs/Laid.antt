-- Where the bytes of an action lie, and what of them must pass its checks.
use Rattle.std.specs.Prelude.{◌≡◌, ◌≢◌, ℕ, ◌+◌, ◌*◌, ◌/◌, ◌%◌, ◌<◌, ◌≤◌, List}
use Rattle.ctr_bytes.specs.Fields.{field}
use Rattle.ctr_actions.specs.page_Chain.TheVariants.{Rows, Versions}
use Rattle.ctr_actions.specs.page_Place.{Place}
use Rattle.ctr_actions.specs.page_table_TheConstants.{ENTRY_SIZE, HEADER_SIZE}
use Rattle.ctr_actions.specs.page_Columns.{kinds_width, slot_start, kept_start}
use Rattle.ctr_actions.specs.page_Damage.{header_check, slot_check, kept_check, entry_check}
use Rattle.ctr_actions.specs.page_Places.{slot_size, kept_size, start_of}
use Rattle.ctr_actions.specs.area_Areas.{Area}
use Rattle.ctr_actions.specs.area_Checked.{Passes, kinds_at}
use Rattle.ctr_actions.specs.Actions.{Action, Formats, Links, LinksOlder, Keeps, Writes, Creates, Drops, Uncreates, Undrops, Reverts, Trims, Cuts, FreesOlder, MakesDead, Unlinks, UnlinksOlder, FreesEntry}

-- from a byte on, so many bytes say the same numbers
abbrev pub SayTheSame : ℕ → ℕ → List ℕ → List ℕ → Type 0
SayTheSame from size old new =
    (n k : ℕ) → from ≤ k → k + n ≤ from + size → field n k new ≡ field n k old

-- the pages behind the map of allocated ones are as they were
abbrev pub LiesOnMap : (ℕ → List ℕ) → (ℕ → List ℕ) → Type 0
LiesOnMap old new = (q : ℕ) → 1 ≤ q → new q ≡ old q

-- all pages but this one are as they were
abbrev pub LiesOnOnePage : ℕ → (ℕ → List ℕ) → (ℕ → List ℕ) → Type 0
LiesOnOnePage p old new = (q : ℕ) → q ≢ p → new q ≡ old q

-- the pages behind the catalog are as they were, and so are the other entries of it
pub record LiesInEntry (e : ℕ) (old new : ℕ → List ℕ) : Type 0 where
  pub pages : (q : ℕ) → 3 ≤ q → new q ≡ old q
  pub others : (f : ℕ) → f < 32 → f ≢ e
      → SayTheSame (ENTRY_SIZE * (f % 16)) ENTRY_SIZE (old (1 + f / 16)) (new (1 + f / 16))

-- all pages but one are as they were, and on that one the header and all other places of this size
pub record LiesAtPlace (at : Place) (size : ℕ) (old new : ℕ → List ℕ) : Type 0 where
  pub pages : LiesOnOnePage at.page old new
  pub header : SayTheSame 0 HEADER_SIZE (old at.page) (new at.page)
  pub others : (n : ℕ) → n ≢ at.slot
      → SayTheSame (start_of size n) size (old at.page) (new at.page)

-- the width of the rows of a table, by the columns that an area has of it
abbrev pub width_in : Area → ℕ → ℕ
width_in area e = kinds_width (kinds_at area e)

-- how large a slot of a table is
abbrev pub slot_size_in : Area → ℕ → ℕ
slot_size_in area e = slot_size (width_in area e)

-- How large a version entry of a table is.
abbrev pub older_size_in : Area → ℕ → ℕ
older_size_in area e = kept_size (width_in area e)

-- The bytes of a slot of a table lie at its place.
abbrev pub LiesAtSlot : Area → ℕ → Place → (ℕ → List ℕ) → (ℕ → List ℕ) → Type 0
LiesAtSlot area e at old new = LiesAtPlace at (slot_size_in area e) old new

-- The bytes of a version entry of a table lie at its place.
abbrev pub LiesAtOlder : Area → ℕ → Place → (ℕ → List ℕ) → (ℕ → List ℕ) → Type 0
LiesAtOlder area e at old new = LiesAtPlace at (older_size_in area e) old new

-- Where the bytes of an action lie: at what it changes, and nowhere else. The area is that before.
abbrev pub LiesAs : Action → Area → (ℕ → List ℕ) → (ℕ → List ℕ) → Type 0
LiesAs (Formats p h) area old new = LiesOnOnePage p old new
LiesAs (Links p e b) area old new = LiesInEntry e old new
LiesAs (LinksOlder p e) area old new = LiesInEntry e old new
LiesAs (Keeps e at older) area old new = LiesAtOlder area e at old new
LiesAs (Writes m) area old new = LiesAtSlot area m.entry m.at old new
LiesAs (Creates e name columns left) area old new = LiesInEntry e old new
LiesAs (Drops e) area old new = LiesInEntry e old new
LiesAs (Uncreates e) area old new = LiesInEntry e old new
LiesAs (Undrops e) area old new = LiesInEntry e old new
LiesAs (Reverts e at way) area old new = LiesAtSlot area e at old new
LiesAs (Trims passes e at way) area old new = LiesAtSlot area e at old new
LiesAs (Cuts passes e at q) area old new = LiesAtOlder area e q old new
LiesAs (FreesOlder e q) area old new = LiesAtOlder area e q old new
LiesAs (MakesDead passes e) area old new = LiesInEntry e old new
LiesAs (Unlinks p e b) area old new = LiesInEntry e old new
LiesAs (UnlinksOlder p e) area old new = LiesInEntry e old new
LiesAs (FreesEntry e title left) area old new = LiesInEntry e old new
LiesAs a area old new = LiesOnMap old new

-- the check of a slot passes, read by the columns that an area has of its table
abbrev pub SlotPassesIn : ℕ → Area → (ℕ → List ℕ) → ℕ → Place → Type 0
SlotPassesIn counted area pages e at = Passes (slot_check (kinds_at area e) counted
    (slot_start (kinds_at area e) at.slot) (pages at.page))

-- the check of a version entry passes, read by the columns that an area has of its table
abbrev pub OlderPassesIn : ℕ → Area → (ℕ → List ℕ) → ℕ → Place → Type 0
OlderPassesIn counted area pages e at = Passes (kept_check (kinds_at area e) counted
    (kept_start (kinds_at area e) at.slot) (pages at.page))

-- an entry of the catalog
abbrev pub EntryPasses : ℕ → (ℕ → List ℕ) → ℕ → Type 0
EntryPasses counted pages e =
    Passes (entry_check counted (ENTRY_SIZE * (e % 16)) (pages (1 + e / 16)))

-- A page of a chain of rows passes: its header, and each slot that it has room for.
pub record RowsPagePasses (counted : ℕ) (area : Area) (pages : ℕ → List ℕ) (e b p : ℕ) : Type 0
  where
    pub header : Passes (header_check (Rows e b) counted (pages p))
    pub slots : (n : ℕ) → n < area.room p
        → SlotPassesIn counted area pages e (record { page = p; slot = n })

-- A page of a chain of versions passes, likewise.
pub record OlderPagePasses (counted : ℕ) (area : Area) (pages : ℕ → List ℕ) (e p : ℕ) : Type 0
  where
    pub header : Passes (header_check (Versions e) counted (pages p))
    pub older : (n : ℕ) → n < area.room p
        → OlderPassesIn counted area pages e (record { page = p; slot = n })

-- What must pass of the bytes of an action, as they lie, read by the area that it leaves.
abbrev pub LaidPasses : Action → ℕ → Area → (ℕ → List ℕ) → Type 0
LaidPasses (Links p e b) counted area pages =
    EntryPasses counted pages e × RowsPagePasses counted area pages e b p
LaidPasses (LinksOlder p e) counted area pages =
    EntryPasses counted pages e × OlderPagePasses counted area pages e p
LaidPasses (Keeps e at older) counted area pages = OlderPassesIn counted area pages e at
LaidPasses (Writes m) counted area pages = SlotPassesIn counted area pages m.entry m.at
LaidPasses (Creates e name columns left) counted area pages = EntryPasses counted pages e
LaidPasses (Drops e) counted area pages = EntryPasses counted pages e
LaidPasses (Uncreates e) counted area pages = EntryPasses counted pages e
LaidPasses (Undrops e) counted area pages = EntryPasses counted pages e
LaidPasses (Reverts e at way) counted area pages = SlotPassesIn counted area pages e at
LaidPasses (Trims passes e at way) counted area pages = SlotPassesIn counted area pages e at
LaidPasses (Cuts passes e at q) counted area pages = OlderPassesIn counted area pages e q
LaidPasses (FreesOlder e q) counted area pages = OlderPassesIn counted area pages e q
LaidPasses (MakesDead passes e) counted area pages = EntryPasses counted pages e
LaidPasses (Unlinks p e b) counted area pages = EntryPasses counted pages e
LaidPasses (UnlinksOlder p e) counted area pages = EntryPasses counted pages e
LaidPasses (FreesEntry e title left) counted area pages = EntryPasses counted pages e
LaidPasses a counted area pages = Unit {0}
