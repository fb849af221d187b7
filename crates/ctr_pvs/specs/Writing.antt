-- The records that lay a version entry, and that free one.
use Rattle.std.specs.Prelude.{◌≡◌, ◌⊎◌, ◌≤◌, ℕ, ◌+◌, pos, List, length, replicate, IsTrue, ⊤, Result, Ok, Err}
use Rattle.ctr_bytes.specs.Following.{◌>>=◌}
use Rattle.ctr_disk.specs.declared.disk.Disk.{Ghosts}
use Rattle.ctr_disk.specs.Image.{Image}
use Rattle.ctr_disk.specs.declared.fault.StoreFault.{StoreFault}
use Rattle.ctr_rec.specs.declared.record.Record.{Record}
use Rattle.ctr_rec.specs.declared.record.Record.TheVariants.{Keep, Trim}
use Rattle.ctr_page.specs.declared.walk.BadChain.{BadChain}
use Rattle.ctr_page.specs.declared.rows.Place.{Place}
use Rattle.ctr_page.specs.declared.rows.VersionEntry.{VersionEntry}
use Rattle.ctr_page.specs.declared.table.TheConstants.{PAGE_SIZE}
use Rattle.ctr_page.specs.Places.{kept_size, start_of}
use Rattle.ctr_page.specs.Columns.{kinds_width}
use Rattle.ctr_page.specs.Making.{kept_bytes, IsEntry}
use Rattle.ctr_passed.specs.area_Areas.{nowhere}
use Rattle.ctr_passed.specs.area_Reading.{width_on, area_of}
use Rattle.ctr_passed.specs.area_Checked.{kinds_at}
use Rattle.ctr_passed.specs.area_Changes.{IsPlaceOf}
use Rattle.ctr_walk.specs.base_Base.{IsSoundImage}
use Rattle.ctr_walk.specs.store_Store.{View}
use Rattle.ctr_walk.specs.OneRecord.{LogsOne}
use Rattle.ctr_walk.specs.Damage.{ReadsPages}
use Rattle.ctr_passed.specs.record_effects_States.{pages_in}
use Rattle.ctr_walk.specs.record_effects_Changing.{laid_on_place}
use Rattle.ctr_pvs.specs.Table.{told_of, owner_of, table_check}
use Rattle.ctr_pvs.specs.Reading.{lies_check}

-- the width of a row, by a version entry of it
abbrev pub entry_width : VersionEntry → ℕ
entry_width entry = length entry.version.payload

-- The entry is one of rows of its own width, and its bytes lie on a page at a place.
pub record EntryLies (at : Place) (entry : VersionEntry) : Type 0 where
  pub narrow : entry_width entry ≤ 2048
  pub is : IsEntry (entry_width entry) entry
  pub inside : start_of (kept_size (entry_width entry)) at.slot + kept_size (entry_width entry)
      ≤ PAGE_SIZE

-- a transaction lays the version entry over a place
abbrev pub keep_record : ℕ → Place → VersionEntry → Record
keep_record x at entry =
    Keep x (laid_on_place at (kept_size (entry_width entry)) (kept_bytes entry))

-- the place is on a page of versions so wide, behind the catalog
abbrev pub HasPlaceOfVersion : (ℕ → List ℕ) → Place → VersionEntry → Type 0
HasPlaceOfVersion pages at entry =
    IsPlaceOf 2 pages at × (width_on pages at.page ≡ entry_width entry)

-- ---- freed

-- a version entry of rows so wide that isn't used: zeros
abbrev pub blank_entry : ℕ → VersionEntry
blank_entry w = record {
  used = 0;
  key = pos 0;
  version = record { xid = 0; tombstone = 0; payload = replicate w 0 };
  older = nowhere;
}

-- one is laid over a place
abbrev pub blank_record : Place → ℕ → Record
blank_record at w = Trim (laid_on_place at (kept_size w) (kept_bytes (blank_entry w)))

-- What is wrong on the way to a version entry that is to be freed: its page, the table's entry of
-- the catalog, its number. What stands in it isn't looked at.
abbrev pub drop_check : ℕ → (ℕ → List ℕ) → Place → Result ⊤ BadChain
drop_check counted pages at =
    table_check 2 counted pages at.page
    >>= λ _. told_of at.page (lies_check (kept_size (kinds_width
    (kinds_at (area_of pages) (owner_of (pages at.page))))) at.slot)

-- Its record is logged, by the width of its page's rows; where something is wrong pages were read;
-- where the store refused nothing is logged.
abbrev pub DropsEntry : {D : Type 0} → Image → Ghosts D → Place → View D → View D
    → Result ⊤ StoreFault → Type 0
DropsEntry first g at a b (Ok x) =
    (w : ℕ) × LogsOne {T = ⊤} first g (blank_record at w) a b (Ok tt)
    × (IsTrue g.tells → IsSoundImage first → w ≡ width_on (pages_in a.now) at.page)
DropsEntry first g at a b (Err e) = ReadsPages {T = ⊤} first g a b (Err e)
    ⊎ ((w : ℕ) × LogsOne {T = ⊤} first g (blank_record at w) a b (Err e))
