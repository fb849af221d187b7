-- A chain that is cut behind a version entry: what is left of the entry, in which bytes, and the
-- record that lays them.
use Rattle.std.specs.Prelude.{◌≡◌, ◌⊎◌, take, IsTrue, ⊤, Result, Ok, Err}
use Rattle.ctr_disk.specs.declared.disk.Disk.{Ghosts}
use Rattle.ctr_disk.specs.Image.{Image}
use Rattle.ctr_disk.specs.declared.fault.StoreFault.{StoreFault}
use Rattle.ctr_rec.specs.declared.record.Record.{Record}
use Rattle.ctr_rec.specs.declared.record.Record.TheVariants.{Trim}
use Rattle.ctr_page.specs.declared.walk.BadChain.{BadChain}
use Rattle.ctr_page.specs.declared.rows.Place.{Place}
use Rattle.ctr_page.specs.declared.rows.VersionEntry.{VersionEntry}
use Rattle.ctr_page.specs.Places.{kept_size}
use Rattle.ctr_page.specs.Making.{kept_bytes, IsEntry}
use Rattle.ctr_passed.specs.area_Areas.{nowhere}
use Rattle.ctr_passed.specs.area_Reading.{older_said, columns_on}
use Rattle.ctr_passed.specs.redo_States.{State}
use Rattle.ctr_pvs.specs.base_Base.{IsSoundImage}
use Rattle.ctr_pvs.specs.store_Store.{View}
use Rattle.ctr_pvs.specs.walk_OneRecord.{WhyNotLogged, LogsOne}
use Rattle.ctr_pvs.specs.walk_Damage.{EndsTold, ReadsPages}
use Rattle.ctr_record_effects.specs.States.{pages_in, area_in}
use Rattle.ctr_record_effects.specs.Changing.{laid_on_place}
use Rattle.ctr_passed.specs.Logged.{IsOlderOf}
use Rattle.ctr_pvs.specs.Reading.{version_check_at}
use Rattle.ctr_pvs.specs.Writing.{entry_width}
use Rattle.ctr_pvs.specs.Lending.{VersionLiesAt}
use Rattle.ctr_trim.specs.declared.entries.EntryLaid.{EntryLaid}
use Rattle.ctr_trim.specs.Trimming.{EndsCheck}

-- what is left of a version entry: it leads nowhere
abbrev pub entry_left : VersionEntry → VersionEntry
entry_left e = record e { older = nowhere }

-- The record that lays what is left over the version entry at a place.
abbrev pub cut_record : Place → VersionEntry → Record
cut_record at e = Trim (laid_on_place at (kept_size (entry_width e)) (kept_bytes (entry_left e)))

-- Bytes are those of what is left of a version entry.
pub record IsBytesOfEntry (e : VersionEntry) (l : EntryLaid) : Type 0 where
  pub wide : l.w ≡ entry_width e
  pub size_is : l.size ≡ kept_size (entry_width e)
  pub bytes_are : take l.size l.bytes ≡ kept_bytes (entry_left e)

-- A version entry is the one that the pages have at a place, and is well made by the columns of the
-- table.
pub record IsEntryThere (s : State) (at : Place) (e : VersionEntry) : Type 0 where
  pub said : older_said (columns_on (pages_in s) at.page) e ≡ (area_in s).older at
  pub made : IsOlderOf s.counted (columns_on (pages_in s) at.page) e

-- A version entry was read that is there, where the image was sound, and what is to be laid is what
-- is left of it.
pub record LaysCut (Known : Type 0) (at : Place) (s : State) (l : EntryLaid) : Type 0 where
  pub entry : VersionEntry
  pub there : Known → IsEntryThere s at entry
  pub fits : IsEntry (entry_width entry) entry
  pub bytes_of : IsBytesOfEntry entry l
  pub lies : VersionLiesAt at l.w

-- ---- what is left

-- Its record is logged, by the version entry that the pages have at the place; or pages were read,
-- or the record was refused.
abbrev pub CutsEntry : {D : Type 0} → Image → Ghosts D → Place → View D → View D
    → Result ⊤ StoreFault → Type 0
CutsEntry first g at a b (Ok t) =
    (e : VersionEntry) × LogsOne {T = ⊤} first g (cut_record at e) a b (Ok tt)
    × (IsTrue g.tells → IsSoundImage first → IsEntryThere a.now at e)
CutsEntry first g at a b (Err e) = ReadsPages {T = ⊤} first g a b (Err e)
    ⊎ ((entry : VersionEntry) × LogsOne {T = ⊤} first g (cut_record at entry) a b (Err e)
    × (IsTrue g.tells → IsSoundImage first → IsEntryThere a.now at entry))

-- Where the call ends: the checks of the version entry pass; or what is wrong is told; or they
-- pass, and the record was refused.
abbrev pub EndsCutting : {D : Type 0} → (BadChain → StoreFault) → Place → View D → View D
    → Result ⊤ StoreFault → Type 0
EndsCutting told at a b (Ok x) = version_check_at a.now.counted (pages_in a.now) at ≡ Ok tt
EndsCutting told at a b (Err cause) =
    EndsTold {T = ⊤} told (EndsCheck (version_check_at a.now.counted (pages_in a.now) at))
    (Err cause)
    ⊎ ((version_check_at a.now.counted (pages_in a.now) at ≡ Ok tt)
    × (e : VersionEntry) × IsEntryThere a.now at e × WhyNotLogged (cut_record at e) a b cause)
