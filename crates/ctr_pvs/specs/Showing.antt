-- What the record of a version entry owes to the chains of versions, and what is shown behind it.
use Rattle.std.specs.Prelude.{◌≡◌, ℕ}
use Rattle.ctr_passed.specs.redo_States.{State}
use Rattle.ctr_page.specs.declared.rows.Place.{Place}
use Rattle.ctr_page.specs.declared.rows.VersionEntry.{VersionEntry}
use Rattle.ctr_passed.specs.area_Areas.{RowVersion, Slot, Older}
use Rattle.ctr_passed.specs.area_Reading.{older_said, columns_on}
use Rattle.ctr_passed.specs.record_laws_Owed.{OwedByKeep, older_copy, IsSpareCopy}
use Rattle.ctr_passed.specs.record_effects_States.{pages_in, area_in}
use Rattle.ctr_passed.specs.record_effects_Standing.{HasSoundArea, ShowsAlike}
use Rattle.ctr_pvs.specs.Writing.{HasPlaceOfVersion}

-- a version entry by the columns of the page that it is laid on
abbrev pub older_laid : State → Place → VersionEntry → Older
older_laid s at entry = older_said (columns_on (pages_in s) at.page) entry

-- What the keeping of a version owes: the pages are sound, the place is one of the table's
-- versions, so wide, and is free, and the version is by a transaction that was drawn.
pub record MayKeep (s : State) (e : ℕ) (at : Place) (entry : VersionEntry) : Type 0 where
  pub sound : HasSoundArea s
  pub place : HasPlaceOfVersion (pages_in s) at entry
  pub owed : OwedByKeep s.tables (area_in s) e at (older_laid s at entry)

-- All is shown as before; and where it is a version of a slot of the table, it is a spare copy
-- there.
pub record KeepsVersion (e : ℕ) (at : Place) (entry : VersionEntry) (old new : State) : Type 0 where
  pub shows : ShowsAlike old new
  pub spare : (slot : Slot) (version : RowVersion)
      → older_laid old at entry ≡ older_copy slot version
      → IsSpareCopy (area_in new) e slot version at
