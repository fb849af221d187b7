-- A version entry that is lent from its page.
use Rattle.std.specs.Prelude.{◌≡◌, ◌≤◌, ℕ, ◌+◌, IsTrue, List, Result, Ok, Err}
use Rattle.ctr_disk.specs.declared.disk.Disk.{Ghosts}
use Rattle.ctr_disk.specs.Image.{Image}
use Rattle.ctr_disk.specs.declared.fault.StoreFault.{StoreFault}
use Rattle.ctr_page.specs.declared.rows.Place.{Place}
use Rattle.ctr_page.specs.declared.rows.VersionEntry.{VersionEntry}
use Rattle.ctr_page.specs.declared.walk.BadChain.{BadChain}
use Rattle.ctr_page.specs.declared.table.TheConstants.{PAGE_SIZE}
use Rattle.ctr_page.specs.Places.{kept_size, start_of}
use Rattle.ctr_passed.specs.area_Reading.{older_said, columns_on, area_of}
use Rattle.ctr_walk.specs.base_Base.{IsSoundImage}
use Rattle.ctr_walk.specs.store_Store.{View}
use Rattle.ctr_walk.specs.Damage.{damage_told, EndsTold, ReadsPages}
use Rattle.ctr_passed.specs.record_effects_States.{pages_in}
use Rattle.ctr_pvs.specs.declared.lending.LentVersion.{LentVersion}
use Rattle.ctr_pvs.specs.Reading.{version_check_at}

-- what is lent, as version entries are made and read
abbrev pub entry_lent : LentVersion → VersionEntry
entry_lent l = record {
  used = l.used;
  key = l.key;
  version = record { xid = l.xid; tombstone = l.tombstone; payload = l.payload.now };
  older = l.older;
}

-- A version entry of rows so wide has its bytes on a page at a place.
abbrev pub VersionLiesAt : Place → ℕ → Type 0
VersionLiesAt at w = (w ≤ 2048) × (start_of (kept_size w) at.slot + kept_size w ≤ PAGE_SIZE)

-- What is lent is the version entry that the pages have at a place.
abbrev pub IsKeptAt : (ℕ → List ℕ) → Place → LentVersion → Type 0
IsKeptAt pages at l =
    older_said (columns_on pages at.page) (entry_lent l) ≡ (area_of pages).older at

-- All passes, and it is that version entry; or what is wrong is told.
abbrev pub VersionSaidAt : ℕ → (ℕ → List ℕ) → Place → Result LentVersion BadChain → Type 0
VersionSaidAt counted pages at (Ok l) =
    (version_check_at counted pages at ≡ Ok tt) × IsKeptAt pages at l
VersionSaidAt counted pages at (Err bad) = version_check_at counted pages at ≡ Err bad

-- What a call leaves that lends the version entry at a place, once the loan is over, and where it
-- ended.
pub record LendsVersion {D : Type 0} (first : Image) (g : Ghosts D) (at : Place) (a b : View D)
    (result : Result LentVersion StoreFault) : Type 0 where
  pub ends : IsTrue g.tells → IsSoundImage first
      → EndsTold (damage_told g b) (VersionSaidAt a.now.counted (pages_in a.now) at) result
  pub leaves : ReadsPages first g a b result
