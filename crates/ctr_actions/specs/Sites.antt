-- What stands in a store, as its records change it.
use Rattle.std.specs.Prelude.{◌≡◌, ℕ}
use Rattle.ctr_record_laws.specs.meta_Tables.{Tables}
use Rattle.ctr_record_laws.specs.area_Areas.{Area}
use Rattle.ctr_record_laws.specs.area_Images.{is_committed_in, versions_in}
use Rattle.ctr_record_laws.specs.area_Sound.{IsSoundArea}
use Rattle.ctr_record_effects.specs.ctr_redo.States.{State}
use Rattle.ctr_record_effects.specs.States.{area_in}

-- How many pages are counted, the tables, and what stands in the pages.
pub record Site : Type 0 where
  pub counted : ℕ
  pub tables : Tables
  pub area : Area

-- the site of a state
abbrev pub site_of : State → Site
site_of s = record { counted = s.counted; tables = s.tables; area = area_in s }

-- the pages of a site are sound with its tables
abbrev pub IsSoundSite : Site → Type 0
IsSoundSite s = IsSoundArea s.counted s.tables s.area

-- An engine of versions that is read from two sites is the same: the chains of names and rows, who
-- is committed, who is open and who is aborted, each with its heads, and the next transaction.
pub record IsSameEngine (s t : Site) : Type 0 where
  pub versions :
      versions_in (is_committed_in t.tables) t.area ≡ versions_in (is_committed_in s.tables) s.area
  pub committed : is_committed_in t.tables ≡ is_committed_in s.tables
  pub next : t.tables.next ≡ s.tables.next
  pub opens : t.tables.opens ≡ s.tables.opens
  pub aborted : t.tables.aborted ≡ s.tables.aborted
