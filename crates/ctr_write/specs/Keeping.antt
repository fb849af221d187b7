-- One turn that keeps a version off its row.
use Rattle.std.specs.Prelude.{◌≡◌, ◌⊎◌, ℕ, true, Some}
use Rattle.ctr_meta.specs.Tables.{is_in}
use Rattle.ctr_page.specs.declared.rows.Place.{Place}
use Rattle.ctr_page.specs.declared.rows.VersionEntry.{VersionEntry}
use Rattle.ctr_area.specs.Areas.{RowVersion, Slot}
use Rattle.ctr_area.specs.Reading.{older_said}
use Rattle.ctr_area.specs.Sound.{IsUsedSlot}
use Rattle.ctr_extend.specs.record_laws_Owed.{older_copy}
use Rattle.ctr_redo.specs.States.{State}
use Rattle.ctr_extend.specs.record_effects_States.{area_in}
use Rattle.ctr_extend.specs.record_effects_Standing.{IsDatabaseState}
use Rattle.ctr_extend.specs.actions_Sites.{site_of}
use Rattle.ctr_extend.specs.actions_Actions.{Keeps}
use Rattle.ctr_extend.specs.actions_Facts.{HasSlot, HasCopy, HoldsFact}
use Rattle.ctr_extend.specs.passed_Logged.{IsOlderOf}
use Rattle.ctr_extend.specs.pvs_Along.{FindsFreeEntry}
use Rattle.ctr_extend.specs.page_turns_Acts.{ActsBy}

-- a version is one that a slot has
abbrev pub IsOfSlot : Slot → RowVersion → Type 0
IsOfSlot slot v = (slot.head ≡ v) ⊎ (slot.previous ≡ Some v)

-- The version entry is the copy of this version of the used slot at a place, by the columns of the
-- table, and is well made.
pub record IsCopyFor (e : ℕ) (at : Place) (v : RowVersion) (entry : VersionEntry) (s : State)
    : Type 0 where
  pub used : IsUsedSlot (area_in s) e at
  pub of_slot : IsOfSlot ((area_in s).slot at) v
  pub made : IsOlderOf s.counted ((area_in s).title e).columns entry
  pub is : older_said ((area_in s).title e).columns entry ≡ older_copy ((area_in s).slot at) v

-- The pages may be a database's, the transaction is open, and the place is a free one of the
-- table's versions.
pub record MayKeepAt (x e : ℕ) (q : Place) (s : State) : Type 0 where
  pub sound : IsDatabaseState s
  pub is_open : is_in x s.tables.opens ≡ true
  pub free : FindsFreeEntry (area_in s) e (Some q)

-- What is kept off its row: by whom, of which table and slot, and which version of it.
pub record Off : Type 0 where
  pub x : ℕ
  pub e : ℕ
  pub at : Place
  pub version : RowVersion

-- What is kept off its row, by its parts.
abbrev pub off : ℕ → ℕ → Place → RowVersion → Off
off x e at version = record { x = x; e = e; at = at; version = version }

-- A version of a slot is kept at a place. The slot is what it was.
pub record KeepsOff (o : Off) (q : Place) (s t : State) : Type 0 where
  pub acts : ActsBy o.x (Keeps o.e q (older_copy ((area_in s).slot o.at) o.version)) s t
  pub has : HoldsFact o.x (HasSlot o.e o.at ((area_in s).slot o.at)) (site_of t)
  pub copy : HoldsFact o.x (HasCopy o.e o.at o.version q) (site_of t)
