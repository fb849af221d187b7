-- What is shown behind a head that is taken from its row.
use Rattle.std.specs.Prelude.{◌≡◌, ◌≢◌, ℕ, Bool, None}
use Rattle.ctr_versions.specs.Chains.{Numbers}
use Rattle.ctr_versions.specs.Changes.{revert}
use Rattle.ctr_versions.specs.Versions.{rows_of, RowsSet}
use Rattle.ctr_pvs.specs.redo_States.{State}
use Rattle.ctr_page.specs.declared.rows.Place.{Place}
use Rattle.ctr_pvs.specs.area_Areas.{Slot}
use Rattle.ctr_pvs.specs.area_Images.{versions_in}
use Rattle.ctr_pvs.specs.record_laws_Owed.{AgreeOnCommits}
use Rattle.ctr_pvs.specs.record_effects_States.{area_in}
use Rattle.ctr_pvs.specs.record_laws_Loose.{IsLoose}
use Rattle.ctr_pvs.specs.record_effects_Standing.{HasSoundArea}

-- the slot at a place of a state
abbrev pub slot_of : State → Place → Slot
slot_of s at = (area_in s).slot at

-- The chain of the slot's key in a table has lost its head, and every other chain is what it was,
-- whoever is committed, and the state is sound. Where a version entry gave the new head, it stays
-- used, and no chain has it.
pub record TakesHead (e : ℕ) (at : Place) (old new : State) : Type 0 where
  pub chains : (number : Numbers) (committed : ℕ → Bool) → AgreeOnCommits number old.tables
      → RowsSet (versions_in committed (area_in old)) (versions_in committed (area_in new)) e
      (slot_of old at).key
      (revert number (rows_of (versions_in committed (area_in old)) e (slot_of old at).key))
  pub sound : HasSoundArea new
  pub leaves : (slot_of old at).previous ≡ None → (slot_of old at).pointer.page ≢ 0
      → IsLoose (area_in new) e (slot_of old at).pointer
      ((area_in old).older (slot_of old at).pointer)
