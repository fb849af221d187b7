-- When no step has anything to do.
use Rattle.std.specs.Prelude.{◌≡◌, ℕ, true}
use Rattle.ctr_page.specs.declared.rows.Place.{Place}
use Rattle.ctr_pvs.specs.redo_States.{State}
use Rattle.ctr_area.specs.Images.{is_live}
use Rattle.ctr_record_effects.specs.States.{area_in}
use Rattle.ctr_actions.specs.Actions.{Action, Unlinks, UnlinksOlder, FreesEntry}
use Rattle.ctr_clean.specs.Steps.{Locks, HasNoTrim, HasNoRevert}
use Rattle.ctr_clean.specs.Lists.{HasNoForget, HasNoFree}
use Rattle.ctr_clean.specs.Tables.{OwesDying}
use Rattle.ctr_clean.specs.Older.{HasNoLoose}
use Rattle.ctr_clean.specs.Cutting.{HasNoCut}

-- At every place a step says of a state that there is nothing to do: at each slot of each table,
-- at each slot, its chain and each version entry of a live one, at each entry of the catalog, at
-- each place of the aborted transaction map, and in the secondary log.
pub record HasNoStep (low : ℕ) (locks : Locks) (s : State) : Type 0 where
  pub heads : (e : ℕ) (at : Place) → HasNoRevert locks e at s
  pub slots : (e : ℕ) (at : Place) → is_live ((area_in s).title e) ≡ true
      → HasNoTrim low locks e at s
  pub chains : (e : ℕ) (at : Place) → is_live ((area_in s).title e) ≡ true
      → HasNoCut low locks e at s
  pub older : (e : ℕ) (q : Place) → is_live ((area_in s).title e) ≡ true → HasNoLoose locks e q s
  pub tables : (e : ℕ) → OwesDying low e s → ⊥
  pub aborted : (place : ℕ) → HasNoForget place s.tables
  pub free : HasNoFree 0 s.tables

-- A step does the action: one is written for it.
abbrev pub HasStep : Action → Type 0
HasStep (Unlinks p e b) = ⊥
HasStep (UnlinksOlder p e) = ⊥
HasStep (FreesEntry e title left) = ⊥
HasStep a = Unit {0}
