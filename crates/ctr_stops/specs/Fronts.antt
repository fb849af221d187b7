-- However many of the records that wait are lost, pages have the rows of a prefix of the commit
-- order.
use Rattle.std.specs.Prelude.{◌≡◌, ℕ, ◌≤◌, List, length, take}
use Rattle.ctr_model.specs.declared.database.Change.{Change}
use Rattle.ctr_model.specs.Database.{Database, after_all}
use Rattle.ctr_passed.specs.area_Images.{is_committed_in, image_rows}
use Rattle.ctr_store.specs.redo_States.{State, steps}
use Rattle.ctr_passed.specs.record_effects_States.{area_in}
use Rattle.ctr_passed.specs.record_effects_Standing.{IsDatabaseState}
use Rattle.ctr_store.specs.Store.{View}

-- the rows of a state of pages and tables
abbrev pub rows_of_state : State → Database
rows_of_state s = image_rows (is_committed_in s.tables) (area_in s)

-- A state may be a database's, and its rows are the base after the first of those that asked, of
-- this many at least.
pub record HasFirst (base : Database) (asked : List (List Change)) (least : ℕ) (s : State)
    : Type 0 where
  pub k : ℕ
  pub at_least : least ≤ k
  pub at_most : k ≤ length asked
  pub sound : IsDatabaseState s
  pub rows : rows_of_state s ≡ after_all (take k asked) base

-- Each state has these in which some of what waits is lost; and pages and tables are those with all
-- that waits.
pub record HasFronts {D : Type 0} (base : Database) (asked : List (List Change)) (least : ℕ)
    (v : View D) : Type 0 where
  pub fronts : (k : ℕ) → HasFirst base asked least (steps (take k v.waiting) v.hardened)
  pub now : v.now ≡ steps v.waiting v.hardened
