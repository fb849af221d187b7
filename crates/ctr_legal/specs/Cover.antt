-- Which changes a transaction may have made: those that its locks, uses and holds cover. And which
-- commits are asked for and not answered.
use Rattle.std.specs.Prelude.{◌≡◌, ℕ, ◌+◌, ◌≤◌, ℤ, false, List, Some, None, slice_get}
use Rattle.std.specs.Ordering.{nat_cmp}
use Rattle.std.specs.FinMap.Entries.{find}
use Rattle.ctr_model.specs.declared.database.Change.{Change}
use Rattle.ctr_model.specs.declared.state.State.{State}
use Rattle.ctr_model.specs.declared.state.Transaction.{Transaction}
use Rattle.ctr_model.specs.State.{has_name}
use Rattle.ctr_model.specs.Refusals.{has_lock}
use Rattle.ctr_versions.specs.Keys.{schema_change, row_change, left_by}

-- A row that is changed is locked and its table used, or the table's name is held; a name whose
-- table is made or dropped is held.
pub record IsCovered (t : Transaction) : Type 0 where
  pub rows : (name : List ℕ) (key : ℤ) → has_lock name key t ≡ false
      → has_name name t.holds ≡ false → left_by (row_change name key) t.own ≡ None
  pub uses : (name : List ℕ) (key : ℤ) → has_name name t.uses ≡ false
      → has_name name t.holds ≡ false → left_by (row_change name key) t.own ≡ None
  pub names : (name : List ℕ) → has_name name t.holds ≡ false
      → left_by (schema_change name) t.own ≡ None

-- A session asked for its commit, with these changes and this number.
pub record HasAsked (sessions : List (ℕ × Transaction)) (s : ℕ) (own : List Change) (number : ℕ)
    : Type 0 where
  pub me : Transaction
  pub there : find nat_cmp s sessions ≡ Some me
  pub asked : me.asked ≡ Some number
  pub same : me.own ≡ own

-- each commit that was asked for and isn't answered is that of a session, which has its locks still
abbrev pub ArePending : State → Type 0
ArePending state = (j : ℕ) (own : List Change) → state.answered ≤ j
    → slice_get state.asked j ≡ Some own → (s : ℕ) × HasAsked state.sessions s own (j + 1)
