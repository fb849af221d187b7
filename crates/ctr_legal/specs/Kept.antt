-- What a state keeps on every legal tape: locks are apart, changes lie under locks, names in use
-- are steady, and recovery holds none of them.
use Rattle.std.specs.Prelude.{◌≡◌, ℕ, ℤ, ◌==◌, ◌≤◌, true, false, List, [], drop, length, Some, None}
use Rattle.std.specs.List.{AllByRecursion}
use Rattle.ctr_model.specs.declared.database.Change.{Change}
use Rattle.ctr_model.specs.declared.state.State.{State}
use Rattle.ctr_model.specs.declared.state.Transaction.{Transaction}
use Rattle.ctr_model.specs.State.{has_name, transaction_of}
use Rattle.ctr_model.specs.Refusals.{has_lock}
use Rattle.ctr_versions.specs.Chains.{IsUnwritten}
use Rattle.ctr_versions.specs.Keys.{schema_writes}
use Rattle.ctr_legal.specs.Cover.{IsCovered, ArePending}

-- The locks of two transactions: a name that the first holds the second neither holds nor uses, and
-- no key is locked by both.
pub record AreApart (t u : Transaction) : Type 0 where
  pub holds : (name : List ℕ) → has_name name t.holds ≡ true → has_name name u.holds ≡ true → ⊥
  pub uses : (name : List ℕ) → has_name name t.holds ≡ true → has_name name u.uses ≡ true → ⊥
  pub locks : (name : List ℕ) (key : ℤ) → has_lock name key t ≡ true
      → has_lock name key u ≡ true → ⊥

-- none of these that asked behind the first n made or dropped the table
abbrev pub IsSteady : List (List Change) → ℕ → List ℕ → Type 0
IsSteady asked n name = AllByRecursion IsUnwritten (drop n (schema_writes name asked))

-- The tables that a transaction uses or holds are the ones of its snapshot, whoever asked since.
pub record IsFirm (asked : List (List Change)) (t : Transaction) : Type 0 where
  pub uses : (name : List ℕ) → has_name name t.uses ≡ true → IsSteady asked t.snapshot name
  pub holds : (name : List ℕ) → has_name name t.holds ≡ true → IsSteady asked t.snapshot name

-- its snapshot is of commits that were asked, and so many asked is its own number at most
pub record IsFit (asked : ℕ) (t : Transaction) : Type 0 where
  pub snapshot : t.snapshot ≤ asked
  pub number : (k : ℕ) → t.asked ≡ Some k → k ≤ asked

-- Recovery holds no name that the transaction uses or holds.
pub record IsClear (stuck : List (List ℕ)) (t : Transaction) : Type 0 where
  pub uses : (name : List ℕ) → has_name name stuck ≡ true → has_name name t.uses ≡ true → ⊥
  pub holds : (name : List ℕ) → has_name name stuck ≡ true → has_name name t.holds ≡ true → ⊥

-- Each transaction fits what was asked, is covered by its locks, has written nothing without one,
-- is clear of recovery, and is firm until it asks itself; each two are apart; who asked and isn't
-- answered is still there.
pub record IsKept (state : State) : Type 0 where
  pub answered : state.answered ≤ length state.asked
  pub fits : (s : ℕ) (t : Transaction) → transaction_of state s ≡ Some t
      → IsFit (length state.asked) t
  pub covered : (s : ℕ) (t : Transaction) → transaction_of state s ≡ Some t → IsCovered t
  pub clear : (s : ℕ) (t : Transaction) → transaction_of state s ≡ Some t → IsClear state.stuck t
  pub apart : (s r : ℕ) (t u : Transaction) → (s == r) ≡ false → transaction_of state s ≡ Some t
      → transaction_of state r ≡ Some u → AreApart t u
  pub firm : (s : ℕ) (t : Transaction) → transaction_of state s ≡ Some t → t.asked ≡ None
      → IsFirm state.asked t
  pub readers : (s : ℕ) (t : Transaction) → transaction_of state s ≡ Some t → t.writer ≡ false
      → t.own ≡ []
  pub pending : ArePending state
