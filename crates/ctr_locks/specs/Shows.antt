-- What the sessions have shows a state of the model, and each change shows what the model's change
-- leaves. Which name an entry has is given beside it.
use Rattle.std.specs.Prelude.{◌≡◌, ℕ, ℤ, T, nat_eq, Bool, true, false, List, Option, Some, None}
use Rattle.std.specs.Ordering.{nat_cmp}
use Rattle.std.specs.FinMap.Entries.{is_sorted}
use Rattle.ctr_model.specs.declared.state.State.{State}
use Rattle.ctr_model.specs.declared.state.Transaction.{Transaction}
use Rattle.ctr_model.specs.State.{has_name, transaction_of, with_transaction, without_transaction, begun}
use Rattle.ctr_model.specs.Reply.{with_use, with_lock}
use Rattle.ctr_model.specs.Refusals as model
use Rattle.ctr_locks.specs.Held.{LocksOfSession, locks_key, uses_name, holds_name, held_by_session, session_locks, session_uses, busy_among, locked_among, IsInOrder, OfSession, SameHeld, LocksEntryKey, UsesName, HoldsName, FreesAll}

-- the lock of a key in some entry of the name is had
pub record IsLockedIn (name_of : ℕ → List ℕ) (name : List ℕ) (key : ℤ) (h : LocksOfSession)
    : Type 0 where
  pub entry : ℕ
  pub named : name_of entry ≡ name
  pub locked : locks_key entry key h ≡ true

-- The session has the uses and holds of the transaction. Each lock that it has is one of the
-- transaction's, by the entry's name; and each of the transaction's it has in an entry of the name.
pub record HasTheSame (name_of : ℕ → List ℕ) (h : LocksOfSession) (t : Transaction) : Type 0 where
  pub uses : (name : List ℕ) → uses_name name h ≡ has_name name t.uses
  pub holds : (name : List ℕ) → holds_name name h ≡ has_name name t.holds
  pub locks : (entry : ℕ) (key : ℤ) → locks_key entry key h ≡ true
      → model.has_lock (name_of entry) key t ≡ true
  pub locked : (name : List ℕ) (key : ℤ) → model.has_lock name key t ≡ true
      → IsLockedIn name_of name key h

-- no lock, no use and no hold
pub record HasNothing (h : LocksOfSession) : Type 0 where
  pub uses : (name : List ℕ) → uses_name name h ≡ false
  pub holds : (name : List ℕ) → holds_name name h ≡ false
  pub locks : (entry : ℕ) (key : ℤ) → locks_key entry key h ≡ false

-- the session has what its transaction has, and nothing where it is in none
abbrev pub IsTheSame : (ℕ → List ℕ) → LocksOfSession → Option Transaction → Type 0
IsTheSame name_of h None = HasNothing h
IsTheSame name_of h (Some t) = HasTheSame name_of h t

-- each session has what its transaction has
abbrev pub ShowsKeyLocks : (ℕ → List ℕ) → List (ℕ × LocksOfSession) → State → Type 0
ShowsKeyLocks name_of sessions state =
    (s : ℕ) → IsTheSame name_of (held_by_session s sessions) (transaction_of state s)

-- ---- what they answer

-- whoever keeps the session from the name is the model's
abbrev pub BusyIsTheModels : Type 0
BusyIsTheModels = (name_of : ℕ → List ℕ) (s : ℕ) (schema : Bool) (name : List ℕ)
    (sessions : List (ℕ × LocksOfSession)) (state : State)
    → IsInOrder sessions → T (is_sorted nat_cmp state.sessions)
    → ShowsKeyLocks name_of sessions state
    → busy_among schema s name sessions
    ≡ model.first_session (model.is_busy schema name) (model.others s state)

-- Another session that has the key's lock in an entry of the same name has it in this entry.
abbrev pub IsOnlyEntry : (ℕ → List ℕ) → ℕ → ℕ → ℤ → List (ℕ × LocksOfSession) → Type 0
IsOnlyEntry name_of s entry key sessions = (r e : ℕ) → nat_eq r s ≡ false
    → session_locks r e key sessions ≡ true → name_of e ≡ name_of entry → e ≡ entry

-- Where no other entry has the name, whoever else has the key's lock is the model's.
abbrev pub LockedIsTheModels : Type 0
LockedIsTheModels = (name_of : ℕ → List ℕ) (s entry : ℕ) (key : ℤ)
    (sessions : List (ℕ × LocksOfSession)) (state : State)
    → IsInOrder sessions → T (is_sorted nat_cmp state.sessions)
    → IsOnlyEntry name_of s entry key sessions → ShowsKeyLocks name_of sessions state
    → locked_among s entry key sessions ≡ model.locked_by state s (name_of entry) key

-- ---- changes

-- A session's change shows the state in which its transaction was granted this.
abbrev pub GrantLeavesLocks : (ℕ → List ℕ) → ℕ → (LocksOfSession → LocksOfSession → Type 0)
    → (Transaction → Transaction) → Type 0
GrantLeavesLocks name_of s P grants =
    (old new : List (ℕ × LocksOfSession)) (state : State) (t : Transaction)
    → OfSession s P old new → ShowsKeyLocks name_of old state → transaction_of state s ≡ Some t
    → ShowsKeyLocks name_of new (with_transaction s (grants t) state)

-- a lock of a key in the table of an entry, whose name the session uses
abbrev pub LockLeavesLocks : Type 0
LockLeavesLocks =
    (name_of : ℕ → List ℕ) (s entry : ℕ) (key : ℤ) (old new : List (ℕ × LocksOfSession))
    (state : State) (t : Transaction)
    → session_uses s (name_of entry) old ≡ true → OfSession s (LocksEntryKey entry key) old new
    → ShowsKeyLocks name_of old state → transaction_of state s ≡ Some t
    → ShowsKeyLocks name_of new
    (with_transaction s (with_lock (Some key) (name_of entry) t) state)

-- a use of a table
abbrev pub UseLeavesLocks : Type 0
UseLeavesLocks = (name_of : ℕ → List ℕ) (s : ℕ) (name : List ℕ)
    → GrantLeavesLocks name_of s (UsesName name) (with_use name)

-- a hold of a name
abbrev pub HoldShows : Type 0
HoldShows = (name_of : ℕ → List ℕ) (s : ℕ) (name : List ℕ)
    → GrantLeavesLocks name_of s (HoldsName name) (with_lock None name)

-- Room that was taken shows the same state.
abbrev pub RoomLeavesLocks : Type 0
RoomLeavesLocks =
    (name_of : ℕ → List ℕ) (s : ℕ) (old new : List (ℕ × LocksOfSession)) (state : State)
    → OfSession s SameHeld old new → ShowsKeyLocks name_of old state
    → ShowsKeyLocks name_of new state

-- When a session has let go of all, the state without its transaction is shown.
abbrev pub ReleaseLeavesLocks : Type 0
ReleaseLeavesLocks =
    (name_of : ℕ → List ℕ) (s : ℕ) (old new : List (ℕ × LocksOfSession)) (state : State)
    → OfSession s FreesAll old new → ShowsKeyLocks name_of old state
    → ShowsKeyLocks name_of new (without_transaction s state)

-- A session in no transaction has nothing, so that the state in which it begins one is shown too.
abbrev pub BeginLeavesLocks : Type 0
BeginLeavesLocks =
    (name_of : ℕ → List ℕ) (s n : ℕ) (sessions : List (ℕ × LocksOfSession)) (state : State)
    → transaction_of state s ≡ None → ShowsKeyLocks name_of sessions state
    → ShowsKeyLocks name_of sessions (with_transaction s (begun n) state)
