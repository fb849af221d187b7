-- A World on pages, with what a program has of its sessions: their transactions and their locks.
use Rattle.std.specs.Prelude.{◌≡◌, ◌≢◌, ◌⊎◌, ℕ, ◌<◌, ℤ, T, true, List, Some}
use Rattle.std.specs.Ordering.{nat_cmp}
use Rattle.std.specs.FinMap.Entries.{is_sorted}
use Rattle.ctr_disk.specs.declared.disk.Disk.{Ghosts}
use Rattle.ctr_model.specs.declared.state.State.{State}
use Rattle.ctr_model.specs.declared.state.Transaction.{Transaction}
use Rattle.ctr_model.specs.State.{has_name, transaction_of}
use Rattle.ctr_area.specs.Sound.{IsAmong}
use Rattle.ctr_redo.specs.States.{State as Stored}
use Rattle.ctr_told.specs.record_effects_States.{area_in}
use Rattle.ctr_told.specs.actions_Facts.{Fact, HasTable}
use Rattle.ctr_told.specs.store_Store.{View}
use Rattle.ctr_told.specs.kept_Walk.{Mind}
use Rattle.ctr_told.specs.kept_Turns.{Start, state_now}
use Rattle.ctr_told.specs.stops_World.{KeepsWorld}
use Rattle.ctr_locks.specs.Held.{LocksOfSession, session_locks}
use Rattle.ctr_locks.specs.Shows.{ShowsKeyLocks}
use Rattle.ctr_told.specs.txn_Held.{TxnsHeld, run_of}

-- the transactions of sessions, and their locks
pub record SessionsHeld : Type 0 where
  pub txns : TxnsHeld
  pub locks : List (ℕ × LocksOfSession)

-- the name of the table that an entry of the catalog has
abbrev pub names_in : Stored → ℕ → List ℕ
names_in s e = ((area_in s).title e).name

-- Each entry of the catalog that was taken has the name that it had.
abbrev pub NamesStay : Stored → Stored → Type 0
NamesStay a b = (e : ℕ) → ((area_in a).title e).state ≢ 0 → names_in b e ≡ names_in a e

-- The lock of a key in the table of an entry: whoever has it holds the table's name, or counts on
-- the table.
pub record IsInTable (s : Stored) (e : ℕ) (u : Transaction) (facts : List Fact) : Type 0 where
  pub inside : e < 32
  pub there : ((area_in s).title e).state ≢ 0
  pub counted : (has_name (names_in s e) u.holds ≡ true)
      ⊎ IsAmong (HasTable e ((area_in s).title e)) facts

-- each key's lock is one in a table
abbrev pub AreInTables : Stored → List (ℕ × LocksOfSession) → State → (ℕ → List Fact) → Type 0
AreInTables s locks state facts = (r e : ℕ) (key : ℤ) (u : Transaction)
    → session_locks r e key locks ≡ true → transaction_of state r ≡ Some u
    → IsInTable s e u (facts r)

-- sessions stand in the order of their numbers
abbrev pub AreInOrder : State → Type 0
AreInOrder state = T (is_sorted nat_cmp state.sessions)

-- The World is kept, its run is that of the transactions, and the locks are those of the state that
-- its tape has reached, whose sessions stand in order.
pub record InWorld {D : Type 0} (g : Ghosts D) (c : Start) (opened : D) (v : View D)
    (h : SessionsHeld) (w : Mind) : Type 0 where
  pub keeps : KeepsWorld g c opened v w
  pub run_is : w.run ≡ run_of h.txns
  pub locks : ShowsKeyLocks (names_in v.now) h.locks (state_now c w)
  pub tables : AreInTables v.now h.locks (state_now c w) w.facts
  pub in_order : AreInOrder (state_now c w)
