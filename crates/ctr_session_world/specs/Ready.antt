-- What a turn of a session asks and leaves, whatever the disk tells.
use Rattle.std.specs.Prelude.{◌≡◌, ◌⊎◌, ◌<◌, ◌≤◌, ◌==◌, ◌+◌, ℕ, Bool, false, Option, None, Some, is_some, Result, OnOk}
use Rattle.ctr_disk.specs.declared.disk.Disk.{Ghosts}
use Rattle.ctr_disk.specs.Image.{Image}
use Rattle.ctr_disk.specs.declared.fault.StoreFault.{StoreFault}
use Rattle.ctr_disk.specs.declared.fault.StoreFault.TheVariants.{Fault}
use Rattle.ctr_types.specs.Faults.{HasFault}
use Rattle.ctr_base.specs.declared.growing.TheConstants.{MOST_PAGES}
use Rattle.ctr_base.specs.Base.{WhereSound}
use Rattle.ctr_told.specs.store_Store.{View, LeavesFront, LeavesGrowing}
use Rattle.ctr_told.specs.walk_OneRecord.{HasRoomForOne}
use Rattle.ctr_told.specs.txn_Held.{TxnHeld, TxnsHeld, IsOneOfEight, txn_of}
use Rattle.ctr_told.specs.txn_Calls.{IsOverStore}
use Rattle.ctr_told.specs.txn_Rooms.{HasItemRoom}
use Rattle.ctr_told.specs.page_turns_Turns.{RestsBehind}

-- Transactions stand over a store: they draw the numbers that its tables expect, and there is room
-- for each item of the secondary log that is kept for one of them.
pub record StandOver {D : Type 0} (txns : TxnsHeld) (v : View D) : Type 0 where
  pub next : IsOverStore txns v
  pub items : HasItemRoom txns v.meta

-- A turn of a session may be taken: there is room for a record, and for its number.
pub record MayTurn {D : Type 0} (s : ℕ) (txns : TxnsHeld) (v : View D) : Type 0 where
  pub one : IsOneOfEight s
  pub stand : StandOver txns v
  pub room : HasRoomForOne 0 0 v

-- What a turn of a session leaves: the transactions stand over the store, and those of the other
-- sessions are as they were; the store isn't stopped, no page is counted less, and one record at
-- most was logged.
pub record LeavesReady {D : Type 0} (s : ℕ) (txns now : TxnsHeld) (a b : View D) : Type 0 where
  pub stand : StandOver now b
  pub others : (q : ℕ) → 0 < q → (q == s) ≡ false → txn_of q now ≡ txn_of q txns
  pub going : b.stopped ≡ false
  pub counted : a.now.counted ≤ b.now.counted
  pub one : b.next ≤ a.next + 1

-- the transaction has asked for its commit
abbrev pub is_asking : Option TxnHeld → Bool
is_asking None = false
is_asking (Some t) = is_some t.asked

-- A session that hasn't asked for its commit hasn't then.
abbrev pub StaysUnasked : ℕ → TxnsHeld → TxnsHeld → Type 0
StaysUnasked s txns now = is_asking (txn_of s txns) ≡ false → is_asking (txn_of s now) ≡ false

-- So a turn leaves the sessions where it was answered, and asks for no commit.
abbrev pub LeavesOver : {D T : Type 0} → ℕ → TxnsHeld → TxnsHeld → View D → View D
    → Result T StoreFault → Type 0
LeavesOver s txns now a b result =
    OnOk result (LeavesReady s txns now a b × StaysUnasked s txns now)

-- At each moment of a turn, however it ends, a crash leaves what was hardened with some of what
-- waited. Where more pages are counted, that is so up to the growth, and in it a crash leaves what
-- is hardened then, with the old count of pages or the new one.
pub data LeavesFrontOrGrows {D : Type 0} (g : Ghosts D) (a b : View D) : Type 0 where
  Front : LeavesFront g a b → LeavesFrontOrGrows g a b
  Grows : (m : View D) → RestsBehind g a m → m.now.counted < MOST_PAGES → LeavesGrowing g m b
      → LeavesFrontOrGrows g a b

-- Nothing was logged, and what stands in the store is as it was, but that more pages may be
-- counted.
pub record StandsStill {D : Type 0} (a b : View D) : Type 0 where
  pub next : b.next ≡ a.next
  pub now : b.now ≡ record a.now { counted = b.now.counted }

-- So it is, or one record was logged.
abbrev pub StillOrLogs : {D : Type 0} → View D → View D → Type 0
StillOrLogs a b = StandsStill a b ⊎ (b.next ≡ a.next + 1)

-- What a turn leaves of the disk, however it ends: time doesn't go back, and a fault is told where
-- the disk counts one more. Where it was answered, it logged a record, or left what stands in the
-- store.
pub record LeavesDisk {D T : Type 0} (first : Image) (g : Ghosts D) (a b : View D)
    (result : Result T StoreFault) : Type 0 where
  pub later : g.moment_of a.disk ≤ g.moment_of b.disk
  pub faults : HasFault Fault (g.faults_of a.disk) (g.faults_of b.disk) result
  pub left : WhereSound first g (LeavesFrontOrGrows g a b)
  pub goes : WhereSound first g (OnOk result (StillOrLogs a b))
