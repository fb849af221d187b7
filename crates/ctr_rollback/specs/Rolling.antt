-- A rollback on pages, one record a turn: a transaction's own items of the secondary log are
-- undone, the latest first, and then it is aborted.
use Rattle.std.specs.Prelude.{◌≡◌, ℕ, ◌+◌, ◌≤◌, true, Some, None, Result, Ok, Err}
use Rattle.ctr_disk.specs.declared.fault.StoreFault.{StoreFault}
use Rattle.ctr_disk.specs.declared.fault.StoreFault.TheVariants.{Fault}
use Rattle.ctr_rec.specs.declared.record.SlogItem.{SlogItem}
use Rattle.ctr_meta.specs.Tables.{is_in}
use Rattle.ctr_page_turns.specs.redo_States.{State}
use Rattle.ctr_page_turns.specs.record_effects_Standing.{IsDatabaseState}
use Rattle.ctr_record_laws.specs.Owed.{IsLastItem}
use Rattle.ctr_page_turns.specs.actions_Actions.{Aborts, undoing, item_count}
use Rattle.ctr_txn.specs.Held.{TxnHeld, TxnsHeld, txn_of, IsWriting}
use Rattle.ctr_txn.specs.Steps.{SetsTxn, txn_undoing}
use Rattle.ctr_page_turns.specs.Acts.{ActsBy}
use Rattle.ctr_rollback.specs.declared.rolling.Rolled.{Rolled}
use Rattle.ctr_rollback.specs.declared.rolling.Rolled.TheVariants.{Undone, Back}

-- The state may be a database's, and the transaction is open in it.
pub record MayRoll (x : ℕ) (s : State) : Type 0 where
  pub sound : IsDatabaseState s
  pub is_open : is_in x s.tables.opens ≡ true

-- One turn leads from a state to the next. The transaction's latest item is undone, and it has one
-- item less; or it had none left, and is aborted.
abbrev pub RollsTo : ℕ → State → State → Rolled → Type 0
RollsTo x s t Undone = (i : SlogItem) × IsLastItem x i s.tables.items × ActsBy x (undoing i) s t
    × (item_count x s.tables ≡ item_count x t.tables + 1)
RollsTo x s t Back = (item_count x s.tables ≡ 0) × ActsBy x Aborts s t

-- So it ends; or the disk failed.
abbrev pub EndsRoll : ℕ → State → State → Result Rolled StoreFault → Type 0
EndsRoll x s t (Ok r) = RollsTo x s t r
EndsRoll x s t (Err e) = e ≡ Fault

-- What a turn leaves of the sessions' transactions: once an item is undone the session is within
-- its rollback, and once it is aborted its transaction is gone. Where the call failed nothing has
-- changed.
abbrev pub RollsTxns : ℕ → TxnsHeld → TxnsHeld → Result Rolled StoreFault → Type 0
RollsTxns s old new (Ok Undone) = (new.numbers ≡ old.numbers) × IsWriting s new
    × ((t : TxnHeld) → txn_of s old ≡ Some t → SetsTxn s (Some (txn_undoing t)) old new)
RollsTxns s old new (Ok Back) = (new.numbers ≡ old.numbers) × SetsTxn s None old new
RollsTxns s old new (Err e) = new ≡ old

-- How many pages a turn reads and how many records it logs, together: one of each for an item, and
-- a record for the mark.
abbrev pub steps_of : Rolled → ℕ
steps_of Undone = 2
steps_of Back = 1

-- a turn took so many steps; one that failed, no more than two
abbrev pub TakesSteps : Result Rolled StoreFault → ℕ → ℕ → Type 0
TakesSteps (Ok r) old new = new ≡ old + steps_of r
TakesSteps (Err e) old new = new ≤ old + 2
