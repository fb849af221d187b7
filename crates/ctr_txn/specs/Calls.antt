-- What a call that logs a record of a transaction asks, and what its pages show then.
use Rattle.std.specs.Prelude.{◌≡◌, ℕ, ◌+◌, ◌-◌, ◌^◌, ◌<◌, IsTrue, [], ◌∷◌, ◌++◌, length, Result, Some, None, OnOk, OnErr, IfOk}
use Rattle.ctr_disk.specs.declared.disk.Disk.{Ghosts}
use Rattle.ctr_disk.specs.Image.{Image}
use Rattle.ctr_disk.specs.declared.fault.StoreFault.{StoreFault}
use Rattle.ctr_model.specs.declared.state.State.{State}
use Rattle.ctr_model.specs.declared.state.Transaction.{Transaction}
use Rattle.ctr_model.specs.State.{with_transaction, without_transaction}
use Rattle.ctr_paged.specs.actions_Sites.{site_of}
use Rattle.ctr_paged.specs.Shown.{IsShown}
use Rattle.ctr_walk.specs.base_Base.{IsSoundImage}
use Rattle.ctr_walk.specs.store_Store.{View}
use Rattle.ctr_walk.specs.OneRecord.{HasRoomForOne}
use Rattle.ctr_txn.specs.Held.{TxnHeld, TxnsHeld, txn_of, scene_with, IsOneOfEight, IsReading, IsWriting, HasNumberRoom}
use Rattle.ctr_txn.specs.Steps.{SetsTxn, DrawsOne, AsksOne, txn_drawn, txn_asked}

-- The next number to be drawn is that of the store's tables.
abbrev pub IsOverStore : {D : Type 0} → TxnsHeld → View D → Type 0
IsOverStore a v = a.numbers.next ≡ v.meta.tables.next

-- a session may draw its number
pub record MayDraw {D : Type 0} (s : ℕ) (a : TxnsHeld) (v : View D) : Type 0 where
  pub one : IsOneOfEight s
  pub reader : IsReading s a
  pub over : IsOverStore a v
  pub numbers : HasNumberRoom a
  pub room : HasRoomForOne 1 0 v

-- a session may end its transaction, by a commit that is asked for or by a rollback's mark
pub record MayEnd {D : Type 0} (s : ℕ) (a : TxnsHeld) (v : View D) : Type 0 where
  pub one : IsOneOfEight s
  pub writer : IsWriting s a
  pub over : IsOverStore a v
  pub room : HasRoomForOne 0 0 v

-- The session has drawn the next number; or the call failed, and nothing has changed.
abbrev pub DrawsFor : ℕ → TxnsHeld → TxnsHeld → Result ℕ StoreFault → Type 0
DrawsFor s old new result = OnOk result (DrawsOne old.numbers new.numbers
    × ((t : TxnHeld) → txn_of s old ≡ Some t
    → SetsTxn s (Some (txn_drawn old.numbers.next t)) old new))
    × OnErr result (new ≡ old)

-- The session has asked for its commit, by a statement, with the next commit number; or nothing has
-- changed.
abbrev pub AsksFor : ℕ → ℕ → TxnsHeld → TxnsHeld → Result ℕ StoreFault → Type 0
AsksFor s n old new result = IfOk result (λ k. (k ≡ length old.numbers.commits + 1)
    × ((t : TxnHeld) → txn_of s old ≡ Some t → AsksOne t.session.me old.numbers new.numbers
    × SetsTxn s (Some (txn_asked (record { k = k; statement = n }) t)) old new))
    × OnErr result (new ≡ old)

-- The session's transaction has ended; or nothing has changed.
abbrev pub EndsFor : {T : Type 0} → ℕ → TxnsHeld → TxnsHeld → Result T StoreFault → Type 0
EndsFor s old new result = OnOk result (SetsTxn s None old new × (new.numbers ≡ old.numbers))
    × OnErr result (new ≡ old)

-- A state that is shown before a call, and the one that is shown after it.
abbrev pub ShowsBehind : {D T : Type 0} → Image → Ghosts D → TxnsHeld → TxnsHeld → View D → View D
    → Result T StoreFault → ℕ → State → State → Type 0
ShowsBehind first g old new a b result low before after = IsTrue g.tells → IsSoundImage first
    → IsShown low (site_of a.now) (scene_with old before)
    → OnOk result (IsShown low (site_of b.now) (scene_with new after))

-- What is shown once the session has asked for its commit.
abbrev pub after_asking : ℕ → Transaction → State → State
after_asking s t state =
    with_transaction s (record t { asked = Some (length state.asked + 1) })
    (record state { asked = state.asked ++ t.own ∷ [] })

-- What is shown once a session's commit is answered.
abbrev pub answered_state : ℕ → State → State
answered_state s state =
    without_transaction s (record state { answered = state.answered + 1 })
