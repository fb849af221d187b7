-- Versions with the sessions over them: what they show of a state of the model beside its rows.
use Rattle.std.specs.Prelude.{is_some, ◌≡◌, ℕ, ◌<◌, true, false, List, Some, None}
use Rattle.std.specs.Option.{option_map}
use Rattle.std.specs.Ordering.{nat_cmp}
use Rattle.std.specs.FinMap.Entries.{find}
use Rattle.ctr_model.specs.declared.state.State.{State}
use Rattle.ctr_model.specs.declared.state.Transaction.{Transaction}
use Rattle.ctr_model.specs.State.{transaction_of}
use Rattle.ctr_versions.specs.Versions.{HaveOwnTables, IsOrdered}
use Rattle.ctr_versions.specs.Engine.{SessionHeld, EngineHeld, ShowsSession, ShowsState}

-- An engine, and for each session in a transaction how many commits were answered when it began.
pub record Begun : Type 0 where
  pub engine : EngineHeld
  pub since : List (ℕ × ℕ)

-- a transaction's number is drawn with its first lock; 0 is none
pub record IsDrawnFor (session : SessionHeld) (t : Transaction) : Type 0 where
  pub writer : t.writer ≡ true → 0 < session.me
  pub reader : t.writer ≡ false → session.me ≡ 0

-- The engine shows the state, and its sessions are those of the state: each has the number of its
-- snapshot, and a number of its own from its first lock on.
pub record ShowsBegun (low : ℕ) (db : Begun) (state : State) : Type 0 where
  pub shows : ShowsState low db.engine state
  pub since : (s : ℕ) → find nat_cmp s db.since
      ≡ option_map (λ (t : Transaction). t.snapshot) (transaction_of state s)
  pub drawn : (s : ℕ) (t : Transaction) (session : SessionHeld) → transaction_of state s ≡ Some t
      → find nat_cmp s db.engine.sessions ≡ Some session → IsDrawnFor session t
  pub only : (s : ℕ) (session : SessionHeld) → find nat_cmp s db.engine.sessions ≡ Some session
      → is_some (transaction_of state s) ≡ true
  pub tables : HaveOwnTables db.engine.versions
  pub ordered : IsOrdered state.base

-- The session is in this transaction, which hasn't asked for its commit and isn't within its
-- rollback, and the engine has it so.
pub record IsIn (low : ℕ) (db : Begun) (state : State) (s : ℕ) (me : Transaction)
    (session : SessionHeld) : Type 0 where
  pub there : transaction_of state s ≡ Some me
  pub held : find nat_cmp s db.engine.sessions ≡ Some session
  pub shown : ShowsSession low state.answered db.engine.xids db.engine.versions session me
  pub unasked : me.asked ≡ None
  pub calm : session.undoing ≡ false
