-- What the others see of versions stays, whatever a session does but write.
use Rattle.std.specs.Prelude.{◌≡◌, ℕ, ℤ, ◌==◌, false, List, Some}
use Rattle.std.specs.Ordering.{nat_cmp}
use Rattle.std.specs.FinMap.Entries.{find}
use Rattle.ctr_model.specs.declared.state.State.{State}
use Rattle.ctr_model.specs.declared.state.Transaction.{Transaction}
use Rattle.ctr_model.specs.State.{transaction_of}
use Rattle.ctr_versions.specs.Chains.{value_seen}
use Rattle.ctr_versions.specs.Xids.{number_of}
use Rattle.ctr_versions.specs.Versions.{names_at, rows_of}
use Rattle.ctr_versions.specs.Engine.{SessionHeld, EngineHeld, ShowsState}
use Rattle.ctr_versions.specs.Steps.{engine_begun, engine_drawn, engine_asked, engine_ended, engine_answered, engine_rolled_back}
use Rattle.ctr_versions.specs.Laws.{me_of, sees_of, IsOpenWriter}

-- of each version another session in a transaction sees what it saw
abbrev pub OthersSeeAlike : ℕ → EngineHeld → EngineHeld → Type 0
OthersSeeAlike s old new = (low : ℕ) (state : State) (r : ℕ) (u : Transaction)
    → ShowsState low old state → (r == s) ≡ false → transaction_of state r ≡ Some u
    → (x : ℕ) → sees_of r new x ≡ sees_of r old x

-- So it is after each step of a session that writes no version, and where no session moves and each
-- transaction has the commit number that it had.
pub record ViewsStay : Type 0 where
  pub begun : (s : ℕ) (engine : EngineHeld) → OthersSeeAlike s engine (engine_begun s engine)
  pub drawn : (s : ℕ) (session : SessionHeld) (engine : EngineHeld)
      → OthersSeeAlike s engine (engine_drawn s session engine)
  pub asked : (s : ℕ) (engine : EngineHeld) → IsOpenWriter s engine
      → OthersSeeAlike s engine (engine_asked (me_of s engine) engine)
  pub ended : (s : ℕ) (engine : EngineHeld) → OthersSeeAlike s engine (engine_ended s engine)
  pub answered : (s : ℕ) (engine : EngineHeld) → OthersSeeAlike s engine (engine_answered s engine)
  pub renumbered : (s : ℕ) (old new : EngineHeld) → new.sessions ≡ old.sessions
      → ((x : ℕ) → number_of new.xids x ≡ number_of old.xids x) → OthersSeeAlike s old new
  pub rolled_back : (s : ℕ) (engine : EngineHeld) → IsOpenWriter s engine
      → OthersSeeAlike s engine (engine_rolled_back s (me_of s engine) engine)

-- the session sees the same tables and rows in both
pub record SeesAlike (s : ℕ) (old new : EngineHeld) : Type 0 where
  pub names : (name : List ℕ) → value_seen (sees_of s new) (names_at new.versions name)
      ≡ value_seen (sees_of s old) (names_at old.versions name)
  pub rows : (id : ℕ) (key : ℤ) → value_seen (sees_of s new) (rows_of new.versions id key)
      ≡ value_seen (sees_of s old) (rows_of old.versions id key)

-- a session that draws its number sees what it saw, as no version is by that number
abbrev pub DrawsSeeAlike : Type 0
DrawsSeeAlike = (low : ℕ) (engine : EngineHeld) (state : State) (s : ℕ) (session : SessionHeld)
    → ShowsState low engine state → find nat_cmp s engine.sessions ≡ Some session → session.me ≡ 0
    → SeesAlike s engine (engine_drawn s session engine)
