-- What the cleaner may take away: a key that no session has locked, and a name that none uses or
-- holds, have no version of a session that is at work.
use Rattle.std.specs.Prelude.{◌≡◌, ℕ, ℤ, false, List, [], ◌∷◌, length, Some, None}
use Rattle.std.specs.Ordering.{nat_cmp}
use Rattle.std.specs.FinMap.Entries.{find}
use Rattle.ctr_model.specs.declared.state.State.{State}
use Rattle.ctr_model.specs.Refusals.{first_session, has_lock, is_busy}
use Rattle.ctr_versions.specs.Chains.{Numbers, value_seen, by}
use Rattle.ctr_versions.specs.Xids.{number_of}
use Rattle.ctr_versions.specs.Versions.{Made, names_at, rows_of}
use Rattle.ctr_versions.specs.Engine.{SessionHeld}
use Rattle.ctr_versions.specs.Laws.{IsNobodys}
use Rattle.ctr_legal.specs.Kept.{IsKept}
use Rattle.ctr_sessions.specs.Sessions.{Begun, ShowsBegun}

-- no session is within its rollback
abbrev pub AreCalm : Begun → Type 0
AreCalm db = (s : ℕ) (session : SessionHeld) → find nat_cmp s db.engine.sessions ≡ Some session
    → session.undoing ≡ false

-- the head of the chain isn't by a committed transaction
abbrev pub HasOpenHead : {V : Type 0} → Numbers → List (ℕ × V) → Type 0
HasOpenHead number [] = Unit {0}
HasOpenHead number (h ∷ rest) = number h.0 ≡ None

-- An open head of a key that no session has locked, in the table of a name that none holds, is
-- nobody's: it was left by a rollback, or by a crash.
abbrev pub FreeRowsAreNobodys : Type 0
FreeRowsAreNobodys = (low : ℕ) (db : Begun) (state : State) (name : List ℕ) (made : Made) (key : ℤ)
    → ShowsBegun low db state → IsKept state → AreCalm db
    → value_seen (by (number_of db.engine.xids) (length state.asked))
    (names_at db.engine.versions name) ≡ Some made
    → first_session (has_lock name key) state.sessions ≡ None
    → first_session (is_busy false name) state.sessions ≡ None
    → HasOpenHead (number_of db.engine.xids) (rows_of db.engine.versions made.id key)
    → IsNobodys db.engine (rows_of db.engine.versions made.id key)

-- an open head of a name that no session holds is nobody's
abbrev pub FreeNamesAreNobodys : Type 0
FreeNamesAreNobodys = (low : ℕ) (db : Begun) (state : State) (name : List ℕ)
    → ShowsBegun low db state → IsKept state → AreCalm db
    → first_session (is_busy false name) state.sessions ≡ None
    → HasOpenHead (number_of db.engine.xids) (names_at db.engine.versions name)
    → IsNobodys db.engine (names_at db.engine.versions name)
