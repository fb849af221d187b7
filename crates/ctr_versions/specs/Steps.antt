-- What the steps of a session do to an engine, and what the locks owe to them.
use Rattle.std.specs.Prelude.{◌≡◌, ℕ, ◌+◌, ℤ, true, false, ◌==◌, List, Some, None, is_some}
use Rattle.std.specs.Ordering.{nat_cmp}
use Rattle.std.specs.FinMap.Entries.{find, put}
use Rattle.ctr_model.specs.declared.state.Transaction.{Transaction}
use Rattle.ctr_model.specs.Maps.{without}
use Rattle.ctr_versions.specs.Chains.{written_by}
use Rattle.ctr_versions.specs.Keys.{schema_change, row_change, left_by}
use Rattle.ctr_versions.specs.Xids.{taken, drawn, asked, aborted, forgotten}
use Rattle.ctr_versions.specs.Versions.{Made, names_at, rows_of}
use Rattle.ctr_versions.specs.Engine.{SessionHeld, EngineHeld, IsCalm}

-- ---- steps, as functions

-- the session begins a transaction
abbrev pub engine_begun : ℕ → EngineHeld → EngineHeld
engine_begun s engine =
    let session : SessionHeld = record {
      me = 0;
      snapshot = taken engine.xids engine.answered;
      undoing = false;
    } in record engine { sessions = put nat_cmp s session engine.sessions }

-- the session's number is drawn, at its first lock
abbrev pub engine_drawn : ℕ → SessionHeld → EngineHeld → EngineHeld
engine_drawn s session engine = record engine {
  xids = drawn engine.xids;
  sessions = put nat_cmp s (record session { me = engine.xids.next }) engine.sessions;
}

-- the transaction of this number asks for its commit
abbrev pub engine_asked : ℕ → EngineHeld → EngineHeld
engine_asked me engine = record engine { xids = asked me engine.xids }

-- the session's transaction ends: it wrote nothing
abbrev pub engine_ended : ℕ → EngineHeld → EngineHeld
engine_ended s engine = record engine { sessions = without nat_cmp s engine.sessions }

-- The engine once a session's commit is answered.
abbrev pub engine_answered : ℕ → EngineHeld → EngineHeld
engine_answered s engine = record engine {
  sessions = without nat_cmp s engine.sessions;
  answered = engine.answered + 1;
}

-- The engine once a session's transaction is rolled back, which is one mark.
abbrev pub engine_rolled_back : ℕ → ℕ → EngineHeld → EngineHeld
engine_rolled_back s me engine = record engine {
  xids = aborted me engine.xids;
  sessions = without nat_cmp s engine.sessions;
}

-- one that was rolled back is forgotten
abbrev pub engine_forgotten : ℕ → EngineHeld → EngineHeld
engine_forgotten x engine = record engine { xids = forgotten x engine.xids }

-- ---- what the locks owe

-- nobody else has written the key, or made its table
abbrev pub IsFreeKey : EngineHeld → List (ℕ × Transaction) → ℕ → ℕ → ℤ → Type 0
IsFreeKey engine transactions s id key =
    (r : ℕ) (u : Transaction) (b : SessionHeld) → (r == s) ≡ false
    → find nat_cmp r transactions ≡ Some u → find nat_cmp r engine.sessions ≡ Some b → IsCalm b u
    → (written_by b.me (rows_of engine.versions id key) ≡ None)
    × ((name : List ℕ) (made : Made)
    → written_by b.me (names_at engine.versions name) ≡ Some (Some made) → made.id ≡ id → ⊥)

-- nobody else has made or dropped a table of the name
abbrev pub IsFreeName : EngineHeld → List (ℕ × Transaction) → ℕ → List ℕ → Type 0
IsFreeName engine transactions s name =
    (r : ℕ) (u : Transaction) (b : SessionHeld) → (r == s) ≡ false
    → find nat_cmp r transactions ≡ Some u → find nat_cmp r engine.sessions ≡ Some b → IsCalm b u
    → written_by b.me (names_at engine.versions name) ≡ None

-- nobody else has written a row of a table that the transaction made or dropped
abbrev pub AreUntouched : List (ℕ × Transaction) → ℕ → Transaction → Type 0
AreUntouched transactions s t =
    (r : ℕ) (u : Transaction) → (r == s) ≡ false → find nat_cmp r transactions ≡ Some u
    → (name : List ℕ) (key : ℤ) → is_some (left_by (schema_change name) t.own) ≡ true
    → left_by (row_change name key) u.own ≡ None
