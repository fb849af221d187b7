-- One law for each change: the engine that it leaves shows the model's next state. A public call
-- whose engine goes from old to new promises its law of these two; how it keeps them isn't spoken
-- of.
use Rattle.std.specs.Prelude.{◌≡◌, ℕ, ◌+◌, ◌<◌, ◌≤◌, ℤ, Bool, true, false, List, [], ◌∷◌, ◌++◌, length, drop, Option, Some, None, if◌then◌else◌}
use Rattle.std.specs.List.{AllByRecursion, list_any}
use Rattle.std.specs.Ordering.{nat_cmp}
use Rattle.std.specs.FinMap.Entries.{find}
use Rattle.ctr_model.specs.types_Row.{Row}
use Rattle.ctr_model.specs.types_Statement.{Statement}
use Rattle.ctr_model.specs.types_Act_TheVariants as act
use Rattle.ctr_model.specs.types_Reply_TheVariants as reply
use Rattle.ctr_snap.specs.Seeing.{has, least, named}
use Rattle.ctr_model.specs.declared.database.Change.{Change}
use Rattle.ctr_model.specs.declared.state.State.{State}
use Rattle.ctr_model.specs.declared.state.Transaction.{Transaction}
use Rattle.ctr_model.specs.State.{transaction_of, with_transaction, rows_at, view}
use Rattle.ctr_model.specs.Refusals.{is_create_of, schema_changed_by, row_changed_by}
use Rattle.ctr_model.specs.Reply.{next_inside, next_outside}
use Rattle.ctr_versions.specs.Chains.{value_seen, by, newest_since, IsUnwritten}
use Rattle.ctr_versions.specs.Keys.{row_written, schema_writes, row_writes}
use Rattle.ctr_versions.specs.Xids.{Xids, number_of, unanswered}
use Rattle.ctr_versions.specs.Versions.{Made, name_written, names_at, rows_of, database_seen, schemas, IsTableSince, IsOrdered, RowsSet, NamesSet, IsTableOf}
use Rattle.ctr_versions.specs.Engine.{SessionHeld, EngineHeld, session_sees, IsCalm, ShowsSession, ShowsState}
use Rattle.ctr_versions.specs.Steps.{IsFreeKey, IsFreeName, AreUntouched}

-- ---- the session that acts

-- the number of what a look-up of a session found
abbrev pub me_found : Option SessionHeld → ℕ
me_found None = 0
me_found (Some session) = session.me

-- the number that a session has drawn, or 0
abbrev pub me_of : ℕ → EngineHeld → ℕ
me_of s engine = me_found (find nat_cmp s engine.sessions)

-- what the session sees that a look-up found; where none was, nothing
abbrev pub sees_found : Xids → Option SessionHeld → ℕ → Bool
sees_found xids None x = false
sees_found xids (Some session) x = session_sees xids session x

-- The transactions that a session sees, by the engine that is held.
abbrev pub sees_of : ℕ → EngineHeld → ℕ → Bool
sees_of s engine = sees_found engine.xids (find nat_cmp s engine.sessions)

-- the session is in a transaction that has drawn its number, is open and isn't within its rollback
pub record IsOpenWriter (s : ℕ) (engine : EngineHeld) : Type 0 where
  pub session : SessionHeld
  pub there : find nat_cmp s engine.sessions ≡ Some session
  pub positive : 0 < session.me
  pub live : has session.me engine.xids.live ≡ true
  pub calm : session.undoing ≡ false

-- the transaction with one change more
abbrev pub with_own : Change → Transaction → Transaction
with_own c t = record t { own = t.own ++ c ∷ [] }

-- a transaction that was granted something: its snapshot, changes and commit number are the old
-- ones
pub record IsGranted (old new : Transaction) : Type 0 where
  pub snapshot : new.snapshot ≡ old.snapshot
  pub own : new.own ≡ old.own
  pub asked : new.asked ≡ old.asked

-- ---- sessions

-- The law of a session that begins: the engine shows the state in which it began.
abbrev pub BeginKeeps : ℕ → EngineHeld → EngineHeld → Type 0
BeginKeeps s old new = (low : ℕ) (state : State) (statement : Option Statement)
    → ShowsState low old state
    → ShowsState low new (next_outside state s act.Begin statement (reply.Began state.answered))

-- A number is drawn with the first lock, before which nothing is written.
abbrev pub DrawKeeps : ℕ → EngineHeld → EngineHeld → Type 0
DrawKeeps s old new = (low : ℕ) (state : State) (t u : Transaction) → ShowsState low old state
    → transaction_of state s ≡ Some t → t.asked ≡ None → t.own ≡ [] → IsGranted t u
    → ShowsState low new (with_transaction s u state)

-- A row is written, or a tombstone, in the table of a name, where nobody else has written the key.
abbrev pub RowKeeps : ℕ → ℕ → ℤ → Option Row → EngineHeld → EngineHeld → Type 0
RowKeeps s id key v old new = (low : ℕ) (state : State) (t : Transaction) (table : List ℕ)
    → ShowsState low old state → transaction_of state s ≡ Some t → t.asked ≡ None
    → IsTableOf (number_of old.xids) old.versions (me_of s old) t.snapshot table id
    → IsFreeKey old state.sessions s id key
    → ShowsState low new (with_transaction s (with_own (row_written table key v) t) state)

-- A table is made, or dropped, where nobody else has made or dropped one of the name.
abbrev pub NameKeeps : ℕ → List ℕ → Option Made → EngineHeld → EngineHeld → Type 0
NameKeeps s name v old new = (low : ℕ) (state : State) (t : Transaction)
    → ShowsState low old state → transaction_of state s ≡ Some t → t.asked ≡ None
    → IsFreeName old state.sessions s name
    → ShowsState low new (with_transaction s (with_own (name_written name v) t) state)

-- A commit is asked for, where nobody else has written in a table that the transaction made or
-- dropped.
abbrev pub AskKeeps : ℕ → EngineHeld → EngineHeld → Type 0
AskKeeps s old new = (low : ℕ) (state : State) (t : Transaction) (statement : Option Statement)
    → ShowsState low old state → transaction_of state s ≡ Some t → t.asked ≡ None
    → AreUntouched state.sessions s t
    → ShowsState low new
    (next_inside state s t act.Ask statement (reply.Asked (length state.asked + 1)))

-- The law of a commit that is answered: the engine shows the state in which it is answered.
abbrev pub AnswerKeeps : ℕ → EngineHeld → EngineHeld → Type 0
AnswerKeeps s old new = (low : ℕ) (state : State) (t : Transaction) (statement : Option Statement)
    → ShowsState low old state
    → ShowsState low new
    (next_inside state s t act.Answer statement (reply.Answered (state.answered + 1)))

-- a transaction that wrote nothing ends, by a COMMIT or by a ROLLBACK
abbrev pub EndKeeps : ℕ → EngineHeld → EngineHeld → Type 0
EndKeeps s old new = (low : ℕ) (state : State) (t : Transaction) (statement : Option Statement)
    → ShowsState low old state
    → ShowsState low new (next_inside state s t act.Ask statement reply.ReadOnly)
    × ShowsState low new (next_inside state s t act.Rollback statement reply.RolledBack)

-- a transaction is rolled back
abbrev pub RollbackKeeps : ℕ → EngineHeld → EngineHeld → Type 0
RollbackKeeps s old new =
    (low : ℕ) (state : State) (t : Transaction) (statement : Option Statement)
    → ShowsState low old state → transaction_of state s ≡ Some t → t.asked ≡ None
    → ShowsState low new (next_inside state s t act.Rollback statement reply.RolledBack)

-- What is shown stays: room is taken, or a number is spent that no session has, or a transaction is
-- forgotten.
abbrev pub RoomKeeps : EngineHeld → EngineHeld → Type 0
RoomKeeps old new = (low : ℕ) (state : State) → ShowsState low old state → ShowsState low new state

-- ---- the cleaner

-- The state stays the one that is shown, from a low number on that may have risen.
abbrev pub CleaningKeeps : EngineHeld → EngineHeld → Type 0
CleaningKeeps old new = (low : ℕ) (state : State) → ShowsState low old state
    → (lower : ℕ) × ShowsState lower new state

-- no session has this number
abbrev pub IsNoSessions : List (ℕ × SessionHeld) → ℕ → Type 0
IsNoSessions sessions x = (s : ℕ) (session : SessionHeld) → find nat_cmp s sessions ≡ Some session
    → session.me ≡ x → ⊥

-- the head of a chain isn't by a session
abbrev pub IsNobodys : {V : Type 0} → EngineHeld → List (ℕ × Option V) → Type 0
IsNobodys engine [] = Unit {0}
IsNobodys engine (h ∷ rest) = IsNoSessions engine.sessions h.0

-- Where a key's head is nobody's, as it is where nobody has the key's lock, it gives way.
abbrev pub RevertKeeps : ℕ → ℤ → EngineHeld → EngineHeld → Type 0
RevertKeeps id key old new = (low : ℕ) (state : State) (made : Made) → made.id ≡ id
    → ShowsState low old state → IsNobodys old (rows_of old.versions id key)
    → ShowsState low new state

-- A name keeps what it shows when the head of its chain is reverted, whose transaction isn't
-- committed.
abbrev pub NameRevertKeeps : List ℕ → EngineHeld → EngineHeld → Type 0
NameRevertKeeps name old new = (low : ℕ) (state : State) → ShowsState low old state
    → IsNobodys old (names_at old.versions name) → ShowsState low new state

-- the table is dead: from a low number on no name is that table
abbrev pub IsDead : ℕ → ℕ → EngineHeld → Type 0
IsDead id low engine = (name : List ℕ) (made : Made) (j : ℕ) → made.id ≡ id → low ≤ j
    → value_seen (by (number_of engine.xids) j) (names_at engine.versions name) ≡ Some made → ⊥

-- A row of a dead table goes, where its head is nobody's.
abbrev pub DeadKeeps : ℕ → ℤ → EngineHeld → EngineHeld → Type 0
DeadKeeps id key old new = (low : ℕ) (state : State) → ShowsState low old state
    → IsDead id low old → IsNobodys old (rows_of old.versions id key) → ShowsState low new state

-- the numbers that live snapshots name: those of the sessions that aren't within their rollback
abbrev pub sessions_named : List (ℕ × SessionHeld) → List ℕ
sessions_named [] = []
sessions_named (e ∷ es) =
    if e.1.undoing then sessions_named es else named e.1.snapshot ++ sessions_named es

-- The low mark of an engine: the least of the next number, of those that are open or asked and not
-- answered, and of those that a live snapshot names.
abbrev pub mark_of : EngineHeld → ℕ
mark_of engine = least engine.xids.next
    (unanswered engine.xids engine.answered ++ sessions_named engine.sessions)

-- ---- what changes

-- the new engine is the old one but for the chain of a row
pub record SetsRow (old new : EngineHeld) (id : ℕ) (key : ℤ) (chain : List (ℕ × Option Row))
    : Type 0 where
  pub rest : new ≡ record old { versions = new.versions }
  pub set : RowsSet old.versions new.versions id key chain

-- the new engine is the old one but for the chain of a name
pub record SetsName (old new : EngineHeld) (name : List ℕ) (chain : List (ℕ × Option Made))
    : Type 0 where
  pub rest : new ≡ record old { versions = new.versions }
  pub set : NamesSet old.versions new.versions name chain

-- ---- what is shown

-- A lock, a use or a hold is granted to a transaction that draws no number with it: nothing in the
-- engine changes, and it shows the state with the transaction as it was granted.
abbrev pub GrantsAreShown : Type 0
GrantsAreShown = (low : ℕ) (engine : EngineHeld) (state : State) (s : ℕ) (t u : Transaction)
    → ShowsState low engine state → transaction_of state s ≡ Some t → IsGranted t u
    → ShowsState low engine (with_transaction s u state)

-- Whatever state the engine shows, a session that hasn't asked for its commit sees its view.
abbrev pub SessionsSeeTheirViews : Type 0
SessionsSeeTheirViews = (low : ℕ) (engine : EngineHeld) (state : State) (session : SessionHeld)
    (t : Transaction) → IsOrdered state.base → ShowsState low engine state
    → ShowsSession low state.answered engine.xids engine.versions session t → IsCalm session t
    → database_seen (session_sees engine.xids session) engine.versions ≡ view state t

-- Read by commit numbers, the versions have the rows at each number from the low one on.
abbrev pub RowsStandAtEachNumber : Type 0
RowsStandAtEachNumber = (low : ℕ) (engine : EngineHeld) (state : State) (j : ℕ)
    → IsOrdered state.base → ShowsState low engine state → low ≤ j
    → database_seen (by (number_of engine.xids) j) engine.versions ≡ rows_at state j

-- A table of this name was made or dropped since the snapshot exactly where its newest committed
-- version is newer, where none did so who asked and isn't answered: then its lock is refused for
-- the same commit.
abbrev pub NewerSchemasAreChanged : Type 0
NewerSchemasAreChanged = (low : ℕ) (engine : EngineHeld) (state : State) (me : Transaction)
    (name : List ℕ) → ShowsState low engine state → low ≤ me.snapshot → me.snapshot ≤ state.answered
    → AllByRecursion IsUnwritten (drop state.answered (schema_writes name state.asked))
    → newest_since (number_of engine.xids) me.snapshot (schemas (names_at engine.versions name))
    ≡ schema_changed_by state me name

-- A row was written since the snapshot exactly where its newest committed version is newer, in a
-- table that the transaction didn't make and nobody has changed, where none wrote it who asked and
-- isn't answered. The first committer wins.
abbrev pub NewerRowsAreChanged : Type 0
NewerRowsAreChanged = (low : ℕ) (engine : EngineHeld) (state : State) (me : Transaction)
    (name : List ℕ) (made : Made) (key : ℤ)
    → ShowsState low engine state → low ≤ me.snapshot → me.snapshot ≤ state.answered
    → list_any (is_create_of name) me.own ≡ false → schema_changed_by state me name ≡ None
    → IsTableSince low (number_of engine.xids) engine.versions name made me.snapshot
    → AllByRecursion IsUnwritten (drop state.answered (row_writes name key state.asked))
    → newest_since (number_of engine.xids) me.snapshot (rows_of engine.versions made.id key)
    ≡ row_changed_by state me name key
