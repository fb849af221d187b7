-- The steps of sessions: what each leaves of an engine and of the numbers of its snapshots, and
-- that both then show the model's next state.
use Rattle.std.specs.Prelude.{◌≡◌, ℕ, ◌+◌, ◌<◌, ℤ, Bool, true, false, List, [], ◌∷◌, ◌++◌, length, Option, Some}
use Rattle.std.specs.Ordering.{nat_cmp}
use Rattle.std.specs.FinMap.Entries.{put, find}
use Rattle.ctr_types.specs.declared.value.Row.{Row}
use Rattle.ctr_model.specs.declared.database.Change.{Change}
use Rattle.ctr_model.specs.Maps.{without}
use Rattle.ctr_model.specs.declared.state.State.{State}
use Rattle.ctr_model.specs.declared.state.Transaction.{Transaction}
use Rattle.ctr_model.specs.State.{transaction_of, with_transaction, without_transaction, begun}
use Rattle.ctr_versions.specs.Changes.{write}
use Rattle.ctr_versions.specs.Xids.{number_of}
use Rattle.ctr_versions.specs.Versions.{Made, names_at, IsUnmadeTable}
use Rattle.ctr_versions.specs.Engine.{SessionHeld, EngineHeld, ShowsState}
use Rattle.ctr_versions.specs.Steps.{engine_begun, engine_drawn, engine_asked, engine_ended, engine_answered, engine_rolled_back, AreUntouched}
use Rattle.ctr_versions.specs.Laws.{IsGranted, with_own, SetsRow, SetsName}
use Rattle.ctr_sessions.specs.Sessions.{Begun, ShowsBegun, IsIn}

-- ---- begin, lock, read

-- the session begins, with a snapshot of what is answered
abbrev pub BeginShows : Type 0
BeginShows = (low : ℕ) (old new : Begun) (state : State) (s : ℕ) → ShowsBegun low old state
    → new.engine ≡ engine_begun s old.engine
    → new.since ≡ put nat_cmp s old.engine.answered old.since
    → ShowsBegun low new (with_transaction s (begun state.answered) state)

-- what a granted Lock leaves of the engine: a transaction's number is drawn with its first one
abbrev pub LockLeaves : Bool → ℕ → SessionHeld → EngineHeld → EngineHeld → Type 0
LockLeaves true s session old new = new ≡ old
LockLeaves false s session old new = new ≡ engine_drawn s session old

-- a Lock is granted, which makes the transaction a writer
abbrev pub LockShows : Type 0
LockShows = (low : ℕ) (old new : Begun) (state : State) (s : ℕ) (me t : Transaction)
    (session : SessionHeld) → ShowsBegun low old state → IsIn low old state s me session
    → IsGranted me t → t.writer ≡ true → (me.writer ≡ false → me.own ≡ [])
    → LockLeaves me.writer s session old.engine new.engine → new.since ≡ old.since
    → ShowsBegun low new (with_transaction s t state)

-- a Read gives its rows, and the transaction uses the table: the engine is as it was
abbrev pub ReadShows : Type 0
ReadShows = (low : ℕ) (db : Begun) (state : State) (s : ℕ) (me t : Transaction)
    (session : SessionHeld) → ShowsBegun low db state → IsIn low db state s me session
    → IsGranted me t → t.writer ≡ me.writer → ShowsBegun low db (with_transaction s t state)

-- ---- writes

-- The law of a row that is written: what is shown then is the state with that change.
abbrev pub RowShows : Type 0
RowShows = (low : ℕ) (old new : Begun) (state : State) (s : ℕ) (me : Transaction) (c : Change)
    (id : ℕ) (key : ℤ) (chain : List (ℕ × Option Row)) → ShowsBegun low old state
    → transaction_of state s ≡ Some me → SetsRow old.engine new.engine id key chain
    → new.since ≡ old.since → ShowsState low new.engine (with_transaction s (with_own c me) state)
    → ShowsBegun low new (with_transaction s (with_own c me) state)

-- a table is made, with a number that no table has, or dropped
abbrev pub NameShows : Type 0
NameShows = (low : ℕ) (old new : Begun) (state : State) (s : ℕ) (me : Transaction) (c : Change)
    (name : List ℕ) (x : ℕ) (v : Option Made) → ShowsBegun low old state
    → transaction_of state s ≡ Some me
    → SetsName old.engine new.engine name
    (write (number_of old.engine.xids) x v (names_at old.engine.versions name))
    → ((made : Made) → v ≡ Some made → IsUnmadeTable made.id old.engine.versions)
    → new.since ≡ old.since → ShowsState low new.engine (with_transaction s (with_own c me) state)
    → ShowsBegun low new (with_transaction s (with_own c me) state)

-- ---- the end

-- a commit is asked for
abbrev pub AskShows : Type 0
AskShows = (low : ℕ) (old new : Begun) (state : State) (s : ℕ) (me : Transaction)
    (session : SessionHeld) → ShowsBegun low old state → IsIn low old state s me session
    → me.writer ≡ true → AreUntouched state.sessions s me
    → new.engine ≡ engine_asked session.me old.engine → new.since ≡ old.since
    → ShowsBegun low new (with_transaction s (record me { asked = Some (length state.asked + 1) })
    (record state { asked = state.asked ++ me.own ∷ [] }))

-- The law of a commit that is answered: what is shown then is the state in which it is answered.
abbrev pub AnswerShows : Type 0
AnswerShows = (low : ℕ) (old new : Begun) (state : State) (s : ℕ) → ShowsBegun low old state
    → state.answered < length state.asked → new.engine ≡ engine_answered s old.engine
    → new.since ≡ without nat_cmp s old.since
    → ShowsBegun low new
    (without_transaction s (record state { answered = state.answered + 1 }))

-- a transaction ends that wrote nothing
abbrev pub EndShows : Type 0
EndShows = (low : ℕ) (old new : Begun) (state : State) (s : ℕ) → ShowsBegun low old state
    → new.engine ≡ engine_ended s old.engine → new.since ≡ without nat_cmp s old.since
    → ShowsBegun low new (without_transaction s state)

-- a transaction is rolled back: one mark
abbrev pub RollbackShows : Type 0
RollbackShows = (low : ℕ) (old new : Begun) (state : State) (s : ℕ) (me : Transaction)
    (session : SessionHeld) → ShowsBegun low old state → IsIn low old state s me session
    → me.writer ≡ true → new.engine ≡ engine_rolled_back s session.me old.engine
    → new.since ≡ without nat_cmp s old.since → ShowsBegun low new (without_transaction s state)

-- Room is taken, or a start that memory was refused to is taken back: no session moves, each name
-- has its chain, and the state is the one of before.
abbrev pub RoomShows : Type 0
RoomShows = (low : ℕ) (old new : Begun) (state : State) → ShowsBegun low old state
    → new.engine.sessions ≡ old.engine.sessions
    → ((s : ℕ) → find nat_cmp s new.since ≡ find nat_cmp s old.since)
    → ((name : List ℕ)
    → names_at new.engine.versions name ≡ names_at old.engine.versions name)
    → ShowsState low new.engine state → ShowsBegun low new state
