-- What an engine answers is what the model answers, and what locks owe to a write stands wherever a
-- legal tape leads.
use Rattle.std.specs.Prelude.{◌≡◌, ℕ, ◌<◌, ℤ, List, [], ◌∷◌, Some, None}
use Rattle.ctr_types.specs.declared.statement.Statement.{Statement}
use Rattle.ctr_types.specs.declared.tape.Act.{Act}
use Rattle.ctr_model.specs.declared.state.State.{State}
use Rattle.ctr_model.specs.declared.state.Transaction.{Transaction}
use Rattle.ctr_model.specs.State.{transaction_of, view}
use Rattle.ctr_model.specs.Refusals.{table_of, key_written, busy_by, locked_by, refusal_of, write_refusal}
use Rattle.ctr_model.specs.Reply.{rows_read, changes_of}
use Rattle.ctr_versions.specs.Keys.{row_written}
use Rattle.ctr_versions.specs.Xids.{number_of}
use Rattle.ctr_versions.specs.Versions.{Made, IsTableOf}
use Rattle.ctr_versions.specs.Steps.{IsFreeKey, IsFreeName, AreUntouched}
use Rattle.ctr_legal.specs.Kept.{IsKept}
use Rattle.ctr_legal.specs.Ready.{HasKey}
use Rattle.ctr_sessions.specs.Sessions.{ShowsBegun, IsIn}
use Rattle.ctr_sessions.specs.Answers.{Seat, made_seen, columns_seen, row_seen, rows_seen, refusal_seen, write_refused, row_left}

-- the locks say of the statement's table what the model says
pub record SaysLocks (state : State) (s : ℕ) (statement : Statement) (seat : Seat) : Type 0 where
  pub busy : (name : List ℕ) → table_of statement ≡ Some name
      → seat.busy ≡ busy_by state s statement name
  pub locked : (name : List ℕ) (key : ℤ) → table_of statement ≡ Some name
      → seat.locked key ≡ locked_by state s name key

-- The session's seat: where it stands in an engine that shows the state, on which a legal tape has
-- led.
pub record IsSeat (low : ℕ) (state : State) (s : ℕ) (me : Transaction) (seat : Seat)
    : Type 0 where
  pub shows : ShowsBegun low seat.db state
  pub kept : IsKept state
  pub here : IsIn low seat.db state s me seat.session
  pub since : seat.since ≡ me.snapshot

-- a Lock and a Read are refused as the model refuses them
abbrev pub RefusalsAreTheModels : Type 0
RefusalsAreTheModels = (low : ℕ) (state : State) (s : ℕ) (me : Transaction)
    (seat : Seat) (a : Act) (statement : Statement)
    → IsSeat low state s me seat → SaysLocks state s statement seat
    → refusal_seen seat a statement ≡ refusal_of state s me a statement

-- a Read gives the rows of the session's view
abbrev pub RowsAreTheViews : Type 0
RowsAreTheViews = (low : ℕ) (state : State) (s : ℕ) (me : Transaction) (seat : Seat)
    (statement : Statement) → IsSeat low state s me seat
    → rows_seen seat statement ≡ rows_read (view state me) statement

-- a Write of a row is refused as the model refuses it, by what is seen under the name at the key
abbrev pub WritesAreRefusedAlike : Type 0
WritesAreRefusedAlike = (low : ℕ) (state : State) (s : ℕ) (me : Transaction)
    (seat : Seat) (statement : Statement) (name : List ℕ) (key : ℤ)
    → IsSeat low state s me seat → table_of statement ≡ Some name
    → key_written statement ≡ Some key
    → write_refused (columns_seen (made_seen seat name)) statement
    (row_seen seat (made_seen seat name) key) ≡ write_refusal (view state me) statement

-- A write that isn't refused leaves a row that is the model's one change.
abbrev pub WritesAreOneChange : Type 0
WritesAreOneChange = (low : ℕ) (state : State) (s : ℕ) (me : Transaction)
    (seat : Seat) (statement : Statement) (name : List ℕ) (key : ℤ)
    → IsSeat low state s me seat → table_of statement ≡ Some name
    → key_written statement ≡ Some key → write_refusal (view state me) statement ≡ None
    → changes_of (view state me) statement ≡ row_written name key
    (row_left (columns_seen (made_seen seat name)) statement
    (row_seen seat (made_seen seat name) key)) ∷ []

-- A key under a session's lock: the table that it sees is its own until it ends, and nobody else
-- has written the key.
abbrev pub LocksKeepKeys : Type 0
LocksKeepKeys = (low : ℕ) (state : State) (s : ℕ) (me : Transaction) (seat : Seat)
    (name : List ℕ) (key : ℤ) (made : Made)
    → IsSeat low state s me seat → made_seen seat name ≡ Some made
    → HasKey me name (Some key) → 0 < seat.session.me
    → IsTableOf (number_of seat.db.engine.xids) seat.db.engine.versions seat.session.me me.snapshot
    name made.id × IsFreeKey seat.db.engine state.sessions s made.id key

-- a name that a session holds: nobody else has made or dropped a table of it
abbrev pub HoldsKeepNames : Type 0
HoldsKeepNames = (low : ℕ) (state : State) (s : ℕ) (me : Transaction) (seat : Seat)
    (name : List ℕ) → IsSeat low state s me seat → HasKey me name None
    → IsFreeName seat.db.engine state.sessions s name

-- who made or dropped a table has it alone until the commit is answered
abbrev pub ChangedTablesAreAlone : Type 0
ChangedTablesAreAlone = (state : State) (s : ℕ) (me : Transaction) → IsKept state
    → transaction_of state s ≡ Some me → me.asked ≡ None
    → AreUntouched state.sessions s me
