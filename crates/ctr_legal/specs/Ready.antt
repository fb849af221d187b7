-- What is known of a session between two acts, and what a reply tells of the state in which it was
-- given.
use Rattle.std.specs.Prelude.{◌≡◌, ℕ, ℤ, ◌+◌, true, false, List, length, Option, Some, None, is_some, is_none, slice_get}
use Rattle.ctr_types.specs.declared.statement.Statement.{Statement}
use Rattle.ctr_types.specs.declared.statement.Line.{Line}
use Rattle.ctr_types.specs.declared.tape.Act.{Act}
use Rattle.ctr_types.specs.declared.tape.Act.TheVariants as act
use Rattle.ctr_types.specs.declared.tape.Reply.{Reply}
use Rattle.ctr_types.specs.declared.tape.Reply.TheVariants as reply
use Rattle.ctr_model.specs.Database.{table_at}
use Rattle.ctr_model.specs.declared.state.State.{State}
use Rattle.ctr_model.specs.declared.state.Transaction.{Transaction}
use Rattle.ctr_model.specs.State.{has_name, view, transaction_of}
use Rattle.ctr_model.specs.Refusals.{table_of, key_written, changes_schema, has_lock, refusal_of, write_refusal}
use Rattle.ctr_model.specs.declared.tape.Point.{Point}
use Rattle.ctr_model.specs.Tape.{progress_of, statement_of, acts_of}
use Rattle.ctr_legal.specs.Kept.{IsKept}

-- ---- a statement that was granted its lock

-- the transaction has the lock of the key and uses its table; where there is no key it holds the
-- name
abbrev pub HasKey : Transaction → List ℕ → Option ℤ → Type 0
HasKey t name None = has_name name t.holds ≡ true
HasKey t name (Some key) = (has_lock name key t ≡ true) × (has_name name t.uses ≡ true)

-- The statement writes, and the transaction was granted its lock: it is a writer that hasn't asked
-- for its commit, and it sees the table where the statement writes a row of it.
pub record MayWrite (state : State) (t : Transaction) (statement : Statement) : Type 0 where
  pub locks : changes_schema statement ≡ is_none (key_written statement)
  pub unasked : t.asked ≡ None
  pub writer : t.writer ≡ true
  pub under : (name : List ℕ) → table_of statement ≡ Some name
      → HasKey t name (key_written statement)
  pub there : (name : List ℕ) → table_of statement ≡ Some name
      → is_some (key_written statement) ≡ true → is_some (table_at (view state t) name) ≡ true

-- ---- what a reply tells

-- the act was granted, as nothing speaks against it
pub record IsUnrefused (state : State) (s : ℕ) (me : Transaction) (a : Act) (statement : Statement)
    : Type 0 where
  pub unasked : me.asked ≡ None
  pub none : refusal_of state s me a statement ≡ None

-- What a reply to a session in this transaction tells of the state in which it was given, where the
-- session was ready for the act. None begins another there, and none releases a name.
abbrev pub Tells : State → ℕ → Transaction → Statement → Act → Reply → Type 0
Tells state s me statement a (reply.Began n) = ⊥
Tells state s me statement a reply.Granted = (a ≡ act.Lock)
    × (changes_schema statement ≡ is_none (key_written statement))
    × IsUnrefused state s me act.Lock statement
Tells state s me statement a (reply.Rows rows) = (a ≡ act.Read)
    × IsUnrefused state s me act.Read statement
Tells state s me statement a reply.Done = (a ≡ act.Write) × MayWrite state me statement
    × (write_refusal (view state me) statement ≡ None)
Tells state s me statement a (reply.Asked k) = (a ≡ act.Ask) × (me.asked ≡ None)
    × (me.writer ≡ true) × (k ≡ length state.asked + 1)
Tells state s me statement a reply.ReadOnly = (a ≡ act.Ask) × (me.asked ≡ None)
    × (me.writer ≡ false)
Tells state s me statement a (reply.Answered k) = (a ≡ act.Answer)
    × (me.asked ≡ Some (state.answered + 1))
Tells state s me statement a reply.RolledBack = (a ≡ act.Rollback) × (me.asked ≡ None)
Tells state s me statement a reply.Released = ⊥
Tells state s me statement a (reply.Refused why) = me.asked ≡ None

-- What a reply tells of a session in no transaction, by the act that it answers.
abbrev pub TellsOutside : State → Act → Reply → Type 0
TellsOutside state a (reply.Began n) = (a ≡ act.Begin) × (n ≡ state.answered)
TellsOutside state a reply.Granted = ⊥
TellsOutside state a (reply.Rows rows) = ⊥
TellsOutside state a reply.Done = ⊥
TellsOutside state a (reply.Asked k) = ⊥
TellsOutside state a reply.ReadOnly = ⊥
TellsOutside state a (reply.Answered k) = ⊥
TellsOutside state a reply.RolledBack = ⊥
TellsOutside state a reply.Released = ⊥
TellsOutside state a (reply.Refused why) = Unit {0}

-- What a reply tells of a session, whether it is in a transaction or in none.
abbrev pub TellsOf : State → ℕ → Option Transaction → Statement → Act → Reply → Type 0
TellsOf state s None statement a r = TellsOutside state a r
TellsOf state s (Some me) statement a r = Tells state s me statement a r

-- ---- between two acts

-- A session is in no transaction, or in one that hasn't asked for its commit.
abbrev pub IsUnasked : Option Transaction → Type 0
IsUnasked None = Unit {0}
IsUnasked (Some t) = t.asked ≡ None

-- A session is in a transaction that may make the statement's write.
abbrev pub MayWriteIn : State → Statement → Option Transaction → Type 0
MayWriteIn state statement None = ⊥
MayWriteIn state statement (Some t) = MayWrite state t statement

-- What is known of a session's transaction before an act of its statement: before a Write that its
-- lock was granted, and else, but before an Answer, that it hasn't asked for its commit.
abbrev pub IsReady : State → Statement → Act → Option Transaction → Type 0
IsReady state statement act.Begin t = IsUnasked t
IsReady state statement act.Read t = IsUnasked t
IsReady state statement act.Lock t =
    (changes_schema statement ≡ is_none (key_written statement)) × IsUnasked t
IsReady state statement act.Write t = MayWriteIn state statement t
IsReady state statement act.Ask t = IsUnasked t
IsReady state statement act.Answer t = Unit {0}
IsReady state statement act.Rollback t = IsUnasked t
IsReady state statement (act.Release name) t = ⊥

-- An act of the statement is the session's next, where the script has one more statement for it.
pub record IsNext (lines : List Line) (p : Point) (s : ℕ) (statement : Statement) (a : Act)
    : Type 0 where
  pub given : statement_of lines s ((progress_of p s).finished + 1) ≡ Some statement
  pub next_act : slice_get (acts_of p.state s statement) (progress_of p s).made ≡ Some a

-- each session is ready for its next act
abbrev pub AreReady : List Line → Point → Type 0
AreReady lines p = (s : ℕ) (statement : Statement) (a : Act) → IsNext lines p s statement a
    → IsReady p.state statement a (transaction_of p.state s)

-- a session that has asked for its commit has the answer before it
abbrev pub AreWaiting : List Line → Point → Type 0
AreWaiting lines p = (s : ℕ) (t : Transaction) (k : ℕ) → transaction_of p.state s ≡ Some t
    → t.asked ≡ Some k → (statement : Statement) × IsNext lines p s statement act.Answer

-- what holds wherever a legal tape leads
pub record IsReached (lines : List Line) (p : Point) : Type 0 where
  pub kept : IsKept p.state
  pub ready : AreReady lines p
  pub waiting : AreWaiting lines p
