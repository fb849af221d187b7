-- Which tapes are legal: each reply is allowed at its point, and each session's acts are those of
-- its statements in order. And which are serial.
use Rattle.std.specs.Prelude.{◌≡◌, ◌⊎◌, zero, suc, ℕ, ◌+◌, ◌==◌, ◌≤◌, nat_le, Bool, true, false, ◌&&◌, IsTrue, List, [], ◌∷◌, ◌++◌, length, map, Option, Some, None, slice_get, if◌then◌else◌, option_and_then, unwrap_or}
use Rattle.std.specs.List.{filter}
use Rattle.std.specs.Ordering.{nat_cmp}
use Rattle.std.specs.FinMap.Entries.{put, find}
use Rattle.ctr_types.specs.declared.statement.Statement.{Statement}
use Rattle.ctr_types.specs.declared.statement.Statement.TheVariants as st
use Rattle.ctr_types.specs.declared.statement.Line.{Line}
use Rattle.ctr_types.specs.declared.tape.Act.{Act}
use Rattle.ctr_types.specs.declared.tape.Act.TheVariants as act
use Rattle.ctr_types.specs.declared.tape.Reply.{Reply}
use Rattle.ctr_types.specs.declared.tape.Reply.TheVariants as reply
use Rattle.ctr_types.specs.declared.tape.Entry.{Entry}
use Rattle.ctr_model.specs.Database.{Database}
use Rattle.ctr_model.specs.State.{State, Transaction, has_name, transaction_of, at_rest}
use Rattle.ctr_model.specs.Reply.{reply_to, next_state, MayStandFor}
pub use Rattle.ctr_model.specs.declared.tape.Progress.{Progress}
pub use Rattle.ctr_model.specs.declared.tape.Point.{Point}

-- The acts of a session's statement at a state, in order. Today they are the same at every state.
abbrev pub acts_of : State → ℕ → Statement → List Act
acts_of state s st.Begin = act.Begin ∷ []
acts_of state s st.Commit = act.Ask ∷ act.Answer ∷ []
acts_of state s st.Rollback = act.Rollback ∷ []
acts_of state s (st.Create table schema) = act.Lock ∷ act.Write ∷ []
acts_of state s (st.DropTable table) = act.Lock ∷ act.Write ∷ []
acts_of state s (st.Insert table values) = act.Lock ∷ act.Write ∷ []
acts_of state s (st.Select table at) = act.Read ∷ []
acts_of state s (st.Update table sets at) = act.Lock ∷ act.Write ∷ []
acts_of state s (st.Delete table at) = act.Lock ∷ act.Write ∷ []

-- a session's statements, in the order of the script
abbrev pub statements_of : ℕ → List Line → List Statement
statements_of s lines = map (λ l. l.statement) (filter (λ l. l.session == s) lines)

-- a session's statement of a number from 1
abbrev pub statement_of : List Line → ℕ → ℕ → Option Statement
statement_of lines s zero = None
statement_of lines s (suc n) = slice_get (statements_of s lines) n

-- ---- progress

-- how far a session is; one that isn't there has finished nothing
abbrev pub progress_of : Point → ℕ → Progress
progress_of p s = unwrap_or (find nat_cmp s p.progress) (record { finished = 0; made = 0 })

-- A refusal ends the statement, and so does a commit that took no number.
abbrev pub goes_on : Reply → Bool
goes_on (reply.Refused why) = false
goes_on reply.ReadOnly = false
goes_on r = true

-- one act more of these, or the statement is finished
abbrev pub advanced : List Act → Reply → Progress → Progress
advanced acts r p =
    if goes_on r && nat_le (p.made + 2) (length acts) then record p { made = p.made + 1 } else
    record { finished = p.finished + 1; made = 0 }

-- ---- one entry

-- commits are answered in the order in which they were asked, and to the session that asked
abbrev pub IsInTurn : State → ℕ → Act → Type 0
IsInTurn state s act.Begin = Unit {0}
IsInTurn state s act.Read = Unit {0}
IsInTurn state s act.Lock = Unit {0}
IsInTurn state s act.Write = Unit {0}
IsInTurn state s act.Ask = Unit {0}
IsInTurn state s act.Answer =
    option_and_then (λ (me : Transaction). me.asked) (transaction_of state s)
    ≡ Some (state.answered + 1)
IsInTurn state s act.Rollback = Unit {0}
IsInTurn state s (act.Release name) = Unit {0}

-- the reply to the act of the statement, or one that may stand in its place
abbrev pub Allowed : State → ℕ → Act → Statement → Reply → Type 0
Allowed state s a statement r =
    (r ≡ reply_to state s a (Some statement))
    ⊎ MayStandFor statement (reply_to state s a (Some statement)) r

-- the entry is the next act of this statement, the next of its session, with a reply that is
-- allowed
pub record IsActOf (statement : Statement) (p : Point) (e : Entry) : Type 0 where
  pub number : e.statement ≡ (progress_of p e.session).finished + 1
  pub next_act : slice_get (acts_of p.state e.session statement) (progress_of p e.session).made
      ≡ Some e.act
  pub in_turn : IsInTurn p.state e.session e.act
  pub allowed : Allowed p.state e.session e.act statement e.reply

-- the entry is the next act of its session, by the script
abbrev pub IsNextAct : List Line → Point → Entry → Type 0
IsNextAct lines p e =
    (statement : Statement) × (statement_of lines e.session e.statement ≡ Some statement)
    × IsActOf statement p e

-- recovery releases a name that it holds
pub record IsRelease (p : Point) (e : Entry) : Type 0 where
  pub name : List ℕ
  pub act : e.act ≡ act.Release name
  pub session : e.session ≡ 0
  pub statement : e.statement ≡ 0
  pub held : IsTrue (has_name name p.state.stuck)
  pub released : e.reply ≡ reply.Released

-- the entry may come here
pub record Comes (lines : List Line) (p : Point) (e : Entry) : Type 0 where
  pub later : p.moment ≤ e.moment
  pub one_of : IsNextAct lines p e ⊎ IsRelease p e

-- how far the sessions are after an entry of this statement; one of none leaves them as they were
abbrev pub progressed : Option Statement → Point → Entry → List (ℕ × Progress)
progressed None p e = p.progress
progressed (Some statement) p e =
    let acts = acts_of p.state e.session statement in
    put nat_cmp e.session (advanced acts e.reply (progress_of p e.session)) p.progress

-- where a run stands after an entry of this statement
abbrev pub passed_by : Option Statement → Point → Entry → Point
passed_by statement p e = record {
  state = next_state p.state e.session e.act statement e.reply;
  progress = progressed statement p e;
  moment = e.moment;
}

-- The point behind an entry, by the statement that the script has for it.
abbrev pub passed : List Line → Point → Entry → Point
passed lines p e = passed_by (statement_of lines e.session e.statement) p e

-- ---- a tape

-- where a run stands after these entries
abbrev pub final : List Line → Point → List Entry → Point
final lines p [] = p
final lines p (e ∷ es) = final lines (passed lines p e) es

-- each entry may come where the ones before it have led
abbrev pub Legal : List Line → Point → List Entry → Type 0
Legal lines p [] = Unit {0}
Legal lines p (e ∷ es) = Comes lines p e × Legal lines (passed lines p e) es

-- where a run begins: its moment, the database, and the names that recovery holds
abbrev pub at_start : ℕ → Database → List (List ℕ) → Point
at_start moment base stuck = record { state = at_rest base stuck; progress = []; moment = moment }

-- every statement of the script is finished
abbrev pub IsWhole : List Line → Point → Type 0
IsWhole lines p = (s : ℕ) → (progress_of p s).finished ≡ length (statements_of s lines)

-- the reply says that a commit is durable
abbrev pub is_answer : Reply → Bool
is_answer (reply.Answered k) = true
is_answer r = false

-- the reply is a refusal
abbrev pub is_refused : Reply → Bool
is_refused (reply.Refused why) = true
is_refused r = false

-- how many commits were answered by a moment
abbrev pub answered_by : ℕ → List Entry → ℕ
answered_by t [] = 0
answered_by t (e ∷ es) =
    (if is_answer e.reply && nat_le e.moment t then 1 else 0) + answered_by t es

-- ---- a serial run

-- An act is one of recovery, and not of a session.
abbrev pub is_release : Act → Bool
is_release (act.Release name) = true
is_release a = false

-- For each of these lines the session and the number of its statement, where the first lines stand
-- before them.
abbrev pub numbered : List Line → List Line → List (ℕ × ℕ)
numbered before [] = []
numbered before (l ∷ ls) =
    (l.session, length (statements_of l.session before) + 1) ∷ numbered (before ++ l ∷ []) ls

-- A statement's number in front of others, told once where it is the first of them already.
abbrev pub with_statement : ℕ × ℕ → List (ℕ × ℕ) → List (ℕ × ℕ)
with_statement x [] = x ∷ []
with_statement x (y ∷ ys) = if x.0 == y.0 && x.1 == y.1 then y ∷ ys else x ∷ y ∷ ys

-- The statements that the entries are of, in the order of the tape: one for all of its entries that
-- stand together. Recovery's entries are of none.
abbrev pub statements_on : List Entry → List (ℕ × ℕ)
statements_on [] = []
statements_on (e ∷ es) =
    if is_release e.act then statements_on es else
    with_statement (e.session, e.statement) (statements_on es)

-- The tape of a serial run: the statements stand in the order of the script's lines, each one's
-- entries together but for recovery's. The lines that come later have no entry yet.
abbrev pub IsSerial : List Line → List Entry → Type 0
IsSerial lines es = (later : List (ℕ × ℕ)) × (numbered [] lines ≡ statements_on es ++ later)
