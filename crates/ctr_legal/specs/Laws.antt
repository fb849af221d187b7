-- What every legal tape keeps.
use Rattle.std.specs.Prelude.{◌≡◌, ◌⊎◌, ℕ, ◌==◌, ◌+◌, ◌<◌, ◌≤◌, true, false, List, [], ◌∷◌, ◌++◌, length, Some}
use Rattle.ctr_types.specs.declared.statement.Line.{Line}
use Rattle.ctr_types.specs.declared.statement.Statement.{Statement}
use Rattle.ctr_types.specs.declared.tape.Entry.{Entry}
use Rattle.ctr_types.specs.declared.tape.Act.{Act}
use Rattle.ctr_types.specs.declared.tape.Reply.{Reply}
use Rattle.ctr_types.specs.declared.tape.Act.TheVariants as act
use Rattle.ctr_types.specs.declared.tape.Reply.TheVariants as reply
use Rattle.ctr_model.specs.declared.state.Transaction.{Transaction}
use Rattle.ctr_model.specs.Database.{Database}
use Rattle.ctr_model.specs.declared.tape.Point.{Point}
use Rattle.ctr_model.specs.declared.state.State.{State}
use Rattle.ctr_model.specs.State.{transaction_of, rows_at}
use Rattle.ctr_model.specs.Reply.{next_state}
use Rattle.ctr_model.specs.Tape.{progress_of, Comes, passed, final, Legal, at_start, goes_on, IsInTurn, Allowed}
use Rattle.ctr_legal.specs.Kept.{IsKept}
use Rattle.ctr_legal.specs.Ready.{TellsOf, IsUnasked, IsReady, IsReached}

-- Whoever acts and in whatever order, recovery among them: from the start of a run each legal tape
-- leads where the state is kept, each session is ready for its next act, and who has asked has the
-- answer before it.
abbrev pub LegalTapesAreReached : Type 0
LegalTapesAreReached = (lines : List Line) (moment : ℕ) (base : Database) (stuck : List (List ℕ))
    (tape : List Entry) → Legal lines (at_start moment base stuck) tape
    → IsReached lines (final lines (at_start moment base stuck) tape)

-- An entry that may come where a legal tape leads makes it longer by one.
abbrev pub LegalTapesGrow : Type 0
LegalTapesGrow = (lines : List Line) (start : Point) (tape : List Entry) (e : Entry)
    → Legal lines start tape → Comes lines (final lines start tape) e
    → Legal lines start (tape ++ e ∷ [])
    × (final lines start (tape ++ e ∷ []) ≡ passed lines (final lines start tape) e)

-- the entry by which a session's commit is answered at this moment
abbrev pub answer_entry : Point → ℕ → ℕ → Entry
answer_entry p s moment = record {
  session = s;
  statement = (progress_of p s).finished + 1;
  act = act.Answer;
  reply = reply.Answered (p.state.answered + 1);
  moment = moment;
}

-- the session asked for the commit that is answered next, and its entry may come now
pub record IsAnsweredNext (lines : List Line) (p : Point) (moment s : ℕ) : Type 0 where
  pub me : Transaction
  pub there : transaction_of p.state s ≡ Some me
  pub asked : me.asked ≡ Some (p.state.answered + 1)
  pub comes : Comes lines p (answer_entry p s moment)

-- Where commits wait for their answer, the one that was asked first is a session's, and whoever
-- made it durable may answer it: so all that wait are answered in their order.
abbrev pub WaitingAreAnswered : Type 0
WaitingAreAnswered = (lines : List Line) (p : Point) (moment : ℕ) → IsReached lines p
    → p.moment ≤ moment → p.state.answered < length p.state.asked
    → (s : ℕ) × IsAnsweredNext lines p moment s

-- Of an act's reply: what it tells, that the session then hasn't asked for its commit, unless the
-- act was that, and that the other sessions are in the transactions that they were in, and see the
-- rows that they saw.
pub record IsTold (state : State) (s : ℕ) (statement : Statement) (a : Act) (r : Reply)
    : Type 0 where
  pub tells : TellsOf state s (transaction_of state s) statement a r
  pub own : IsUnasked (transaction_of (next_state state s a (Some statement) r) s)
      ⊎ ((a ≡ act.Ask) × (goes_on r ≡ true))
  pub others : (q : ℕ) → (q == s) ≡ false
      → transaction_of (next_state state s a (Some statement) r) q ≡ transaction_of state q
  pub rows : (j : ℕ) → j ≤ length state.asked
      → rows_at (next_state state s a (Some statement) r) j ≡ rows_at state j

-- A session that is ready for an act, and is answered as is allowed, is told so.
abbrev pub RepliesTell : Type 0
RepliesTell = (state : State) (s : ℕ) (statement : Statement) (a : Act) (r : Reply) → IsKept state
    → IsReady state statement a (transaction_of state s) → IsInTurn state s a
    → Allowed state s a statement r → IsTold state s statement a r

-- Each session that has asked for its commit waits with a number of its own, which isn't answered.
pub record HaveOwnNumbers (state : State) : Type 0 where
  pub waits : (s k : ℕ) (t : Transaction) → transaction_of state s ≡ Some t → t.asked ≡ Some k
      → state.answered < k
  pub own : (s r k : ℕ) (t u : Transaction) → (s == r) ≡ false → transaction_of state s ≡ Some t
      → transaction_of state r ≡ Some u → t.asked ≡ Some k → u.asked ≡ Some k → ⊥

-- So it is wherever a legal tape leads.
abbrev pub NumbersAreOwn : Type 0
NumbersAreOwn = (lines : List Line) (moment : ℕ) (base : Database) (stuck : List (List ℕ))
    (tape : List Entry) → Legal lines (at_start moment base stuck) tape
    → HaveOwnNumbers (final lines (at_start moment base stuck) tape).state
