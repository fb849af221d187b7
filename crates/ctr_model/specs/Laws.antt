-- Laws of the model, over whole stretches of a tape.
use Rattle.std.specs.Prelude.{◌≡◌, ℕ, ◌==◌, ◌≤◌, Bool, true, false, not, List, [], ◌∷◌, ◌++◌, length, map, Option, Some, None, IfSome, if◌then◌else◌}
use Rattle.std.specs.List.{AllByRecursion, filter}
use Rattle.ctr_types.specs.declared.statement.Line.{Line}
use Rattle.ctr_types.specs.declared.statement.Statement.{Statement}
use Rattle.ctr_types.specs.declared.tape.Act.{Act}
use Rattle.ctr_types.specs.declared.tape.Reply.{Reply}
use Rattle.ctr_types.specs.declared.tape.Reply.TheVariants as reply
use Rattle.ctr_types.specs.declared.tape.Refusal.TheVariants as refusal
use Rattle.ctr_types.specs.declared.tape.Entry.{Entry}
use Rattle.ctr_model.specs.declared.database.Change.{Change}
use Rattle.ctr_model.specs.Database.{Database}
use Rattle.ctr_model.specs.State.{State, Transaction, transaction_of, rows_at, view}
use Rattle.ctr_model.specs.Reply.{next_state}
use Rattle.ctr_model.specs.Tape.{Point, Legal, passed, final, at_start}

-- ---- replies are determined

-- the entries are acts of the same sessions in the same order
abbrev pub SameActs : List Entry → List Entry → Type 0
SameActs [] [] = Unit {0}
SameActs [] (y ∷ ys) = ⊥
SameActs (x ∷ xs) [] = ⊥
SameActs (x ∷ xs) (y ∷ ys) = (x.session ≡ y.session) × (x.act ≡ y.act) × SameActs xs ys

-- one of the three replies that may stand for another
abbrev pub is_free : Reply → Bool
is_free (reply.Refused refusal.OutOfMemory) = true
is_free (reply.Refused (refusal.CatalogFull limit)) = true
is_free (reply.Refused (refusal.Full limit)) = true
is_free r = false

-- none of the replies is one of those three
abbrev pub NoneFree : List Entry → Type 0
NoneFree es = AllByRecursion (λ e. is_free e.reply ≡ false) es

-- The replies of entries, in their order.
abbrev pub replies_of : List Entry → List Reply
replies_of es = map (λ e. e.reply) es

-- Two legal tapes of one script and one start, with the same acts in the same order and none of the
-- free replies, have the same replies.
abbrev pub RepliesAreDetermined : Type 0
RepliesAreDetermined =
    (lines : List Line) (p : Point) (xs ys : List Entry) → Legal lines p xs → Legal lines p ys
    → SameActs xs ys → NoneFree xs → NoneFree ys → replies_of xs ≡ replies_of ys

-- ---- a snapshot stays

-- no entry is of this session
abbrev pub OthersOnly : ℕ → List Entry → Type 0
OthersOnly s es = AllByRecursion (λ e. (s == e.session) ≡ false) es

-- What holds of a state on each legal tape: commits are answered after they were asked, and each
-- transaction's snapshot is of commits that were answered.
pub record IsSoundState (state : State) : Type 0 where
  pub answered : state.answered ≤ length state.asked
  pub each : (s : ℕ) (me : Transaction) → transaction_of state s ≡ Some me
      → (me.snapshot ≤ state.answered) × IfSome me.asked (λ k. k ≤ length state.asked)

-- Every state that a legal tape leads to from a start is sound.
abbrev pub LegalStatesAreSound : Type 0
LegalStatesAreSound =
    (lines : List Line) (moment : ℕ) (base : Database) (stuck : List (List ℕ)) (es : List Entry)
    → Legal lines (at_start moment base stuck) es
    → IsSoundState (final lines (at_start moment base stuck) es).state

-- what a session sees is the same in both states
pub record SeesTheSame (s : ℕ) (me : Transaction) (old new : State) : Type 0 where
  pub transaction : transaction_of new s ≡ Some me
  pub snapshot : rows_at new me.snapshot ≡ rows_at old me.snapshot
  pub sees : view new me ≡ view old me

-- While other sessions act, ask and are answered, what a session sees stays.
abbrev pub SnapshotsStay : Type 0
SnapshotsStay =
    (lines : List Line) (p : Point) (es : List Entry) (s : ℕ) (me : Transaction)
    → IsSoundState p.state
    → transaction_of p.state s ≡ Some me → OthersOnly s es
    → SeesTheSame s me p.state (final lines p es).state

-- ---- only asking changes rows

-- the reply gives a commit number
abbrev pub is_asked : Reply → Bool
is_asked (reply.Asked k) = true
is_asked r = false

-- what a reply to a session in this transaction adds to what was asked: all changes of the
-- transaction, where it is Asked
abbrev pub asked_by : Reply → Option Transaction → List (List Change)
asked_by (reply.Asked k) (Some me) = me.own ∷ []
asked_by r me = []

-- A later state has the base of an earlier one, and more transactions behind those that asked.
pub record Grows (more : List (List Change)) (old new : State) : Type 0 where
  pub base : new.base ≡ old.base
  pub asked : new.asked ≡ old.asked ++ more

-- The base stays, and so does what was asked: after it comes what a reply of Asked adds.
abbrev pub StatesGrow : Type 0
StatesGrow =
    (state : State) (s : ℕ) (a : Act) (statement : Option Statement) (r : Reply)
    → Grows (asked_by r (transaction_of state s)) state (next_state state s a statement r)

-- what was asked, and the rows at every number, are the same in both states
pub record SameRows (old new : State) : Type 0 where
  pub asked : new.asked ≡ old.asked
  pub rows : (j : ℕ) → rows_at new j ≡ rows_at old j

-- An entry leaves what was asked, and the rows at every number, as they were, unless its reply is
-- Asked.
abbrev pub OnlyAskingChangesRows : Type 0
OnlyAskingChangesRows =
    (lines : List Line) (p : Point) (e : Entry) → is_asked e.reply ≡ false
    → SameRows p.state (passed lines p e).state

-- ---- a rollback leaves no trace

-- the changes that the sessions but this one ask to commit in a stretch, in order
abbrev pub asked_by_others : ℕ → List Line → Point → List Entry → List (List Change)
asked_by_others s lines p [] = []
asked_by_others s lines p (e ∷ es) =
    (if s == e.session then [] else asked_by e.reply (transaction_of p.state e.session))
    ++ asked_by_others s lines (passed lines p e) es

-- the entries of the sessions but this one
abbrev pub entries_of_others : ℕ → List Entry → List Entry
entries_of_others s es = filter (λ e. not (s == e.session)) es

-- no entry of the session is answered by Asked
abbrev pub AsksNothing : ℕ → List Entry → Type 0
AsksNothing s es = AllByRecursion (λ e. e.session ≡ s → is_asked e.reply ≡ false) es

-- The session asks for no commit in the stretch, and the last entry that it has there is answered
-- by RolledBack. Others may act, ask and be answered before, between and after its entries.
pub record IsRolledBack (s : ℕ) (es : List Entry) : Type 0 where
  pub asks_nothing : AsksNothing s es
  pub before : List Entry
  pub rollback : Entry
  pub later : List Entry
  pub split : es ≡ before ++ rollback ∷ later
  pub session : rollback.session ≡ s
  pub reply : rollback.reply ≡ reply.RolledBack
  pub last : OthersOnly s later

-- the rows at every number, and the transactions of the sessions but this one, are the same in both
-- states
pub record SameButFor (s : ℕ) (old new : State) : Type 0 where
  pub rows : (j : ℕ) → rows_at new j ≡ rows_at old j
  pub others : (t : ℕ) → (t == s) ≡ false → transaction_of new t ≡ transaction_of old t

-- A session leaves no trace in a stretch: after what was asked before stands what the others asked,
-- in order and nothing else; and the rows at every number, and the others' transactions, are as the
-- others' entries alone leave them. It says nothing of how these entries came about: while the
-- session was in a transaction, others may have been refused for its locks, uses and holds.
pub record LeavesNoTrace (s : ℕ) (lines : List Line) (p : Point) (es : List Entry) : Type 0 where
  pub asked : (final lines p es).state.asked ≡ p.state.asked ++ asked_by_others s lines p es
  pub alone : SameButFor s (final lines p (entries_of_others s es)).state (final lines p es).state

-- A session that asks for no commit in a stretch leaves no trace there, whatever else it does.
abbrev pub UnaskedLeavesNoTrace : Type 0
UnaskedLeavesNoTrace =
    (lines : List Line) (p : Point) (es : List Entry) (s : ℕ) → AsksNothing s es
    → LeavesNoTrace s lines p es

-- Where the last that it does there is a rollback, it is in no transaction either.
abbrev pub RollbacksLeaveNoTrace : Type 0
RollbacksLeaveNoTrace =
    (lines : List Line) (p : Point) (es : List Entry) (s : ℕ) → IsRolledBack s es
    → LeavesNoTrace s lines p es × (transaction_of (final lines p es).state s ≡ None)
