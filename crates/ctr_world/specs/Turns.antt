-- How a turn of an actor ends, and what it adds to the tape.
use Rattle.std.specs.Prelude.{◌≡◌, ◌≢◌, ◌⊎◌, ℕ, ◌+◌, ◌*◌, ◌≤◌, ◌<◌, List, [], ◌∷◌, ◌++◌, length, Option, Some, None, Result, Ok, Err, if◌then◌else◌}
use Rattle.std.specs.List.{AllByRecursion}
use Rattle.ctr_types.specs.declared.tape.Actor.{Actor}
use Rattle.ctr_types.specs.declared.tape.Actor.TheVariants as actor
use Rattle.ctr_types.specs.declared.tape.Entry.{Entry}
use Rattle.ctr_types.specs.declared.tape.Turn.{Turn}
use Rattle.ctr_types.specs.declared.tape.Turn.TheVariants as turn
use Rattle.ctr_disk.specs.declared.disk.Disk.{Ghosts}
use Rattle.ctr_disk.specs.declared.fault.StoreFault.{StoreFault}
use Rattle.ctr_rec.specs.declared.record.SlogItem.TheVariants.{AllocOf, FreeOf, CreateOf, DropOf}
use Rattle.ctr_model.specs.State.{has_name}
use Rattle.ctr_store.specs.Store.{HasTurnRoom, turns_for_room}
use Rattle.ctr_flush.specs.declared.flusher.FlushTurn.TheVariants.{Wrote}
use Rattle.ctr_flush.specs.Turns.{AnswersTurn, IsIdle, IsShort}
use Rattle.ctr_pass.specs.txn_Held.{IsOneOfEight}
use Rattle.ctr_undo.specs.declared.list.UndoItem.{UndoItem}
use Rattle.ctr_undo.specs.declared.list.UndoItem.TheVariants.{Slog, Orphan}
use Rattle.ctr_undo.specs.Left.{left_in, IsUndoOver as NoneIsLeft}
use Rattle.ctr_pass.specs.exec_sessions_Sessions.{Sessions}
use Rattle.ctr_pass.specs.exec_Order.{IsReleaseEntry}
use Rattle.ctr_pass.specs.exec_Runners.{runner_at}
use Rattle.ctr_pass.specs.exec_Sessions.{AreAnswers, AreOfTurn, HasAct, IsReleased, IsRollingBack, RollsTurn, turns_left}
use Rattle.ctr_world.specs.Held.{Running, Held}
use Rattle.ctr_world.specs.Cleaning.{CleansOn, IsIdlePass}

-- a session has a statement that isn't finished
pub record HasStatementLeft (s : ℕ) (h : Sessions) : Type 0 where
  pub one : IsOneOfEight s
  pub more : (runner_at s h.runners.items).finished < length (runner_at s h.runners.items).places

-- ---- the tape

-- The tape goes on by such entries, each at this moment; the script is as it was.
pub record AddsEntries {D : Type 0} (such : List Entry → Type 0) (moment : ℕ) (old new : Running D)
    : Type 0 where
  pub entries : List Entry
  pub tape : new.sessions.tape.items ≡ old.sessions.tape.items ++ entries
  pub are_such : such entries
  pub moments : AllByRecursion (λ (e : Entry). e.moment ≡ moment) entries
  pub script : new.sessions.script ≡ old.sessions.script

-- one at most, by which recovery releases a name
abbrev pub AreReleases : List Entry → Type 0
AreReleases es = (length es ≤ 1) × AllByRecursion IsReleaseEntry es

-- The entries of a turn: of a session's act, or answers; of undo's item; and behind these the
-- answers of all commits that it made durable. The flusher and the cleaner answer alone.
abbrev pub AreEntriesBy : Actor → List Entry → Type 0
AreEntriesBy (actor.Session s) es =
    (own : List Entry) × (answers : List Entry) × (es ≡ own ++ answers)
    × AreOfTurn s own × AreAnswers answers
AreEntriesBy actor.Undo es = (own : List Entry) × (answers : List Entry) × (es ≡ own ++ answers)
    × AreReleases own × AreAnswers answers
AreEntriesBy actor.Flusher es = AreAnswers es
AreEntriesBy actor.Cleaner es = AreAnswers es

-- The last of some names goes, and is told, where it isn't among the others.
abbrev pub LastGoes : List (List ℕ) → List (List ℕ) → Option (List ℕ) → Type 0
LastGoes old new told = ((old ≡ []) × (new ≡ []) × (told ≡ None))
    ⊎ ((name : List ℕ) × (old ≡ new ++ name ∷ [])
    × (told ≡ (if has_name name new then None else Some name)))

-- The names of the tables that are left, behind the one of an item that was undone: of a page or a
-- transaction there is none. What is told is that name, where no other item of it is left.
abbrev pub NameGoes : UndoItem → List (List ℕ) → List (List ℕ) → Option (List ℕ) → Type 0
NameGoes (Slog (AllocOf x p)) old new told = (new ≡ old) × (told ≡ None)
NameGoes (Slog (FreeOf p)) old new told = (new ≡ old) × (told ≡ None)
NameGoes (Slog (CreateOf x e)) old new told = LastGoes old new told
NameGoes (Slog (DropOf x e)) old new told = LastGoes old new told
NameGoes (Orphan x) old new told = (new ≡ old) × (told ≡ None)

-- The sessions behind a turn of undo: this name is released at a moment, or they are as they were.
abbrev pub AreSessionsBehind : Option (List ℕ) → ℕ → Sessions → Sessions → Type 0
AreSessionsBehind None moment h now = now ≡ h
AreSessionsBehind (Some name) moment h now = IsReleased name moment h now

-- What is undone takes the name of its table with it: that is released, where no other item has it.
pub record LetsNameGo (undone : UndoItem) (moment : ℕ) (names left : List (List ℕ))
    (h now : Sessions)
    : Type 0 where
  pub told : Option (List ℕ)
  pub goes : NameGoes undone names left told
  pub behind : AreSessionsBehind told moment h now

-- a turn that fails adds nothing
abbrev pub AddsUnlessFails : {D T : Type 0} → (List Entry → Type 0) → ℕ → Running D → Running D
    → Result T StoreFault → Type 0
AddsUnlessFails such moment old new (Ok x) = AddsEntries such moment old new
AddsUnlessFails such moment old new (Err e) = (new.sessions.tape.items ≡ old.sessions.tape.items)
    × (new.sessions.script ≡ old.sessions.script)

-- ---- how many there are

-- How many turns undo has left at most, those for room among them.
abbrev pub undo_left : {D : Type 0} → Running D → ℕ
undo_left w = left_in w.undo * 4 + turns_for_room w.store

-- all commits that are durable are answered
abbrev pub AreAnswered : {D : Type 0} → Running D → Type 0
AreAnswered w = w.store.waiting ≡ []
    → w.sessions.txns.answered ≡ length w.sessions.txns.numbers.commits

-- What a turn of the flusher did: the first of its four things that there was to do; and all
-- commits that are durable are answered.
abbrev pub WritesBehindTurn : {D : Type 0} → Running D → Running D → Type 0
WritesBehindTurn old new = AnswersTurn old.store new.store (Ok Wrote) × AreAnswered new

-- What an actor's turn that isn't over does: it brings the actor nearer to its end, where others
-- take none, and by a turn of undo no session gets further from its own; or the cleaner's pass goes
-- on; and behind it all commits that are durable are answered.
abbrev pub ComesNearer : {D : Type 0} → Actor → Running D → Running D → Type 0
ComesNearer (actor.Session s) old new =
    (turns_left new.sessions new.store < turns_left old.sessions old.store) × AreAnswered new
ComesNearer actor.Undo old new = (undo_left new < undo_left old)
    × (turns_left new.sessions new.store < turns_left old.sessions old.store) × AreAnswered new
ComesNearer actor.Flusher old new = WritesBehindTurn old new
ComesNearer actor.Cleaner old new = CleansOn old new × AreAnswered new

-- nothing is left to do for a session, whose statements are finished, or for undo
abbrev pub NoneLeft : {D : Type 0} → Actor → Running D → Type 0
NoneLeft (actor.Session s) w = HasStatementLeft s w.sessions → ⊥
NoneLeft actor.Undo w = NoneIsLeft w.undo
NoneLeft actor.Flusher w = ⊥
NoneLeft actor.Cleaner w = ⊥

-- a session that goes has a statement that isn't finished, undo something that is left, and the
-- cleaner a pass that isn't idle; what the flusher found is told with what it did
abbrev pub HasTurnLeft : {D : Type 0} → Actor → Running D → Type 0
HasTurnLeft (actor.Session s) w = HasStatementLeft s w.sessions
HasTurnLeft actor.Undo w = NoneIsLeft w.undo → ⊥
HasTurnLeft actor.Flusher w = Unit {0}
HasTurnLeft actor.Cleaner w = IsIdlePass w → ⊥

-- all sessions are over, and nothing is left of undo
pub record IsWorldOver {D : Type 0} (w : Held D) : Type 0 where
  pub sessions : (s : ℕ) → HasStatementLeft s w.running.sessions → ⊥
  pub undo : NoneIsLeft w.running.undo

-- nothing is due for the flusher, where there is nothing to write and no new generation of the log
-- is due; and for the cleaner where its pass is idle
abbrev pub NoneDue : {D : Type 0} → Actor → Running D → Type 0
NoneDue (actor.Session s) w = ⊥
NoneDue actor.Undo w = ⊥
NoneDue actor.Flusher w = IsIdle w.store
NoneDue actor.Cleaner w = IsIdlePass w

-- The flusher alone falls short, where a new generation is due, for which memory was refused, and
-- there is nothing to write.
abbrev pub FallsShort : {D : Type 0} → Actor → Running D → Type 0
FallsShort (actor.Session s) w = ⊥
FallsShort actor.Undo w = ⊥
FallsShort actor.Flusher w = IsShort w.store
FallsShort actor.Cleaner w = ⊥

-- a turn logs one record at most
abbrev pub LogsOneAtMost : {D : Type 0} → Running D → Running D → Type 0
LogsOneAtMost old new = new.store.next ≤ old.store.next + 1

-- Where a session has an act of its own, which is a ROLLBACK of a transaction that wrote, and there
-- is room, its turn takes the latest item of the transaction away, or makes the entry, with the
-- mark.
abbrev pub RollsBack : {D : Type 0} → ℕ → Running D → Running D → Type 0
RollsBack s old new = HasAct old.sessions s → HasTurnRoom old.store → IsRollingBack s old.sessions
    → (entries : List Entry) × RollsTurn s old.sessions old.store new.store entries

-- ---- the end of a turn

-- The tape and the script are as they were, and so is undo's list.
pub record TellsNothing {D : Type 0} (old new : Running D) : Type 0 where
  pub sessions : new.sessions ≡ old.sessions
  pub undo : new.undo ≡ old.undo

-- How a turn ended: a World that stops has added nothing, and a turn after a stop does nothing.
abbrev pub EndsTurn : {D : Type 0} → Ghosts D → Turn → Actor → Held D → Held D → Type 0
EndsTurn g turn.Went a old new = (old.stop ≡ None) × (new.stop ≡ None)
    × AddsEntries (AreEntriesBy a) (g.moment_of new.running.store.disk) old.running new.running
    × ComesNearer a old.running new.running × HasTurnLeft a old.running
    × LogsOneAtMost old.running new.running
EndsTurn g turn.Idle a old new = (old.stop ≡ None) × (new.stop ≡ None) × NoneDue a old.running
    × TellsNothing old.running new.running
EndsTurn g turn.Short a old new = (old.stop ≡ None) × (new.stop ≡ None) × FallsShort a old.running
    × TellsNothing old.running new.running
EndsTurn g turn.Over a old new = (old.stop ≡ None) × NoneLeft a old.running × (new ≡ old)
EndsTurn g turn.Stopped a old new = (new.stop ≢ None)
    × (new.running.sessions.tape.items ≡ old.running.sessions.tape.items)
    × (new.running.sessions.script ≡ old.running.sessions.script)
    × (old.stop ≢ None → new ≡ old)

-- ---- a World that is finished

-- whose turn comes next there: the first session's that has a statement left, or undo's
abbrev pub IsFirstLeft : {D : Type 0} → Actor → Running D → Type 0
IsFirstLeft (actor.Session s) w = HasStatementLeft s w.sessions
    × ((q : ℕ) → q < s → HasStatementLeft q w.sessions → ⊥)
IsFirstLeft actor.Undo w = (q : ℕ) → HasStatementLeft q w.sessions → ⊥
IsFirstLeft actor.Flusher w = ⊥
IsFirstLeft actor.Cleaner w = ⊥

-- a turn of whose it is leads from one World to another
pub record TakesFirst {D : Type 0} (g : Ghosts D) (old new : Held D) : Type 0 where
  pub by : Actor
  pub first : IsFirstLeft by old.running
  pub ends : EndsTurn g turn.Went by old new

-- such turns, one after another; given are the Worlds between, the latest first
abbrev pub GoesByTurns : {D : Type 0} → Ghosts D → List (Held D) → Held D → Held D → Type 0
GoesByTurns g [] old new = new ≡ old
GoesByTurns g (last ∷ before) old new = GoesByTurns g before old last × TakesFirst g last new

-- The tape is that of a World which such turns lead to.
pub record FinishesBy {D : Type 0} (g : Ghosts D) (old : Held D) (tape : List Entry) : Type 0 where
  pub between : List (Held D)
  pub last : Held D
  pub turns : GoesByTurns g between old last
  pub tape_is : tape ≡ last.running.sessions.tape.items

-- How a turn of the flusher ends: it is idle where nothing was due.
abbrev pub FlusherEnds : {D : Type 0} → Running D → Running D → Turn → Type 0
FlusherEnds old new turn.Went = WritesBehindTurn old new
FlusherEnds old new turn.Idle = NoneDue actor.Flusher old × TellsNothing old new
FlusherEnds old new turn.Short = FallsShort actor.Flusher old × TellsNothing old new
FlusherEnds old new turn.Over = ⊥
FlusherEnds old new turn.Stopped = ⊥

-- How a turn of the cleaner ends: it is idle where its pass is.
abbrev pub CleanerEnds : {D : Type 0} → Running D → Running D → Turn → Type 0
CleanerEnds old new turn.Went = CleansOn old new × AreAnswered new × (IsIdlePass old → ⊥)
CleanerEnds old new turn.Idle = IsIdlePass old × TellsNothing old new
CleanerEnds old new turn.Short = ⊥
CleanerEnds old new turn.Over = ⊥
CleanerEnds old new turn.Stopped = ⊥
