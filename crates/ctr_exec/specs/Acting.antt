-- A turn of an act of a session's statement: what it asks, and what it leaves.
use Rattle.std.specs.Prelude.{◌≡◌, ℕ, ◌+◌, ◌<◌, Bool, true, false, not, Option, None, Some, is_some, Result, Ok, Err, slice_get}
use Rattle.ctr_disk.specs.declared.disk.Disk.{Ghosts}
use Rattle.ctr_disk.specs.declared.fault.StoreFault.{StoreFault}
use Rattle.ctr_disk.specs.declared.fault.StoreFault.TheVariants.{Fault}
use Rattle.ctr_types.specs.declared.statement.Statement.{Statement}
use Rattle.ctr_types.specs.declared.statement.Statement.TheVariants as st
use Rattle.ctr_types.specs.declared.tape.Act.{Act}
use Rattle.ctr_types.specs.declared.tape.Act.TheVariants as act
use Rattle.ctr_types.specs.declared.tape.Reply.{Reply}
use Rattle.ctr_types.specs.declared.tape.Reply.TheVariants as reply
use Rattle.ctr_model.specs.declared.state.State.{State}
use Rattle.ctr_model.specs.Refusals.{changes_schema, key_written}
use Rattle.ctr_model.specs.Tape.{acts_of, goes_on}
use Rattle.ctr_store.specs.Store.{View}
use Rattle.ctr_control.specs.kept_Turns.{Start}
use Rattle.ctr_control.specs.kept_Walk.{Mind}
use Rattle.ctr_control.specs.txn_Held.{TxnsHeld, txn_of}
use Rattle.ctr_control.specs.ctr_rollback.declared.rolling.Rolled.TheVariants.{Undone, Back}
use Rattle.ctr_control.specs.ctr_rollback.Rolling.{RollsTo}
use Rattle.ctr_control.specs.ctr_writing.ctr_looks.Granting.{HasItem}
use Rattle.ctr_control.specs.ctr_writing.ctr_looks.Locking.{IsWriteOf}
use Rattle.ctr_control.specs.ctr_session_world.World.{SessionsHeld}
use Rattle.ctr_control.specs.ctr_session_world.Told.{IsIdleIn, IsNextOf, IsActTold, IsKeptOn}
use Rattle.ctr_control.specs.ctr_session_world.Ready.{LeavesReady, StaysUnasked, is_asking}
use Rattle.ctr_control.specs.ctr_writing.Rows.{IsAtRow, MayGoOn, WentOn}
use Rattle.ctr_control.specs.ctr_writing.Tables.{IsAtTableWrite}
use Rattle.ctr_control.specs.ctr_writing.Wants.{HasRoomCause}
use Rattle.ctr_exec.specs.declared.acting.Acted.{Acted}
use Rattle.ctr_exec.specs.declared.acting.Acted.TheVariants as acted
use Rattle.ctr_exec.specs.declared.runners.Stage.{Stage}
use Rattle.ctr_exec.specs.declared.runners.Stage.TheVariants as stage
use Rattle.ctr_exec.specs.Runners.{made_at}

-- ---- whatever the disk tells

-- The next act of a statement may take its turn: a Write was begun as its Lock left it, with room
-- for what its turn may add. Who waits for an answer has no act.
abbrev pub MayAct : Stage → ℕ → Statement → TxnsHeld → ℕ → Type 0
MayAct stage.Between s statement txns counted = Unit {0}
MayAct (stage.Row e prepared at) s statement txns counted =
    (is_some (key_written statement) ≡ true) × (e < 32) × MayGoOn s txns counted at
MayAct (stage.Table write) s statement txns counted =
    (changes_schema statement ≡ true) × IsWriteOf statement write × HasItem s txns
MayAct stage.Asked s statement txns counted = ⊥

-- An act is the one of a session's statement behind so many of its acts, at whatever state.
abbrev pub IsActAt : ℕ → Statement → ℕ → Act → Type 0
IsActAt s statement made x =
    (state : State) → slice_get (acts_of state s statement) made ≡ Some x

-- The reply ends its statement: a Lock that is refused, a COMMIT that asks for none, and whatever
-- is said to an act that is its statement's last.
abbrev pub ends_statement : Act → Reply → Bool
ends_statement act.Begin r = true
ends_statement act.Read r = true
ends_statement act.Lock r = not (goes_on r)
ends_statement act.Write r = true
ends_statement act.Ask r = not (goes_on r)
ends_statement act.Answer r = true
ends_statement act.Rollback r = true
ends_statement (act.Release name) r = false

-- So may the one that comes next, where the statement isn't finished. A first act alone is granted,
-- which is a Lock; and COMMIT's alone asks for a commit. What ends the statement is the act that
-- came next, with a reply that ends it.
abbrev pub LeavesAct : Stage → ℕ → Statement → TxnsHeld → ℕ → Acted → Type 0
LeavesAct g s statement txns counted (acted.On at) =
    (made_at at ≡ made_at g) × MayAct at s statement txns counted
LeavesAct g s statement txns counted (acted.Granted at) =
    (made_at g ≡ 0) × (made_at at ≡ 1) × MayAct at s statement txns counted
    × IsActAt s statement 0 act.Lock
LeavesAct g s statement txns counted (acted.Asked k) = (made_at g ≡ 0) × (statement ≡ st.Commit)
LeavesAct g s statement txns counted (acted.Ended x r) =
    IsActAt s statement (made_at g) x × (ends_statement x r ≡ true)

-- the number of the commit that is asked for, where one is
abbrev pub number_told : Reply → Option ℕ
number_told (reply.Began n) = None
number_told reply.Granted = None
number_told (reply.Rows rows) = None
number_told reply.Done = None
number_told (reply.Asked k) = Some k
number_told reply.ReadOnly = None
number_told (reply.Answered k) = None
number_told reply.RolledBack = None
number_told reply.Released = None
number_told (reply.Refused why) = None

-- The session has asked for its commit where it is told so; and else it hasn't, where it hadn't.
abbrev pub LeavesAsking : ℕ → TxnsHeld → TxnsHeld → Acted → Type 0
LeavesAsking s txns now (acted.On at) = StaysUnasked s txns now
LeavesAsking s txns now (acted.Granted at) = StaysUnasked s txns now
LeavesAsking s txns now (acted.Asked k) = is_asking (txn_of s now) ≡ true
LeavesAsking s txns now (acted.Ended x r) = StaysUnasked s txns now

-- where the act goes on one record was logged; or none was, and more pages are counted
abbrev pub WentByAct : {D : Type 0} → View D → View D → Acted → Type 0
WentByAct a b (acted.On at) = WentOn a b
WentByAct a b (acted.Granted at) = Unit {0}
WentByAct a b (acted.Asked k) = Unit {0}
WentByAct a b (acted.Ended x r) = Unit {0}

-- So the sessions are left over the store.
abbrev pub LeavesSessions : {D : Type 0} → ℕ → TxnsHeld → TxnsHeld → View D → View D → Acted
    → Type 0
LeavesSessions s txns now a b l =
    LeavesReady s txns now a b × LeavesAsking s txns now l × WentByAct a b l

-- ---- a ROLLBACK

-- What a turn of a ROLLBACK does whose transaction wrote, by what it came to: the latest item of
-- the transaction goes, and the act goes on; or none was left, and the transaction is aborted as
-- that is told. One record was logged.
abbrev pub RollsAct : {D : Type 0} → ℕ → View D → View D → Acted → Type 0
RollsAct x a b (acted.On at) = RollsTo x a.now b.now Undone × (b.next ≡ a.next + 1)
RollsAct x a b (acted.Granted at) = ⊥
RollsAct x a b (acted.Asked k) = ⊥
RollsAct x a b (acted.Ended y r) =
    (y ≡ act.Rollback) × RollsTo x a.now b.now Back × (b.next ≡ a.next + 1)

-- ---- in a World

-- what a session counts on in the middle of a ROLLBACK isn't said, and between other statements it
-- is idle
abbrev pub IsIdleFor : Statement → Type 0 → Type 0
IsIdleFor st.Rollback idle = Unit {0}
IsIdleFor statement idle = idle

-- The session is in the middle of a statement so as its stage says.
abbrev pub IsMidway : Start → ℕ → Statement → Mind → Stage → Type 0
IsMidway c s statement w stage.Between = IsIdleFor statement (IsIdleIn c w s)
IsMidway c s statement w (stage.Row e prepared at) = IsAtRow c s statement w e prepared at
IsMidway c s statement w (stage.Table write) = IsAtTableWrite c s statement w write
IsMidway c s statement w stage.Asked = Unit {0}

-- A Write wants room where there is none. Of other acts nothing is said.
abbrev pub WantsRoom : {D : Type 0} → Act → Reply → View D → View D → Type 0
WantsRoom act.Begin r a b = Unit {0}
WantsRoom act.Read r a b = Unit {0}
WantsRoom act.Lock r a b = Unit {0}
WantsRoom act.Write r a b = HasRoomCause r a.now b.now
WantsRoom act.Ask r a b = Unit {0}
WantsRoom act.Answer r a b = Unit {0}
WantsRoom act.Rollback r a b = Unit {0}
WantsRoom (act.Release name) r a b = Unit {0}

-- What a turn of an act leaves: it goes on, and nothing is told; or its entry is told, and its
-- statement goes on or is finished. It fails by the disk alone.
abbrev pub TurnOfAct : {D : Type 0} {g : Ghosts D} {c : Start} {opened : D} {a b : View D}
    {h : SessionsHeld} {s : ℕ} {statement : Statement} {made : ℕ}
    → IsNextOf g c opened a b h s statement made → SessionsHeld → Result Acted StoreFault → Type 0
TurnOfAct {c = c} {s = s} {statement = statement} next now (Ok (acted.On at)) =
    (kept : IsKeptOn next now) × IsMidway c s statement kept.mind at
TurnOfAct {c = c} {s = s} {statement = statement} next now (Ok (acted.Granted at)) =
    (told : IsActTold next now act.Lock reply.Granted) × IsMidway c s statement told.mind at
TurnOfAct next now (Ok (acted.Asked k)) = IsActTold next now act.Ask (reply.Asked k)
TurnOfAct {c = c} {a = a} {b = b} {s = s} next now (Ok (acted.Ended x r)) =
    (told : IsActTold next now x r) × IsIdleIn c told.mind s × WantsRoom x r a b
TurnOfAct next now (Err e) = e ≡ Fault
