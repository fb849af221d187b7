-- What a World on pages keeps between any two turns.
use Rattle.std.specs.Prelude.{◌≡◌, ◌≢◌, ℕ, ◌-◌, ◌^◌, ◌≤◌, true, false, IsTrue, List, [], length, Option, Some, None}
use Rattle.std.specs.List.{AllByRecursion}
use Rattle.ctr_types.specs.Faults.{CountsFault}
use Rattle.ctr_disk.specs.declared.disk.Disk.{Ghosts}
use Rattle.ctr_disk.specs.declared.fault.Stop.{Stop}
use Rattle.ctr_disk.specs.declared.fault.Stop.TheVariants as stop
use Rattle.ctr_disk.specs.declared.fault.StoreFault.{StoreFault}
use Rattle.ctr_disk.specs.declared.fault.StoreFault.TheVariants.{Fault, Damaged}
use Rattle.ctr_disk.specs.Image.{Image}
use Rattle.ctr_types.specs.declared.tape.Act.TheVariants as act
use Rattle.ctr_types.specs.declared.tape.Entry.{Entry}
use Rattle.ctr_types.specs.declared.tape.Refusal.TheVariants as refusal
use Rattle.ctr_types.specs.declared.tape.Reply.TheVariants as reply
use Rattle.ctr_model.specs.Database.{Database, after_all}
use Rattle.ctr_model.specs.State.{has_name}
use Rattle.ctr_model.specs.declared.tape.Point.{Point}
use Rattle.ctr_model.specs.Tape.{Legal, at_start, final}
use Rattle.ctr_area.specs.Images.{undo_size}
use Rattle.ctr_area.specs.Sound.{IsAmong}
use Rattle.ctr_base.specs.declared.growing.TheConstants.{MOST_PAGES}
use Rattle.ctr_names.specs.Held.{names_of_items}
use Rattle.ctr_redo.specs.States.{State}
use Rattle.ctr_record_effects.specs.States.{area_in}
use Rattle.ctr_record_effects.specs.Standing.{StandsForDatabase}
use Rattle.ctr_undo.specs.kept_Turns.{Start, start_point}
use Rattle.ctr_undo.specs.kept_Walk.{Mind}
use Rattle.ctr_undo.specs.stops_Stops.{LeavesPrefixAt, LeftSince}
use Rattle.ctr_undo.specs.stops_World.{starting}
use Rattle.ctr_undo.specs.Left.{left_in, IsUndoOver}
use Rattle.ctr_undo.specs.Keeping.{list_of}
use Rattle.ctr_pass.specs.session_world_Ready.{StandOver}
use Rattle.ctr_pass.specs.exec_Order.{IsTapeOrdered, StandInOrder}
use Rattle.ctr_pass.specs.exec_Sessions.{AreSeated, ShowsSessions}
use Rattle.ctr_pass.specs.cursor_Standing.{IsCountedPosition}
use Rattle.ctr_pass.specs.Keeping.{PassedOver, KeepsPass}
use Rattle.ctr_pass.specs.Sparing.{IsNobodyInside}
use Rattle.ctr_world.specs.declared.opening.Opening.{Ghosts as Opening}
use Rattle.ctr_world.specs.Held.{Running, Held}
use Rattle.ctr_world.specs.Opened.{IsOpenedOn, IsRunLine}

-- what the run begins with, of a database in this state
abbrev pub start_in : {B : Type 0} → Opening B → State → Start
start_in o s = starting o.lines o.start s

-- ---- whatever the disk tells

-- Recovery holds the names of what is left of undo, and no others.
pub record HoldsLeft {D : Type 0} (w : Running D) : Type 0 where
  pub named : AllByRecursion (λ (name : List ℕ). has_name name w.sessions.stuck ≡ true) w.names
  pub only : (name : List ℕ) → has_name name w.sessions.stuck ≡ true → has_name name w.names ≡ true

-- Each actor may take its turn: the sessions are seated over the store, which isn't stopped; the
-- tape stands in order; recovery holds the names of what is left of undo, which is no more than
-- there was; the lines are those of a script that can be run; and what the cleaner's pass is at is
-- there.
pub record IsWorldReady {D B : Type 0} (o : Opening B) (g : Ghosts D) (w : Running D) : Type 0 where
  pub stand : StandOver w.sessions.txns w.store
  pub going : w.store.stopped ≡ false
  pub seats : AreSeated w.sessions w.store.now.counted
  pub ordered : IsTapeOrdered o.start (g.moment_of w.store.disk) w.sessions
  pub held : HoldsLeft w
  pub count : left_in w.undo ≤ w.size
  pub lines : AllByRecursion IsRunLine o.lines
  pub place : IsCountedPosition w.store.now.counted w.pass.at

-- The tape stands in the order of the script, and its last entry isn't later than now.
pub record IsTapeOf {B : Type 0} (o : Opening B) (now : ℕ) (es : List Entry) : Type 0 where
  pub order : StandInOrder o.lines (at_start o.start [] []) es
  pub later : (final o.lines (at_start o.start [] []) es).moment ≤ now

-- ---- of a database that the first image stands for, in a state

-- a Write was refused as Full
pub record IsFullEntry (e : Entry) : Type 0 where
  pub limit : ℕ
  pub write : e.act ≡ act.Write
  pub refused : e.reply ≡ reply.Refused (refusal.Full limit)

-- where one was, 30,000 pages are counted
abbrev pub FullCountsAll : List Entry → ℕ → Type 0
FullCountsAll es counted = (e : Entry) → IsAmong e es → IsFullEntry e → MOST_PAGES ≤ counted

-- The World shows what its tape has led to: its sessions, what is left of undo, and the names of
-- that. Transactions that begin in it have numbers from the database's next on.
pub record Shows {D B : Type 0} (o : Opening B) (first : Image) (g : Ghosts D) (s : State)
    (w : Running D) : Type 0 where
  pub opened : D
  pub on : IsOpenedOn o first g opened o.lines
  pub mind : Mind
  pub shows : ShowsSessions g (start_in o s) opened w.store w.sessions mind
  pub undo : list_of mind ≡ w.undo
  pub names : names_of_items (area_in w.store.now).title w.undo.items ≡ w.names
  pub numbered : mind.undo.first ≡ s.tables.next
  pub full : FullCountsAll mind.tape w.store.now.counted

-- The tape is legal, from the rows of the database and the names that recovery holds, and its last
-- entry isn't later than now.
pub record IsLegalTape {B : Type 0} (o : Opening B) (s : State) (now : ℕ) (es : List Entry) : Type 0
  where
    pub legal : Legal o.lines (start_point (start_in o s)) es
    pub later : (final o.lines (start_point (start_in o s)) es).moment ≤ now

-- nothing has stopped the World, or a fault of the disk, or a number that is worn
abbrev pub IsUndamagedStop : Option Stop → Type 0
IsUndamagedStop None = Unit {0}
IsUndamagedStop (Some stop.Fault) = Unit {0}
IsUndamagedStop (Some (stop.Damaged d)) = ⊥
IsUndamagedStop (Some (stop.Worn lsn)) = Unit {0}

-- why a World stops, by what a call of its store has met
abbrev pub stop_by : StoreFault → Stop
stop_by Fault = stop.Fault
stop_by (Damaged d) = stop.Damaged d

-- where a tape has led, of a database in this state
abbrev pub led_to : {B : Type 0} → Opening B → State → List Entry → Point
led_to o s es = final o.lines (start_point (start_in o s)) es

-- over what the cleaner's pass is kept, of a database in this state
abbrev pub passed_over : {D B : Type 0} → Opening B → State → Running D → PassedOver
passed_over o s w = record {
  state = w.store.now;
  next = w.store.next;
  tape = w.sessions.tape.items;
  led = (led_to o s w.sessions.tape.items).state;
  undos = length w.undo.items;
}

-- what is known of the cleaner's pass, of a database in this state
abbrev pub KeepsPassIn : {D B : Type 0} → Opening B → State → Running D → Type 0
KeepsPassIn o s w = KeepsPass w.pass (passed_over o s w)

-- By the tape no session is in a transaction, and nothing is left of undo.
pub record HasNobodyLeft {D B : Type 0} (o : Opening B) (s : State) (w : Running D) : Type 0 where
  pub nobody : IsNobodyInside (led_to o s w.sessions.tape.items).state
  pub over : IsUndoOver w.undo

-- the rows that a tape has led to: those of the start, with all that asked for a commit
abbrev pub rows_asked : {B : Type 0} → Opening B → State → List Entry → Database
rows_asked o s es = after_all (led_to o s es).state.asked (led_to o s es).state.base

-- A crash at any moment from the start to now leaves a prefix of the commit order with every commit
-- that was answered by then, or, before the first entry, what it might have left at the start.
abbrev pub LeavesPrefix : {D B : Type 0} → Opening B → Ghosts D → State → D → List Entry → Type 0
LeavesPrefix o g s disk es =
    LeftSince g o.start disk
    (LeavesPrefixAt o.before (start_in o s).base (led_to o s es).state.asked es)

-- ---- both

-- a fault that stopped a World was counted; where nothing stopped it, or something else, none was
-- met
abbrev pub StopsBy : Option Stop → ℕ → ℕ → Type 0
StopsBy None before now = now ≡ before
StopsBy (Some stop.Fault) before now = CountsFault before now
StopsBy (Some (stop.Damaged d)) before now = now ≡ before
StopsBy (Some (stop.Worn lsn)) before now = now ≡ before

-- a World is worn exactly where its records have come to the last number, 2^63 - 1
abbrev pub IsWornAt : {D : Type 0} → Option Stop → Running D → Type 0
IsWornAt None w = Unit {0}
IsWornAt (Some stop.Fault) w = Unit {0}
IsWornAt (Some (stop.Damaged d)) w = Unit {0}
IsWornAt (Some (stop.Worn lsn)) w = (lsn ≡ w.store.next) × (2 ^ 63 - 1 ≤ lsn)

-- Since the World was opened on the disk and the script that its type names.
pub record Kept {D B : Type 0} (o : Opening B) (first : Image) (g : Ghosts D) (w : Held D) : Type 0
  where
    pub ready : w.stop ≡ None → IsWorldReady o g w.running
    pub shows : (s : State) → IsTrue g.tells → StandsForDatabase first s → w.stop ≡ None
        → Shows o first g s w.running
    pub pass : (s : State) → IsTrue g.tells → StandsForDatabase first s → w.stop ≡ None
        → KeepsPassIn o s w.running
    pub tape : IsTapeOf o (g.moment_of w.running.store.disk) w.running.sessions.tape.items
    pub legal : (s : State) → IsTrue g.tells → StandsForDatabase first s
        → IsLegalTape o s (g.moment_of w.running.store.disk) w.running.sessions.tape.items
    pub sized : (s : State) → IsTrue g.tells → StandsForDatabase first s
        → w.running.size ≡ undo_size s.tables
    pub undamaged : (s : State) → IsTrue g.tells → StandsForDatabase first s
        → IsUndamagedStop w.stop
    -- at each moment until a stop a crash left a prefix of the commit order
    pub left : (s : State) → IsTrue g.tells → StandsForDatabase first s → w.stop ≢ None
        → LeavesPrefix o g s w.running.store.disk w.running.sessions.tape.items
    pub lines_are : w.running.sessions.script.lines ≡ o.lines
    pub each : AllByRecursion IsRunLine o.lines
    pub count : left_in w.running.undo ≤ w.running.size
    pub later : o.start ≤ g.moment_of w.running.store.disk
    pub faults_later : o.faults ≤ g.faults_of w.running.store.disk
    pub stops : StopsBy w.stop o.faults (g.faults_of w.running.store.disk)
    pub worn : IsWornAt w.stop w.running
