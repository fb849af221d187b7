-- What a run promises: what a crash leaves, the tape, and the cause of each end.
use Rattle.std.specs.Prelude.{◌≡◌, ◌⊎◌, ◌≤◌, ◌^◌, ◌-◌, IsTrue, List, [], Option, Some, None}
use Rattle.ctr_types.specs.Faults.{CountsFault}
use Rattle.ctr_types.specs.declared.statement.Line.{Line}
use Rattle.ctr_types.specs.declared.tape.Entry.{Entry}
use Rattle.ctr_disk.specs.declared.disk.Disk.{Ghosts}
use Rattle.ctr_disk.specs.declared.fault.Stop.{Stop}
use Rattle.ctr_disk.specs.declared.fault.Stop.TheVariants as stop
use Rattle.ctr_disk.specs.Device.{LeavesOnly}
use Rattle.ctr_disk.specs.Image.{Image}
use Rattle.ctr_log.specs.declared.opening.OpenError.TheVariants as open_error
use Rattle.ctr_model.specs.Tape.{final, at_start, IsWhole}
use Rattle.ctr_model.specs.Texts.{answers}
use Rattle.ctr_area.specs.Images.{undo_size}
use Rattle.ctr_area.specs.Sound.{IsAmong}
use Rattle.ctr_redo.specs.States.{State}
use Rattle.ctr_record_effects.specs.Standing.{StandsForDatabase}
use Rattle.ctr_world.specs.stops_Stops.{HasFirstCommits}
use Rattle.ctr_store.specs.Opening.{IsUndamaged}
use Rattle.ctr_world.specs.declared.opening.Opening.{Ghosts as Opening}
use Rattle.ctr_world.specs.World.{start_in, led_to, IsFullEntry, IsLegalTape, IsTapeOf, LeavesPrefix, StopsBy, IsUndamagedStop as GoesUndamaged}
use Rattle.ctr_world.specs.Ended.{CountsAllPages, HasNoUndoOf, PassesOpening, RefusesWith, RefusesWorld, StandsForNone}
use Rattle.ctr_run.specs.declared.ran.Left.{Left}
use Rattle.ctr_run.specs.declared.ran.RunEnd.{RunEnd}
use Rattle.ctr_run.specs.declared.ran.RunEnd.TheVariants.{Finished, Unopened, Stopped}

-- how a run ended, by why its World stopped
abbrev pub end_by : Option Stop → RunEnd
end_by None = Finished
end_by (Some s) = Stopped s

-- the disk as a run finds it, and its script
abbrev pub opened_on : {D : Type 0} → Ghosts D → D → List Line → Opening D
opened_on g disk lines = record {
  before = g.images disk;
  start = g.moment_of disk;
  faults = g.faults_of disk;
  lines = lines;
}

-- ---- over a database in a state

-- Every statement is finished, recovery holds no name, undo took a turn for each item and open
-- transaction of the start, and a crash at the end leaves every commit, nothing of the start to
-- undo, and, where a Write was refused as Full, a file of 30,000 pages.
pub record IsComplete {D : Type 0} (g : Ghosts D) (old : D) (s : State) (lines : List Line)
    (l : Left D) : Type 0 where
  pub whole : IsWhole lines (led_to (opened_on g old lines) s l.tape.entries)
  pub no_stuck : (led_to (opened_on g old lines) s l.tape.entries).state.stuck ≡ []
  pub undone : l.undone ≡ undo_size s.tables
  pub durable : (c : Image) → g.since l.disk (g.moment_of l.disk) c
      → HasFirstCommits (start_in (opened_on g old lines) s).base
      (led_to (opened_on g old lines) s l.tape.entries).state.asked (answers l.tape.entries) c
  pub none_left : (c : Image) → g.since l.disk (g.moment_of l.disk) c → HasNoUndoOf s c
  pub full : (e : Entry) → IsAmong e l.tape.entries → IsFullEntry e → (c : Image)
      → g.since l.disk (g.moment_of l.disk) c → CountsAllPages c

-- the end tells no damage
abbrev pub TellsNoDamage : RunEnd → Type 0
TellsNoDamage Finished = Unit {0}
TellsNoDamage (Unopened e) = IsUndamaged e
TellsNoDamage (Stopped s) = GoesUndamaged (Some s)

-- The tape is legal, and its moments lie in the run. However it ends, a crash at each moment leaves
-- a prefix of the commit order with every commit answered by then, or, before the first entry, what
-- it might have left as the run began. Undo took no more turns than the start had items and open
-- transactions. A run that is done is complete.
pub record RunsOver {D : Type 0} (g : Ghosts D) (old : D) (s : State) (lines : List Line)
    (done : Type 0) (l : Left D) : Type 0 where
  pub legal : IsLegalTape (opened_on g old lines) s (g.moment_of l.disk) l.tape.entries
  pub survives : LeavesPrefix (opened_on g old lines) g s l.disk l.tape.entries
  pub undone_most : l.undone ≤ undo_size s.tables
  pub complete : done → IsComplete g old s lines l

-- Nothing was run: there is no entry, and undo took no turn. Over a database a crash at each moment
-- leaves that in the state in which it was, or what it might have left as the run began.
pub record RunsNone {D : Type 0} (g : Ghosts D) (old : D) (l : Left D) : Type 0 where
  pub tape : l.tape.entries ≡ []
  pub undone : l.undone ≡ 0
  pub left : (s : State) → IsTrue g.tells → StandsForDatabase (g.reads old) s
      → LeavesOnly g old l.disk (λ c. g.images old c ⊎ StandsForDatabase c s)

-- ---- whatever the disk tells

-- The tape stands in the order of the script, and its moments lie in the run, in which neither time
-- nor the count of faults goes back; where the run is done, the tape is whole.
pub record RunsInOrder {D : Type 0} (g : Ghosts D) (old : D) (lines : List Line) (done : Type 0)
    (l : Left D) : Type 0 where
  pub tape : IsTapeOf (opened_on g old lines) (g.moment_of l.disk) l.tape.entries
  pub whole : done → IsWhole lines (final lines (at_start (g.moment_of old) [] []) l.tape.entries)
  pub later : g.moment_of old ≤ g.moment_of l.disk
  pub faults : g.faults_of old ≤ g.faults_of l.disk

-- what each stop says of the disk, and of its number
abbrev pub StopsFor : {D : Type 0} → Ghosts D → D → Stop → Type 0
StopsFor g old stop.Fault = Unit {0}
StopsFor g old (stop.Damaged d) = IsTrue g.tells → StandsForNone (g.reads old)
StopsFor g old (stop.Worn lsn) = 2 ^ 63 - 1 ≤ lsn

-- What each end says of the disk: that it was opened, why it wasn't, or why the World was stopped.
-- A fault is told where the disk counts one more, and nowhere else.
abbrev pub EndsRunFor : {D : Type 0} → Ghosts D → D → D → RunEnd → Type 0
EndsRunFor g old new Finished = (g.faults_of new ≡ g.faults_of old)
    × (IsTrue g.tells → PassesOpening (g.reads old))
EndsRunFor g old new (Unopened e) =
    RefusesWith g old e new × (IsTrue g.tells → RefusesWorld (g.reads old) e)
EndsRunFor g old new (Stopped s) = StopsBy (Some s) (g.faults_of old) (g.faults_of new)
    × (IsTrue g.tells → PassesOpening (g.reads old)) × StopsFor g old s

-- Over a database a run is finished, unless the disk counts a fault, memory was refused before it
-- was opened, a number of the start is worn, or it tells the last number of a record.
abbrev pub EndsAsAsked : {D : Type 0} → Ghosts D → D → D → RunEnd → Type 0
EndsAsAsked g old new Finished = Unit {0}
EndsAsAsked g old new (Unopened open_error.NoDatabase) = ⊥
EndsAsAsked g old new (Unopened (open_error.Damaged d)) = ⊥
EndsAsAsked g old new (Unopened (open_error.Worn n)) = PassesOpening (g.reads old) → ⊥
EndsAsAsked g old new (Unopened open_error.Fault) = CountsFault (g.faults_of old) (g.faults_of new)
EndsAsAsked g old new (Unopened open_error.OutOfMemory) = Unit {0}
EndsAsAsked g old new (Stopped stop.Fault) = CountsFault (g.faults_of old) (g.faults_of new)
EndsAsAsked g old new (Stopped (stop.Damaged d)) = ⊥
EndsAsAsked g old new (Stopped (stop.Worn lsn)) = 2 ^ 63 - 1 ≤ lsn
