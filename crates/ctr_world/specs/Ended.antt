-- What a World on pages leaves at its end, and why one isn't opened.
use Rattle.std.specs.Prelude.{◌≡◌, ◌≢◌, ◌⊎◌, ℕ, ◌≤◌, ◌<◌, List, [], Option, None, Some}
use Rattle.ctr_types.specs.Faults.{CountsFault}
use Rattle.ctr_types.specs.declared.statement.Line.{Line}
use Rattle.ctr_types.specs.declared.tape.Entry.{Entry}
use Rattle.ctr_disk.specs.declared.disk.Disk.{Ghosts}
use Rattle.ctr_disk.specs.declared.fault.Stop.{Stop}
use Rattle.ctr_disk.specs.Image.{Image}
use Rattle.ctr_log.specs.declared.opening.OpenError.{OpenError}
use Rattle.ctr_log.specs.declared.opening.OpenError.TheVariants.{NoDatabase, Damaged, Worn, Fault, OutOfMemory}
use Rattle.ctr_model.specs.Tape.{final, at_start, IsWhole}
use Rattle.ctr_model.specs.Texts.{answers}
use Rattle.ctr_area.specs.Images.{undo_size}
use Rattle.ctr_area.specs.Sound.{IsAmong, xids_in}
use Rattle.ctr_record_laws.specs.Owed.{HasNoItems}
use Rattle.ctr_home.specs.declared.root.Root.{Root}
use Rattle.ctr_redo.specs.States.{State}
use Rattle.ctr_record_effects.specs.Standing.{StandsForDatabase}
use Rattle.ctr_undo.specs.stops_Stops.{HasFirstCommits}
use Rattle.ctr_base.specs.declared.growing.TheConstants.{MOST_PAGES}
use Rattle.ctr_base.specs.Opening.{FindsRoot}
use Rattle.ctr_store.specs.Opening.{LogPasses, OverlaidPass, RefusesAs, worn_in}
use Rattle.ctr_pass.specs.exec_Runners.{IsUnbegun}
use Rattle.std.specs.List.{AllByRecursion}
use Rattle.ctr_world.specs.declared.opening.Opening.{Ghosts as Opening}
use Rattle.ctr_world.specs.Held.{Held}
use Rattle.ctr_world.specs.World.{start_in, led_to, IsFullEntry, IsLegalTape, IsTapeOf, IsUndamagedStop, LeavesPrefix}

-- The image stands for a database in which nothing is left to undo of one that was in a state: who
-- is open has begun since, and so has who has an item of the secondary log.
pub record HasNoUndoOf (s : State) (image : Image) : Type 0 where
  pub state : State
  pub stands : StandsForDatabase image state
  pub opens : (x : ℕ) → IsAmong x (xids_in state.tables.opens) → s.tables.next ≤ x
  pub items : (x : ℕ) → x < s.tables.next → HasNoItems x state.tables.items

-- the image stands for a database that counts 30,000 pages
pub record CountsAllPages (image : Image) : Type 0 where
  pub state : State
  pub stands : StandsForDatabase image state
  pub all : MOST_PAGES ≤ state.counted

-- Of a database that the first image stands for, in a state: the tape is legal, no damage was told,
-- undo took no more turns than there was, and, also where a fault stopped the World, a crash at
-- each moment leaves a prefix of the commit order with every commit answered by then, or, before
-- the first entry, what it might have left at the start. Where nothing stopped it, the tape is
-- whole, recovery holds no name, undo took a turn for each item and transaction of the start, and a
-- crash at the end leaves all commits, nothing of the start to undo, and, where a Write was refused
-- as Full, a file of 30,000 pages.
pub record Ends {D B : Type 0} (o : Opening B) (g : Ghosts D) (s : State) (es : List Entry)
    (stop : Option Stop) (undone : ℕ) (disk : D) : Type 0 where
  pub legal : IsLegalTape o s (g.moment_of disk) es
  pub undamaged : IsUndamagedStop stop
  pub undone_most : undone ≤ undo_size s.tables
  pub undone_all : stop ≡ None → undone ≡ undo_size s.tables
  pub whole : stop ≡ None → IsWhole o.lines (led_to o s es)
  pub no_stuck : stop ≡ None → (led_to o s es).state.stuck ≡ []
  pub survives : LeavesPrefix o g s disk es
  pub durable : stop ≡ None → (c : Image) → g.since disk (g.moment_of disk) c
      → HasFirstCommits (start_in o s).base (led_to o s es).state.asked (answers es) c
  pub none_left : stop ≡ None → (c : Image) → g.since disk (g.moment_of disk) c → HasNoUndoOf s c
  pub full : stop ≡ None → (e : Entry) → IsAmong e es → IsFullEntry e → (c : Image)
      → g.since disk (g.moment_of disk) c → CountsAllPages c

-- Whatever the disk tells: the tape stands in the order of the script; where nothing stopped the
-- World, it is whole.
pub record EndsInOrder {D B : Type 0} (o : Opening B) (g : Ghosts D) (es : List Entry)
    (stop : Option Stop) (disk : D) : Type 0 where
  pub tape : IsTapeOf o (g.moment_of disk) es
  pub whole : stop ≡ None → IsWhole o.lines (final o.lines (at_start o.start [] []) es)

-- Nobody has begun a statement, the tape is empty, and nothing has stopped the World.
pub record IsUnbegunWorld {D : Type 0} (lines : List Line) (w : Held D) : Type 0 where
  pub going : w.stop ≡ None
  pub lines_are : w.running.sessions.script.lines ≡ lines
  pub tape : w.running.sessions.tape.items ≡ []
  pub unbegun : AllByRecursion IsUnbegun w.running.sessions.runners.items

-- the World wasn't opened: a fault is counted where it is told, and nowhere else
pub record RefusesWith {D : Type 0} (g : Ghosts D) (old : D) (error : OpenError) (new : D)
    : Type 0 where
  pub later : g.moment_of old ≤ g.moment_of new
  pub faults_later : g.faults_of old ≤ g.faults_of new
  pub fault : error ≡ Fault → CountsFault (g.faults_of old) (g.faults_of new)
  pub no_fault : error ≢ Fault → g.faults_of new ≡ g.faults_of old

-- An image passes the checks that come first: its root is open, all checks of its log and of the
-- pages that the log's records are on pass, and no number is worn. A database that passes them is
-- opened.
pub record PassesOpening (image : Image) : Type 0 where
  pub root : Root
  pub stands : FindsRoot image (Some root)
  pub log : LogPasses root image
  pub pages : OverlaidPass root image
  pub fresh : worn_in root image ≡ None

-- the image stands for no database
abbrev pub StandsForNone : Image → Type 0
StandsForNone image = (s : State) → StandsForDatabase image s → ⊥

-- Why a World isn't opened, by its image: there is no database; the first check of the root, the
-- log and the pages that its records are on fails so, or all of them pass and it stands for no
-- database; or a number is worn.
abbrev pub RefusesWorld : Image → OpenError → Type 0
RefusesWorld image NoDatabase = RefusesAs image NoDatabase
RefusesWorld image (Damaged d) =
    RefusesAs image (Damaged d) ⊎ (PassesOpening image × StandsForNone image)
RefusesWorld image (Worn n) = RefusesAs image (Worn n)
RefusesWorld image Fault = Unit {0}
RefusesWorld image OutOfMemory = Unit {0}
