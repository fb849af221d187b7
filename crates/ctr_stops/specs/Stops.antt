-- What a stop leaves of a run on pages, at each moment.
use Rattle.std.specs.Prelude.{◌≡◌, ◌⊎◌, ℕ, ◌<◌, ◌≤◌, List, [], ◌∷◌, ◌++◌, length, take}
use Rattle.std.specs.List.{AllByRecursion}
use Rattle.ctr_types.specs.declared.tape.Entry.{Entry}
use Rattle.ctr_disk.specs.declared.disk.Disk.{Ghosts}
use Rattle.ctr_disk.specs.Image.{Image}
use Rattle.ctr_model.specs.declared.database.Change.{Change}
use Rattle.ctr_model.specs.Database.{Database, after_all}
use Rattle.ctr_model.specs.Tape.{answered_by}
use Rattle.ctr_model.specs.Texts.{answers}
use Rattle.ctr_store.specs.redo_States.{State}
use Rattle.ctr_passed.specs.record_effects_Standing.{IsDatabaseState, StandsForDatabase}
use Rattle.ctr_store.specs.Store.{View}
use Rattle.ctr_passed.specs.actions_Sites.{site_of}
use Rattle.ctr_kept.specs.ctr_paged.Shown.{Scene, IsShown}
use Rattle.ctr_stops.specs.Fronts.{rows_of_state, HasFronts}

-- the image stands for a database with these rows
pub record StandsForRows (image : Image) (rows : Database) : Type 0 where
  pub state : State
  pub stands : StandsForDatabase image state
  pub rows_are : rows_of_state state ≡ rows

-- The image stands for the base with the first k of the transactions that asked, of this many at
-- least.
pub record HasFirstCommits (base : Database) (asked : List (List Change)) (least : ℕ)
    (image : Image)
    : Type 0 where
  pub k : ℕ
  pub at_least : least ≤ k
  pub at_most : k ≤ length asked
  pub stands : StandsForRows image (after_all (take k asked) base)

-- the first entry is later than this, if there is one
abbrev pub NoEntryBy : ℕ → List Entry → Type 0
NoEntryBy t [] = Unit {0}
NoEntryBy t (e ∷ es) = t < e.moment

-- What a stop at one moment leaves: a prefix of the commit order with every commit that was
-- answered by then, or, before the first entry, what it might have left at the start.
abbrev pub LeavesPrefixAt : (Image → Type 0) → Database → List (List Change) → List Entry → ℕ
    → Image → Type 0
LeavesPrefixAt before base asked es t c = HasFirstCommits base asked (answered_by t es) c
    ⊎ (before c × NoEntryBy t es)

-- a stop at a moment from the start to now leaves an image of which this holds at that moment
abbrev pub LeftSince : {D : Type 0} → Ghosts D → ℕ → D → (ℕ → Image → Type 0) → Type 0
LeftSince g start disk P = (t : ℕ) (c : Image) → start ≤ t → t ≤ g.moment_of disk
    → g.since disk t c → P t c

-- A run from a start: the disk as it was opened, its rows, and who has asked since, in order.
pub record Course (D : Type 0) : Type 0 where
  pub opened : D
  pub base : Database
  pub asked : List (List Change)

-- the course, where more have asked
abbrev pub asking_more : {D : Type 0} → List (List Change) → Course D → Course D
asking_more more c = record c { asked = c.asked ++ more }

-- Whatever is lost of what waits, no commit is that was answered; and at each moment until now a
-- stop left a prefix of the commit order with every commit answered by then, or what it might have
-- left at the start, before the first entry.
pub record KeepsCommits {D : Type 0} (g : Ghosts D) (c : Course D) (es : List Entry) (v : View D)
    : Type 0 where
  pub fronts : HasFronts c.base c.asked (answers es) v
  pub survives : LeftSince g (g.moment_of c.opened) v.disk
      (LeavesPrefixAt (g.images c.opened) c.base c.asked es)
  pub later : g.moment_of c.opened ≤ g.moment_of v.disk

-- Pages may be a database's, and show a scene in which so many have asked.
pub record ShowsAll {D : Type 0} (rows : Database) (order : List (List Change)) (v : View D)
    : Type 0 where
  pub sound : IsDatabaseState v.now
  pub scene : Scene
  pub low : ℕ
  pub shown : IsShown low (site_of v.now) scene
  pub base : scene.state.base ≡ rows
  pub asked : scene.state.asked ≡ order

-- entries came at this moment, none of them an answer
pub record NotesAt (now : ℕ) (es entries : List Entry) : Type 0 where
  pub at : AllByRecursion (λ (e : Entry). e.moment ≡ now) entries
  pub none : answers (es ++ entries) ≡ answers es
