-- When a state is that of a database, what an image stands for, and when two states show the same.
use Rattle.std.specs.Prelude.{◌≡◌, ℕ, ◌<◌, ◌≤◌, Bool}
use Rattle.ctr_redo.specs.ctr_disk.Image.{Image}
use Rattle.ctr_redo.specs.States.{State}
use Rattle.ctr_redo.specs.Images.{FoldsTo}
use Rattle.ctr_area.specs.Chains.{pages_bound}
use Rattle.ctr_area.specs.Checked.{ArePassed}
use Rattle.ctr_area.specs.Images.{versions_in, image_rows}
use Rattle.ctr_area.specs.Sound.{IsSoundArea}
use Rattle.ctr_record_effects.specs.States.{pages_in, area_in}

-- the pages of a state are sound with its tables
abbrev pub HasSoundArea : State → Type 0
HasSoundArea s = IsSoundArea s.counted s.tables (area_in s)

-- A state is sound, with the tables of another one, and shows the same: the chains of names and
-- rows, and the rows of an image, whoever is committed.
pub record ShowsAlike (old new : State) : Type 0 where
  pub versions : (committed : ℕ → Bool)
      → versions_in committed (area_in new) ≡ versions_in committed (area_in old)
  pub rows : (committed : ℕ → Bool)
      → image_rows committed (area_in new) ≡ image_rows committed (area_in old)
  pub tables : new.tables ≡ old.tables
  pub sound : HasSoundArea new

-- A state that a database may be in: no check of its pages fails wherever a chain leads, they are
-- sound with its tables, no more are counted than there may be, and a transaction can be drawn.
pub record IsDatabaseState (s : State) : Type 0 where
  pub passed : ArePassed s.counted (pages_in s)
  pub sound : HasSoundArea s
  pub few : s.counted ≤ pages_bound
  pub some : 0 < s.tables.next

-- An image stands for a database, in this state. Its root, its log of one or two generations and
-- its homes are whole and fold to the state, where a second generation's Checkpoint is the tables
-- before it; and the state is sound.
pub record StandsForDatabase (image : Image) (s : State) : Type 0 where
  pub folds : FoldsTo image s
  pub sound : IsDatabaseState s
