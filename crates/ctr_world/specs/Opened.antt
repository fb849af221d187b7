-- What a World on pages is opened on: a disk, and a script.
use Rattle.std.specs.Prelude.{◌≡◌, ◌^◌, ◌-◌, ◌<◌, ◌≤◌, List, length}
use Rattle.std.specs.List.{AllByRecursion}
use Rattle.ctr_types.specs.declared.statement.Line.{Line}
use Rattle.ctr_disk.specs.declared.disk.Disk.{Ghosts}
use Rattle.ctr_disk.specs.Crash.{Within}
use Rattle.ctr_disk.specs.Image.{Image}
use Rattle.ctr_pass.specs.writing_Tables.{HasFittingColumns}
use Rattle.ctr_world.specs.declared.opening.Opening.{Ghosts as Opening}

-- The disk and the lines are those that the World's type names.
pub record IsOpenedOn {D B : Type 0} (o : Opening B) (first : Image) (g : Ghosts D) (disk : D)
    (lines : List Line) : Type 0 where
  pub image : first ≡ g.reads disk
  pub before : Within (g.images disk) o.before
  pub start : o.start ≡ g.moment_of disk
  pub faults : o.faults ≡ g.faults_of disk
  pub lines_are : o.lines ≡ lines

-- the line is of one of the eight sessions, and a table that it makes has columns that fit
pub record IsRunLine (l : Line) : Type 0 where
  pub least : 1 ≤ l.session
  pub most : l.session ≤ 8
  pub fits : HasFittingColumns l.statement

-- a World runs a script of these lines
pub record CanRun (lines : List Line) : Type 0 where
  pub each : AllByRecursion IsRunLine lines
  pub few : length lines < 2 ^ 32 - 1
