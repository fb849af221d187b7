-- What a World on pages keeps of its store between any two turns.
use Rattle.std.specs.Prelude.{ℕ, List}
use Rattle.ctr_types.specs.declared.statement.Line.{Line}
use Rattle.ctr_disk.specs.declared.disk.Disk.{Ghosts}
use Rattle.ctr_passed.specs.area_Images.{undo_size}
use Rattle.ctr_store.specs.redo_States.{State}
use Rattle.ctr_passed.specs.record_effects_States.{area_in}
use Rattle.ctr_store.specs.Store.{View, LeavesFront}
use Rattle.ctr_kept.specs.ctr_names.Held.{names_of_items}
use Rattle.ctr_passed.specs.actions_Sites.{site_of}
use Rattle.ctr_kept.specs.Walk.{Mind}
use Rattle.ctr_kept.specs.Turns.{Start, KeepsRun, state_now}
use Rattle.ctr_stops.specs.Fronts.{rows_of_state}
use Rattle.ctr_stops.specs.Pages.{HoldsPages}
use Rattle.ctr_stops.specs.Stops.{Course, KeepsCommits}

-- what a run begins with whose store holds this state
abbrev pub starting : List Line → ℕ → State → Start
starting lines moment s = record {
  lines = lines;
  moment = moment;
  base = rows_of_state s;
  stuck = names_of_items (area_in s).title s.tables.items;
  size = undo_size s.tables;
}

-- the course of a run, up to where its tape has led
abbrev pub course_of : {D : Type 0} → Start → D → Mind → Course D
course_of c opened w = record {
  opened = opened;
  base = c.base;
  asked = (state_now c w).asked;
}

-- The tape leads to what stands in the store, whose state may be a database's, with pages blank
-- that sessions count on as empty. At each moment until now a stop left a prefix of the commit
-- order, and however much of what waits is lost it is one; and from now on a crash leaves
-- what is hardened with some of what waits.
pub record KeepsWorld {D : Type 0} (g : Ghosts D) (c : Start) (opened : D) (v : View D) (w : Mind)
    : Type 0 where
  pub walks : KeepsRun c (g.moment_of v.disk) (site_of v.now) w
  pub pages : HoldsPages w v.now
  pub commits : KeepsCommits g (course_of c opened w) w.tape v
  pub rests : LeavesFront g v v
