-- What turns on threads make of a World.
use Rattle.std.specs.Prelude.{List}
use Rattle.ctr_types.specs.declared.statement.Line.{Line}
use Rattle.ctr_types.specs.declared.tape.Actor.{Actor}
use Rattle.ctr_types.specs.declared.tape.Entry.{Entry}
use Rattle.ctr_types.specs.declared.tape.Turn.{Turn}
use Rattle.ctr_disk.specs.declared.disk.Disk.{Ghosts}
use Rattle.ctr_workers.specs.Leads.{LeadsByTurns}
use Rattle.ctr_workers.specs.Workers.{IsActor}
use Rattle.ctr_world.specs.Ended.{IsUnbegunWorld}
use Rattle.ctr_world.specs.Held.{Held}
use Rattle.ctr_world.specs.Turns.{EndsTurn, FinishesBy}

-- a step of an actor's, with this answer, leads from one World to another
abbrev pub StepsTo : {D : Type 0} → Ghosts D → Actor → Turn → Held D → Held D → Type 0
StepsTo g actor answer old new = EndsTurn g answer actor old new

-- The tape is that of a World of these lines in which nothing had begun, which steps of actors led
-- on, one at a time with nothing between, and which was finished then.
pub record CameByTurns {D : Type 0} (g : Ghosts D) (lines : List Line) (tape : List Entry) : Type 0
  where
    pub begun : Held D
    pub last : Held D
    pub unbegun : IsUnbegunWorld lines begun
    pub turns : LeadsByTurns IsActor (StepsTo g) begun last
    pub finishes : FinishesBy g last tape
