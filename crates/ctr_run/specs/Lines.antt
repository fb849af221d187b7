-- A script's lines run one after another over a World.
use Rattle.std.specs.Prelude.{◌≡◌, ◌≢◌, ◌⊎◌, ◌==◌, ◌+◌, ℕ, false, List, ◌++◌, None}
use Rattle.std.specs.List.{AllByRecursion}
use Rattle.ctr_types.specs.declared.statement.Line.{Line}
use Rattle.ctr_types.specs.declared.tape.Actor.{Actor}
use Rattle.ctr_types.specs.declared.tape.Actor.TheVariants as actor
use Rattle.ctr_types.specs.declared.tape.Entry.{Entry}
use Rattle.ctr_model.specs.declared.tape.Point.{Point}
use Rattle.ctr_model.specs.Tape.{progress_of, IsSerial}
use Rattle.ctr_world.specs.txn_Held.{IsOneOfEight}
use Rattle.ctr_serial.specs.Lines.{count_in, HasLines, IsEntryOfLine}
use Rattle.ctr_world.specs.exec_sessions_Sessions.{Sessions}
use Rattle.ctr_world.specs.exec_Order.{led_from}
use Rattle.ctr_world.specs.Held.{Held}

-- a session has finished the statements of the first lines, and is in the middle of none
abbrev pub IsAtRest : List Line → ℕ → Point → ℕ → Type 0
IsAtRest lines k p s = progress_of p s ≡ record { finished = count_in lines k s; made = 0 }

-- The first lines were run to their ends, and no other has begun.
pub record RanLines (start : ℕ) (lines : List Line) (k : ℕ) (h : Sessions) : Type 0 where
  pub tape : HasLines lines k h.tape.items
  pub each : (s : ℕ) → IsOneOfEight s → IsAtRest lines k (led_from start h) s

-- The first lines were run, or the World was stopped, with a tape in the order of the lines.
abbrev pub RanOrStopped : {D : Type 0} → ℕ → List Line → ℕ → Held D → Type 0
RanOrStopped start lines k w = ((w.stop ≡ None) × RanLines start lines k w.running.sessions)
    ⊎ ((w.stop ≢ None) × IsSerial lines w.running.sessions.tape.items)

-- The first lines were run, and behind their entries stand those of the line that comes next, which
-- isn't finished.
pub record InLine (start : ℕ) (lines : List Line) (k : ℕ) (l : Line) (h : Sessions) : Type 0 where
  pub front : List Entry
  pub mine : List Entry
  pub tape : h.tape.items ≡ front ++ mine
  pub before : HasLines lines k front
  pub own : AllByRecursion (IsEntryOfLine l.session (count_in lines k l.session + 1)) mine
  pub finished : (progress_of (led_from start h) l.session).finished ≡ count_in lines k l.session
  pub others : (s : ℕ) → IsOneOfEight s → (s == l.session) ≡ false
      → IsAtRest lines k (led_from start h) s

-- the actor is no session
abbrev pub IsBetween : Actor → Type 0
IsBetween (actor.Session s) = ⊥
IsBetween actor.Undo = Unit {0}
IsBetween actor.Flusher = Unit {0}
IsBetween actor.Cleaner = Unit {0}
