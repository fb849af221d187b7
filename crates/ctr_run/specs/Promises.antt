-- What a run of a script promises, in whichever order its actors take their turns.
use Rattle.std.specs.Prelude.{◌≡◌, Bool, IsTrue, List, []}
use Rattle.ctr_types.specs.declared.statement.Line.{Line}
use Rattle.ctr_disk.specs.declared.disk.Disk.{Ghosts}
use Rattle.ctr_log.specs.declared.opening.OpenError.{OpenError}
use Rattle.ctr_redo.specs.States.{State}
use Rattle.ctr_record_effects.specs.Standing.{StandsForDatabase}
use Rattle.ctr_run.specs.declared.ran.Ran.{Ran}
use Rattle.ctr_run.specs.declared.ran.RunEnd.TheVariants.{Finished, Unopened}
use Rattle.ctr_run.specs.Counting.{CountsAsked}
use Rattle.ctr_run.specs.Running.{EndsAsAsked, EndsRunFor, RunsInOrder, RunsNone, RunsOver}

-- the database wasn't opened, and the tape is empty
pub record IsUnopened {D : Type 0} (r : Ran D) : Type 0 where
  pub error : OpenError
  pub end : r.end ≡ Unopened error
  pub tape : r.left.tape.entries ≡ []

-- A run of these lines over this disk.
pub record IsRunOf {D : Type 0} (g : Ghosts D) (old : D) (lines : List Line) (totals : Bool)
    (r : Ran D) : Type 0 where
  -- Over a database the tape is legal, and a crash at any moment from the call's start to its end
  -- leaves the rows of a prefix of the commit order with every commit answered by then, or, before
  -- the first entry, what it might have left as the call began; what is finished is complete.
  pub ran : (s : State) → IsTrue g.tells → StandsForDatabase (g.reads old) s
      → RunsOver g old s lines (r.end ≡ Finished) r.left
  -- Whatever the disk tells, the tape stands in the order of the script.
  pub order : RunsInOrder g old lines (r.end ≡ Finished) r.left
  -- Where the database isn't opened, nothing is run, and a crash leaves it as it was.
  pub none : (e : OpenError) → r.end ≡ Unopened e → RunsNone g old r.left
  -- Each end has its cause.
  pub ends : EndsRunFor g old r.left.disk r.end
  -- What was counted of the loaded table: over a database, where the run is finished, the totals of
  -- all that asked for a commit.
  pub counts : CountsAsked g old lines totals r
  -- Where nothing fails, what is opened is finished, or comes to the last number of a record.
  pub complete : (s : State) → IsTrue g.tells → StandsForDatabase (g.reads old) s
      → EndsAsAsked g old r.left.disk r.end
