-- What a run has counted of the loaded table.
use Rattle.std.specs.Prelude.{◌≡◌, ◌≢◌, Bool, true, false, IsTrue, List}
use Rattle.ctr_types.specs.declared.statement.Line.{Line}
use Rattle.ctr_disk.specs.declared.disk.Disk.{Ghosts}
use Rattle.ctr_redo.specs.States.{State}
use Rattle.ctr_record_effects.specs.Standing.{StandsForDatabase}
use Rattle.ctr_world.specs.totals_Totals.{no_totals, AreTotals}
use Rattle.ctr_world.specs.World.{rows_asked}
use Rattle.ctr_run.specs.declared.ran.Ran.{Ran}
use Rattle.ctr_run.specs.declared.ran.RunEnd.TheVariants.{Finished}
use Rattle.ctr_run.specs.Running.{opened_on}

-- Nothing was counted, where that wasn't asked for, or the run isn't finished; else, over a
-- database, the totals of the rows that the tape has led to.
pub record CountsAsked {D : Type 0} (g : Ghosts D) (old : D) (lines : List Line) (asked : Bool)
    (r : Ran D) : Type 0 where
  pub counted : (s : State) → IsTrue g.tells → StandsForDatabase (g.reads old) s → asked ≡ true
      → r.end ≡ Finished
      → AreTotals (rows_asked (opened_on g old lines) s r.left.tape.entries) r.left.totals
  pub unasked : asked ≡ false → r.left.totals ≡ no_totals
  pub unfinished : r.end ≢ Finished → r.left.totals ≡ no_totals
