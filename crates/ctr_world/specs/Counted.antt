-- What a World that has ended has counted of the loaded table.
use Rattle.std.specs.Prelude.{◌≡◌, ◌≢◌, Bool, true, false, IsTrue, None}
use Rattle.ctr_disk.specs.declared.disk.Disk.{Ghosts}
use Rattle.ctr_disk.specs.Image.{Image}
use Rattle.ctr_redo.specs.States.{State}
use Rattle.ctr_record_effects.specs.Standing.{StandsForDatabase}
use Rattle.ctr_totals.specs.declared.counting.Totals.{Totals}
use Rattle.ctr_totals.specs.Totals.{no_totals, AreTotals}
use Rattle.ctr_world.specs.declared.opening.Opening.{Ghosts as Opening}
use Rattle.ctr_world.specs.declared.world.Finished.{Finished}
use Rattle.ctr_world.specs.Held.{Held}
use Rattle.ctr_world.specs.World.{rows_asked}

-- Nothing was counted, where that wasn't asked for, or something stopped the World; else, of a
-- database that the first image stands for, the totals of the rows that its tape has led to.
pub record CountsLoaded {D B : Type 0} (o : Opening B) (first : Image) (g : Ghosts D) (asked : Bool)
    (f : Finished D) : Type 0 where
  pub counted : (s : State) → IsTrue g.tells → StandsForDatabase first s → asked ≡ true
      → f.stop ≡ None → AreTotals (rows_asked o s f.tape.entries) f.totals
  pub unasked : asked ≡ false → f.totals ≡ no_totals
  pub stopped : f.stop ≢ None → f.totals ≡ no_totals

-- The totals that are told, for the functions inside, are those of the rows that were asked for.
pub record TotalsAre {D B : Type 0} (o : Opening B) (first : Image) (g : Ghosts D) (asked : Bool)
    (w : Held D) (t : Totals) : Type 0 where
  pub counted : (s : State) → IsTrue g.tells → StandsForDatabase first s → asked ≡ true
      → w.stop ≡ None → AreTotals (rows_asked o s w.running.sessions.tape.items) t
  pub unasked : asked ≡ false → t ≡ no_totals
  pub stopped : w.stop ≢ None → t ≡ no_totals
