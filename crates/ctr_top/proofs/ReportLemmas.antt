-- What a report leaves.
use Rattle.std.proofs.Common.{◌≡◌, ◌⊎◌, sym, subst}
use Rattle.std.specs.Prelude.{IsTrue}
use Rattle.ctr_disk.specs.Device.{LeavesOnly}
use Rattle.ctr_disk.specs.declared.disk.Disk.{Ghosts}
use Rattle.ctr_log.specs.declared.opening.OpenError.{OpenError}
use Rattle.ctr_redo.specs.States.{State}
use Rattle.ctr_record_effects.specs.Standing.{StandsForDatabase}
use Rattle.ctr_store.specs.Opening.{IsUndamaged}
use Rattle.ctr_database.specs.ctr_run.ctr_world.Ended.{PassesOpening, RefusesWith, RefusesWorld}
use Rattle.ctr_database.specs.ctr_run.declared.ran.RunEnd.TheVariants.{Finished, Unopened}
use Rattle.ctr_database.specs.ctr_run.Running.{EndsRunFor, RunsNone}
use Rattle.ctr_database.proofs.ctr_run.Ends.{as_asked}
use Rattle.ctr_top.specs.declared.outcome.Outcome.{Outcome}
use Rattle.ctr_top.specs.declared.ending.Ending.TheVariants as ending
use Rattle.ctr_top.specs.Endings.{opened_as}
use Rattle.ctr_top.specs.Top.{IsUnrun, ReportLeaves}

module _ {D : Type 0} (g : Ghosts D) (old : D) (o : Outcome D) (none : IsUnrun o.left) (disk : D) (same : o.left.disk ≡ disk)
    (left : (base : State) → IsTrue g.tells → StandsForDatabase (g.reads old) base → LeavesOnly g old disk (λ c. g.images old c ⊎ StandsForDatabase c base)) where
  left_told : (base : State) → IsTrue g.tells → StandsForDatabase (g.reads old) base → LeavesOnly g old o.left.disk (λ c. g.images old c ⊎ StandsForDatabase c base)
  left_told base told stands = subst (λ d. LeavesOnly g old d (λ c. g.images old c ⊎ StandsForDatabase c base)) (sym same) (left base told stands)

  ran_none : RunsNone g old o.left
  ran_none = record { tape = none.0; undone = none.1; left = left_told }

  -- the database was counted
  pub counted : o.ending ≡ ending.Finished → g.faults_of disk ≡ g.faults_of old → (IsTrue g.tells → PassesOpening (g.reads old)) → ReportLeaves g old o
  counted is faults passes = record {
    none = none;
    left = left_told;
    causes = record { end = Finished; is = is; why = subst (λ d. EndsRunFor g old d Finished) (sym same) (faults, passes); none = λ error unopened. ran_none; asked = λ base told stands. tt };
    unbegun = λ stop stopped. absurd (cc stopped);
  }

  -- it wasn't opened
  pub uncounted : (error : OpenError) → o.ending ≡ opened_as error → RefusesWith g old error disk → (IsTrue g.tells → RefusesWorld (g.reads old) error)
      → ((base : State) → IsTrue g.tells → StandsForDatabase (g.reads old) base → IsUndamaged error) → ReportLeaves g old o
  uncounted error is stays refused undamaged =
      let why : EndsRunFor g old o.left.disk (Unopened error) = subst (λ d. EndsRunFor g old d (Unopened error)) (sym same) (stays, refused) in
      record {
        none = none;
        left = left_told;
        causes = record { end = Unopened error; is = is; why = why; none = λ it unopened. ran_none; asked = λ base told stands. as_asked g old o.left.disk base (Unopened error) told stands (undamaged base told stands) why };
        unbegun = λ stop stopped. absurd (cc stopped);
      }
