-- Where nothing fails a script runs to its end.
use Rattle.std.proofs.Common.{◌≡◌, ◌≢◌, ◌∙◌, inl, inr, ℕ, List, refl, sym, ap, subst, arith}
use Rattle.std.specs.Prelude.{IsTrue}
use Rattle.ctr_types.specs.declared.statement.Line.{Line}
use Rattle.ctr_types.specs.Faults.{CountsFault}
use Rattle.ctr_disk.specs.declared.disk.Disk.{Ghosts}
use Rattle.ctr_disk.specs.declared.fault.Stop.TheVariants as stop
use Rattle.ctr_io.specs.declared.edges.Source.{Ghosts as Source}
use Rattle.ctr_log.specs.declared.opening.OpenError.{OpenError}
use Rattle.ctr_log.specs.declared.opening.OpenError.TheVariants as open_error
use Rattle.ctr_model.specs.Language.{SpellsLine}
use Rattle.ctr_model.specs.Lines.{IsWritten, IsRefusedIn}
use Rattle.ctr_redo.specs.States.{State}
use Rattle.ctr_record_effects.specs.Standing.{StandsForDatabase}
use Rattle.ctr_script.specs.Written.{IsShortText}
use Rattle.ctr_database.specs.ctr_run.ctr_world.Ended.{PassesOpening}
use Rattle.ctr_database.specs.ctr_run.declared.ran.RunEnd.{RunEnd}
use Rattle.ctr_database.specs.ctr_run.declared.ran.RunEnd.TheVariants as run
use Rattle.ctr_database.specs.ctr_run.Running.{EndsAsAsked, RunsNone}
use Rattle.ctr_top.specs.declared.outcome.Outcome.{Outcome}
use Rattle.ctr_top.specs.declared.ending.Ending.{Ending}
use Rattle.ctr_top.specs.declared.ending.Ending.TheVariants as ending
use Rattle.ctr_top.specs.declared.commands.Ended.{Ended}
use Rattle.ctr_top.specs.Endings.{ran_as, work}
use Rattle.ctr_top.specs.Top.{EndsUnfailed, work_of, RunCauses, SourceWhy, IsScriptRead}

abbrev pub NoScriptIsRefused : Type 0
NoScriptIsRefused = (bytes : List ℕ) (ls : List Line) (line at : ℕ) → IsWritten SpellsLine bytes ls → IsRefusedIn SpellsLine bytes line at → ⊥

-- only work that came to its end and whose sink failed has another ending than its work
pub work_is : (e : Ending) → e ≢ ending.WriteFault → work e ≡ e
work_is ending.Finished other = refl
work_is (ending.Refused line at) other = refl
work_is ending.TooLong other = refl
work_is ending.Usage other = refl
work_is ending.NoDatabase other = refl
work_is (ending.Damaged d) other = refl
work_is ending.DiskFault other = refl
work_is ending.ReadFault other = refl
work_is ending.WriteFault other = absurd (other refl)
work_is ending.OutOfMemory other = refl
work_is ending.Exists other = refl
work_is (ending.Worn number) other = refl

-- by the end of a run in which the disk counted no fault
pub by_end : {D : Type 0} (g : Ghosts D) (old : D) (o : Outcome D) (passes : PassesOpening (g.reads old)) (no_disk : CountsFault (g.faults_of old) (g.faults_of o.left.disk) → ⊥)
    (end : RunEnd) → o.ending ≡ ran_as end → ((error : OpenError) → end ≡ run.Unopened error → RunsNone g old o.left) → EndsAsAsked g old o.left.disk end → EndsUnfailed o.ending o.left
by_end g old o passes no_disk run.Finished is none asked = inl is
by_end g old o passes no_disk (run.Unopened open_error.NoDatabase) is none asked = absurd asked
by_end g old o passes no_disk (run.Unopened (open_error.Damaged d)) is none asked = absurd asked
by_end g old o passes no_disk (run.Unopened (open_error.Worn n)) is none asked = absurd (asked passes)
by_end g old o passes no_disk (run.Unopened open_error.Fault) is none asked = absurd (no_disk asked)
by_end g old o passes no_disk (run.Unopened open_error.OutOfMemory) is none asked = inr (inl (is, (none open_error.OutOfMemory refl).tape))
by_end g old o passes no_disk (run.Stopped stop.Fault) is none asked = absurd (no_disk asked)
by_end g old o passes no_disk (run.Stopped (stop.Damaged d)) is none asked = absurd asked
by_end g old o passes no_disk (run.Stopped (stop.Worn lsn)) is none asked = inr (inr (lsn, is, asked))

-- a run in which nothing failed is finished, or ended for want of memory before its first entry, or is worn
module _ {D S : Type 0} (law : NoScriptIsRefused) (g : Ghosts D) (old : D) (s : Source S) (source new : S) (o : Outcome D) (h : RunCauses g old s source new o)
    (told : IsTrue g.tells) (source_told : IsTrue s.tells) (ls : List Line) (script : IsShortText (s.left source) ls) (base : State) (stands : StandsForDatabase (g.reads old) base) (passes : PassesOpening (g.reads old))
    (no_disk : CountsFault (g.faults_of old) (g.faults_of o.left.disk) → ⊥) (no_source : CountsFault (s.faults_of source) (s.faults_of new) → ⊥) where
  -- the script was read, since the source holds one and didn't fail
  is_read : (e : Ending) → SourceWhy s source new e → IsScriptRead e
  is_read ending.Finished from = tt
  is_read (ending.Refused line at) from = absurd (law (s.left source) ls line at script.written (from source_told).refused)
  is_read ending.TooLong from = absurd (omega (arith, script.few, from source_told))
  is_read ending.Usage from = tt
  is_read ending.NoDatabase from = tt
  is_read (ending.Damaged d) from = tt
  is_read ending.DiskFault from = tt
  is_read ending.ReadFault from = absurd (no_source from)
  is_read ending.WriteFault from = tt
  is_read ending.OutOfMemory from = tt
  is_read ending.Exists from = tt
  is_read (ending.Worn number) from = tt

  pub complete_of : EndsUnfailed o.ending o.left
  complete_of =
      let by = h.by_disk (is_read o.ending h.by_source) in
      by_end g old o passes no_disk by.end by.is by.none (by.asked base told stands)

  -- where its text was put too
  pub complete_put : (e : Ended D) → work_of e ≡ o → e.ending ≢ ending.WriteFault → EndsUnfailed e.ending e.left
  complete_put e outcome not =
      let same : e.ending ≡ o.ending = sym (work_is e.ending not) ∙ ap (λ w. w.ending) outcome in
      subst (λ w. EndsUnfailed w e.left) (sym same) (subst (λ l. EndsUnfailed o.ending l) (sym (ap (λ w. w.left) outcome)) complete_of)
