-- What a run leaves, and the cause of each status.
use Rattle.std.proofs.Common.{◌≡◌, ◌≢◌, ◌⊎◌, ◌∙◌, inl, inr, ℕ, List, refl, sym, ap, subst}
use Rattle.std.specs.Prelude.{◌≤◌, ◌+◌, IsTrue, Ok, Err, false, length}
use Rattle.ctr_types.specs.Faults.{CountsFault}
use Rattle.ctr_types.specs.declared.statement.Line.{Line}
use Rattle.ctr_types.specs.declared.statement.Script.{Script}
use Rattle.ctr_disk.specs.declared.disk.Disk.{Ghosts}
use Rattle.ctr_disk.specs.declared.fault.Stop.TheVariants as stop
use Rattle.ctr_io.specs.declared.edges.Source.{Ghosts as Source}
use Rattle.ctr_log.specs.declared.opening.OpenError.{OpenError}
use Rattle.ctr_log.specs.declared.opening.OpenError.TheVariants as open_error
use Rattle.ctr_redo.specs.States.{State}
use Rattle.ctr_script.specs.declared.error.ScriptError.{ScriptError}
use Rattle.ctr_script.specs.declared.error.ScriptError.TheVariants as script_error
use Rattle.ctr_script.specs.Written.{ErrorHasCause, MayHinder, IsShortText, DecideAnswer}
use Rattle.ctr_database.specs.ctr_run.ctr_world.Ended.{RefusesWith}
use Rattle.ctr_database.specs.ctr_run.declared.ran.Left.{Left}
use Rattle.ctr_database.specs.ctr_run.declared.ran.Ran.{Ran}
use Rattle.ctr_database.specs.ctr_run.declared.ran.RunEnd.{RunEnd}
use Rattle.ctr_database.specs.ctr_run.declared.ran.RunEnd.TheVariants as run
use Rattle.ctr_database.specs.ctr_run.Promises.{IsRunOf}
use Rattle.ctr_database.specs.ctr_run.Running.{EndsRunFor, RunsInOrder, RunsOver}
use Rattle.ctr_top.specs.declared.outcome.Outcome.{Outcome}
use Rattle.ctr_top.specs.declared.ending.Ending.{Ending}
use Rattle.ctr_top.specs.declared.ending.Ending.TheVariants as ending
use Rattle.ctr_top.specs.Endings.{opened_as, ran_as, read_as}
use Rattle.ctr_top.specs.Top.{EndsBy, GoesForward, RanScript, RunCauses, SourceWhy, IsScriptRead, IsHindered, IsByScript, IsUnrun, WantsScript}

-- ---- how a run ended

opened_fine : (error : OpenError) → opened_as error ≢ ending.Finished
opened_fine open_error.NoDatabase is = absurd (cc is)
opened_fine (open_error.Damaged d) is = absurd (cc is)
opened_fine (open_error.Worn number) is = absurd (cc is)
opened_fine open_error.Fault is = absurd (cc is)
opened_fine open_error.OutOfMemory is = absurd (cc is)

-- what is told as finished was
pub ran_fine : (end : RunEnd) → ran_as end ≡ ending.Finished → end ≡ run.Finished
ran_fine run.Finished is = refl
ran_fine (run.Unopened error) is = absurd (opened_fine error is)
ran_fine (run.Stopped stop.Fault) is = absurd (cc is)
ran_fine (run.Stopped (stop.Damaged d)) is = absurd (cc is)
ran_fine (run.Stopped (stop.Worn lsn)) is = absurd (cc is)

opened_well : (error : OpenError) → IsScriptRead (opened_as error)
opened_well open_error.NoDatabase = tt
opened_well (open_error.Damaged d) = tt
opened_well (open_error.Worn number) = tt
opened_well open_error.Fault = tt
opened_well open_error.OutOfMemory = tt

-- a run's script was read
pub ran_well : (end : RunEnd) → IsScriptRead (ran_as end)
ran_well run.Finished = tt
ran_well (run.Unopened error) = opened_well error
ran_well (run.Stopped stop.Fault) = tt
ran_well (run.Stopped (stop.Damaged d)) = tt
ran_well (run.Stopped (stop.Worn lsn)) = tt

opened_calm : {D : Type 0} (g : Ghosts D) (old new : D) (error : OpenError) → RefusesWith g old error new → opened_as error ≢ ending.DiskFault → g.faults_of new ≡ g.faults_of old
opened_calm g old new error stays other = stays.no_fault (λ is. other (ap opened_as is))

-- where the ending isn't that of a fault, none was met
pub ran_calm : {D : Type 0} (g : Ghosts D) (old new : D) (end : RunEnd) → EndsRunFor g old new end → ran_as end ≢ ending.DiskFault → g.faults_of new ≡ g.faults_of old
ran_calm g old new run.Finished why other = why.0
ran_calm g old new (run.Unopened error) why other = opened_calm g old new error why.0 other
ran_calm g old new (run.Stopped stop.Fault) why other = absurd (other refl)
ran_calm g old new (run.Stopped (stop.Damaged d)) why other = why.0
ran_calm g old new (run.Stopped (stop.Worn lsn)) why other = why.0

-- what is promised of a run that is done is so of one that is told as done
module _ {D : Type 0} (g : Ghosts D) (old : D) (lines : List Line) (l : Left D) (done told : Type 0) (only : told → done) where
  pub over_told : (base : State) → RunsOver g old base lines done l → RunsOver g old base lines told l
  over_told base h = record { legal = h.legal; survives = h.survives; undone_most = h.undone_most; complete = λ is. h.complete (only is) }

  pub order_told : RunsInOrder g old lines done l → RunsInOrder g old lines told l
  order_told h = record { tape = h.tape; whole = λ is. h.whole (only is); later = h.later; faults = h.faults }

-- ---- scripts that were read, and those that weren't

-- the script wasn't read, so nothing was finished
pub not_read_fine : (error : ScriptError) → read_as error ≢ ending.Finished
not_read_fine (script_error.Refused line at) is = absurd (cc is)
not_read_fine script_error.TooLong is = absurd (cc is)
not_read_fine script_error.ReadFault is = absurd (cc is)
not_read_fine script_error.OutOfMemory is = absurd (cc is)

-- the error is this one, or one that may come in place of any
as_ending : (error wanted : ScriptError) → (error ≡ wanted) ⊎ MayHinder error → (read_as error ≡ read_as wanted) ⊎ IsHindered (read_as error)
as_ending error wanted (inl is) = inl (ap read_as is)
as_ending error wanted (inr (inl is)) = inr (inl (ap read_as is))
as_ending error wanted (inr (inr is)) = inr (inr (ap read_as is))

wants_none : (bytes : List ℕ) (error : ScriptError) → WantsScript bytes (read_as error)
wants_none bytes (script_error.Refused line at) = inl (λ is. is)
wants_none bytes script_error.TooLong = inl (λ is. is)
wants_none bytes script_error.ReadFault = inl (λ is. is)
wants_none bytes script_error.OutOfMemory = inr (inl refl)

not_read_well : (error : ScriptError) → IsScriptRead (read_as error) → error ≡ script_error.OutOfMemory
not_read_well (script_error.Refused line at) is = absurd is
not_read_well script_error.TooLong is = absurd is
not_read_well script_error.ReadFault is = absurd is
not_read_well script_error.OutOfMemory is = refl

module _ {S : Type 0} (s : Source S) (source new : S) where
  source_why_read : (error : ScriptError) → ErrorHasCause s source error → (error ≡ script_error.ReadFault → CountsFault (s.faults_of source) (s.faults_of new)) → SourceWhy s source new (read_as error)
  source_why_read (script_error.Refused line at) reason counts = reason
  source_why_read script_error.TooLong reason counts = reason
  source_why_read script_error.ReadFault reason counts = counts refl
  source_why_read script_error.OutOfMemory reason counts = tt

  source_why : (e : Ending) → IsScriptRead e → SourceWhy s source new e
  source_why ending.Finished read = tt
  source_why (ending.Refused line at) read = absurd read
  source_why ending.TooLong read = absurd read
  source_why ending.Usage read = tt
  source_why ending.NoDatabase read = tt
  source_why (ending.Damaged d) read = tt
  source_why ending.DiskFault read = tt
  source_why ending.ReadFault read = absurd read
  source_why ending.WriteFault read = tt
  source_why ending.OutOfMemory read = tt
  source_why ending.Exists read = tt
  source_why (ending.Worn number) read = tt

module _ {D S : Type 0} (g : Ghosts D) (old : D) (s : Source S) (source new : S) (o : Outcome D) where
  -- a script that was read
  pub lines_causes : (script : Script) → EndsBy g old o → (IsTrue s.tells → IsShortText (s.left source) script.lines) → (IsTrue s.tells → DecideAnswer (s.left source) (Ok script)) → s.faults_of new ≡ s.faults_of source → RunCauses g old s source new o
  lines_causes script by read decided same = record {
    by_disk = λ is. by;
    unread = λ unread. absurd (unread (subst IsScriptRead (sym by.is) (ran_well by.end)));
    by_source = source_why s source new o.ending (subst IsScriptRead (sym by.is) (ran_well by.end));
    by_script = λ t. record {
      wants = inr (inr (script.lines, (read t).written));
      refused = λ line at is. absurd ((decided t).refused line at is);
      too_long = λ is. absurd ((decided t).too_long is);
    };
    disk_calm = λ other. ran_calm g old o.left.disk by.end by.why (λ is. other (by.is ∙ is));
    source_calm = λ other. same;
  }

  -- a script that wasn't
  pub read_causes : (error : ScriptError) → o.ending ≡ read_as error → (o.ending ≡ ending.OutOfMemory → EndsBy g old o) → ErrorHasCause s source error → (error ≡ script_error.ReadFault → CountsFault (s.faults_of source) (s.faults_of new))
      → (IsTrue s.tells → DecideAnswer (s.left source) (Err error)) → IsUnrun o.left → o.left.disk ≡ old
      → (error ≢ script_error.ReadFault → s.faults_of new ≡ s.faults_of source) → RunCauses g old s source new o
  read_causes error is memory reason counts decided none disk calm = record {
    by_disk = λ read. memory (is ∙ ap read_as (not_read_well error (subst IsScriptRead is read)));
    unread = λ unread. (none, disk);
    by_source = subst (SourceWhy s source new) (sym is) (source_why_read s source new error reason counts);
    by_script = λ t. subst (IsByScript (s.left source)) (sym is) (record {
      wants = wants_none (s.left source) error;
      refused = λ line at r. as_ending error (script_error.Refused line at) ((decided t).refused line at r);
      too_long = λ long. as_ending error script_error.TooLong ((decided t).too_long long);
    });
    disk_calm = λ other. ap (λ d. g.faults_of d) disk;
    source_calm = λ other. calm (λ fault. other (is ∙ ap read_as fault));
  }

-- ---- a script that was read and run

module _ {D S : Type 0} (g : Ghosts D) (old : D) (s : Source S) (source new : S) (script : Script) (r : Ran D) (e : Ending) (is : e ≡ ran_as r.end) (runs : IsRunOf g old script.lines false r) where
  abbrev told_as : Outcome D
  told_as = record { ending = e; left = r.left }

  pub read_ran : ((bytes : List ℕ) × IsShortText bytes script.lines) → (IsTrue s.tells → IsShortText (s.left source) script.lines) → RanScript g old s source told_as
  read_ran text read =
      let only : e ≡ ending.Finished → r.end ≡ run.Finished = λ fine. ran_fine r.end (sym is ∙ fine) in
      record {
        lines = script.lines;
        script = record { of_bytes = (text.0, text.1.written); script = λ t. inl (read t).written; at_end = λ t fine. (read t).written };
        order = order_told g old script.lines r.left (r.end ≡ run.Finished) (e ≡ ending.Finished) only runs.order;
        over = λ base told stands. over_told g old script.lines r.left (r.end ≡ run.Finished) (e ≡ ending.Finished) only base (runs.ran base told stands);
      }

  pub run_causes : (IsTrue s.tells → IsShortText (s.left source) script.lines) → (IsTrue s.tells → DecideAnswer (s.left source) (Ok script)) → s.faults_of new ≡ s.faults_of source → RunCauses g old s source new told_as
  run_causes = lines_causes g old s source new told_as script (record { end = r.end; is = is; why = runs.ends; none = runs.none; asked = runs.complete })

  pub run_forward : s.faults_of source ≤ s.faults_of new → (IsTrue s.tells → length (s.left source) ≤ length (s.left new) + 16777217) → GoesForward g s old r.left.disk source new
  run_forward later taken = record { later = runs.order.later; disk_faults = runs.order.faults; source_faults = later; taken = taken }
