-- What a generated script's run leaves.
use Rattle.std.proofs.Common.{◌≡◌, ◌≢◌, ◌∙◌, inl, inr, ℕ, ◌≤◌, Bool, true, false, List, [], ◌∷◌, Option, Some, refl, sym, ap, arith}
use Rattle.std.specs.Prelude.{IsTrue}
use Rattle.std.specs.List.{AllByRecursion}
use Rattle.ctr_types.specs.declared.statement.Line.{Line}
use Rattle.ctr_disk.specs.Image.{Image}
use Rattle.ctr_disk.specs.declared.disk.Disk.{Ghosts}
use Rattle.ctr_load.specs.Generated.{generated}
use Rattle.ctr_load.specs.Whole.{IsSpelled, LinesAreFew, LinesAreSpelled}
use Rattle.ctr_log.specs.declared.opening.OpenError.{OpenError}
use Rattle.ctr_model.specs.Tape.{IsSerial, statements_on}
use Rattle.ctr_redo.specs.States.{State}
use Rattle.ctr_record_effects.specs.Standing.{StandsForDatabase}
use Rattle.ctr_serial.proofs.Lists.{serial_front}
use Rattle.ctr_database.specs.ctr_run.ctr_world.Opened.{CanRun, IsRunLine}
use Rattle.ctr_database.specs.ctr_run.ctr_world.totals_Totals.{no_totals}
use Rattle.ctr_database.specs.ctr_run.Counting.{CountsAsked}
use Rattle.ctr_database.specs.ctr_run.Promises.{IsRunOf}
use Rattle.ctr_database.specs.ctr_run.Running.{EndsAsAsked, EndsRunFor, RunsInOrder, RunsNone, RunsOver}
use Rattle.ctr_database.specs.ctr_run.declared.ran.Ran.{Ran}
use Rattle.ctr_database.specs.ctr_run.declared.ran.RunEnd.TheVariants as run
use Rattle.ctr_database.proofs.ctr_run.Ends.{untouched_in_order, untouched_over}
use Rattle.ctr_words.specs.declared.words.Subcommand.{Subcommand}
use Rattle.ctr_words.specs.declared.words.Subcommand.TheVariants as subcommand
use Rattle.ctr_top.specs.declared.ending.Ending.{Ending}
use Rattle.ctr_top.specs.declared.ending.Ending.TheVariants as ending
use Rattle.ctr_top.specs.declared.outcome.Outcome.{Outcome}
use Rattle.ctr_top.specs.Endings.{ran_as}
use Rattle.ctr_top.specs.Top.{IsFinished, Loads}
use Rattle.ctr_top.proofs.CompleteLemmas.{by_end}
use Rattle.ctr_top.proofs.NothingDone.{ends_refused, memory_not_fine}
use Rattle.ctr_top.proofs.RunLemmas.{order_told, over_told, ran_calm, ran_fine}
use Rattle.ctr_top.proofs.ScriptLemmas.{run_line}

-- the lines that a load asks for
abbrev pub lines_asked : Option Subcommand → List Line
lines_asked (Some (subcommand.Load frames threads keys sessions count seed)) = generated sessions count seed
lines_asked _ = []

spelled_run : (ls : List Line) → AllByRecursion IsSpelled ls → AllByRecursion IsRunLine ls
spelled_run [] all = tt
spelled_run (l ∷ ls) all = (run_line l all.0.0 all.0.1, spelled_run ls all.1)

-- a generated script can be run
pub generated_runs : LinesAreSpelled → LinesAreFew → (sessions count seed : ℕ) → 1 ≤ sessions → sessions ≤ 8 → count ≤ 1000000 → CanRun (generated sessions count seed)
generated_runs spelled few sessions count seed some most small = record {
  each = spelled_run (generated sessions count seed) (spelled sessions count seed some most (omega (arith, small)));
  few = let most_lines = (few sessions count seed).1 in omega (arith, most, small, most_lines);
}

-- whether the load is on threads
abbrev pub threads_asked : Option Subcommand → Bool
threads_asked (Some (subcommand.Load frames threads keys sessions count seed)) = threads
threads_asked _ = false

-- the script was made and run
pub loads_ran : {D : Type 0} (g : Ghosts D) (old : D) (lines : List Line) (threads : Bool) (r : Ran D) (e : Ending) → e ≡ ran_as r.end → IsRunOf g old lines true r
    → (threads ≡ false → IsSerial lines r.left.tape.entries) → Loads g old lines threads (record { ending = e; left = r.left })
loads_ran g old lines threads r e is runs serial =
    let fine : e ≡ ending.Finished → r.end ≡ run.Finished = λ done. ran_fine r.end (sym is ∙ done) in
    record {
      order = order_told g old lines r.left (r.end ≡ run.Finished) (e ≡ ending.Finished) fine runs.order;
      over = λ base told stands. over_told g old lines r.left (r.end ≡ run.Finished) (e ≡ ending.Finished) fine base (runs.ran base told stands);
      serial = serial;
      causes = record { end = r.end; is = is; why = runs.ends; none = runs.none; asked = runs.complete };
      calm = λ other. ran_calm g old r.left.disk r.end runs.ends (λ fault. other (is ∙ fault));
      complete = λ base told stands passes no_disk. by_end g old (record { ending = e; left = r.left }) passes no_disk r.end is runs.none (runs.complete base told stands);
      counted = λ base told stands done. runs.counts.counted base told stands refl (fine done);
      uncounted = λ other. runs.counts.unfinished (λ finished. other (is ∙ ap ran_as finished));
    }

-- what is so in serial order is so of either
pub loads_either : {D : Type 0} (g : Ghosts D) (old : D) (lines : List Line) (threads : Bool) (o : Outcome D) → Loads g old lines false o → Loads g old lines threads o
loads_either g old lines threads o h = record {
  order = h.order;
  over = h.over;
  serial = λ none. h.serial refl;
  causes = h.causes;
  calm = h.calm;
  complete = h.complete;
  counted = h.counted;
  uncounted = h.uncounted;
}

-- memory was refused for the script
pub loads_refused : {D : Type 0} (g : Ghosts D) (earlier : (d : D) (s t : ℕ) (c : Image) → s ≤ t → g.since d t c → g.since d s c) (only_now : (d : D) (c : Image) → g.since d (g.moment_of d) c → g.images d c)
    (old : D) (lines : List Line) (threads : Bool) (o : Outcome D) → o.left.disk ≡ old → o.left.tape.entries ≡ [] → o.left.undone ≡ 0 → o.left.totals ≡ no_totals → o.ending ≡ ending.OutOfMemory → Loads g old lines threads o
loads_refused g earlier only_now old lines threads o disk tape undone totals is =
    let unfinished : o.ending ≢ ending.Finished = memory_not_fine o.ending is in
    record {
      order = untouched_in_order g earlier only_now old lines o.left (IsFinished o) unfinished tape undone disk;
      over = λ base told stands. untouched_over g earlier only_now old lines o.left (IsFinished o) unfinished tape undone disk base;
      serial = λ none. serial_front lines 0 o.left.tape.entries (ap statements_on tape);
      causes = ends_refused g earlier only_now old o disk tape undone is;
      calm = λ other. ap (λ d. g.faults_of d) disk;
      complete = λ base told stands passes no_disk. inr (inl (is, tape));
      counted = λ base told stands done. absurd (unfinished done);
      uncounted = λ other. totals;
    }
