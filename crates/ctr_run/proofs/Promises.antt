-- A run keeps what it promises: one that wasn't opened, and one whose World has ended.
use Rattle.std.proofs.Common.{◌≡◌, ◌⊎◌, ◌≤◌, Bool, List, [], Some, sym, subst}
use Rattle.std.specs.Prelude.{IsTrue, ◌^◌, ◌-◌, ℕ}
use Rattle.ctr_types.specs.declared.statement.Line.{Line}
use Rattle.ctr_disk.specs.Crash.{Within}
use Rattle.ctr_disk.specs.Device.{LeavesOnly}
use Rattle.ctr_disk.specs.Image.{Image}
use Rattle.ctr_disk.specs.declared.disk.Disk.{Ghosts}
use Rattle.ctr_disk.specs.declared.fault.Stop.TheVariants.{Worn}
use Rattle.ctr_log.specs.declared.opening.OpenError.{OpenError}
use Rattle.ctr_log.specs.declared.opening.OpenError.TheVariants.{OutOfMemory}
use Rattle.ctr_redo.specs.States.{State}
use Rattle.ctr_record_effects.specs.Standing.{StandsForDatabase}
use Rattle.ctr_store.specs.Opening.{IsUndamaged}
use Rattle.ctr_world.specs.declared.opening.Opening.{Ghosts as Opening}
use Rattle.ctr_world.specs.declared.world.Finished.{Finished as WorldEnd}
use Rattle.ctr_world.specs.totals_Totals.{no_totals}
use Rattle.ctr_world.specs.Counted.{CountsLoaded}
use Rattle.ctr_world.specs.Ended.{Ends, EndsInOrder, PassesOpening, RefusesWith, RefusesWorld}
use Rattle.ctr_world.specs.Opened.{IsOpenedOn}
use Rattle.ctr_world.specs.World.{StopsBy}
use Rattle.ctr_run.specs.declared.ran.Left.{Left}
use Rattle.ctr_run.specs.declared.ran.Ran.{Ran}
use Rattle.ctr_run.specs.declared.ran.RunEnd.{RunEnd}
use Rattle.ctr_run.specs.declared.ran.RunEnd.TheVariants.{Finished, Unopened}
use Rattle.ctr_run.specs.Promises.{IsRunOf}
use Rattle.ctr_run.specs.Running.{EndsRunFor, TellsNoDamage, end_by}
use Rattle.ctr_run.proofs.Ends.{as_asked, counted_moved, ends_for, none_counted, none_in_order, none_leaves, none_over, not_finished, not_unopened, runs_in_order, runs_over, tells_none, untouched_for, untouched_leaves}

-- ---- it wasn't opened

module _ {D : Type 0} (g : Ghosts D) (earlier : (d : D) (s t : ℕ) (c : Image) → s ≤ t → g.since d t c → g.since d s c) (old : D) (lines : List Line) (totals : Bool) (r : Ran D)
    (tape : r.left.tape.entries ≡ []) (undone : r.left.undone ≡ 0) (none : r.left.totals ≡ no_totals) where
  pub refused : (error : OpenError) → r.end ≡ Unopened error → RefusesWith g old error r.left.disk → (IsTrue g.tells → RefusesWorld (g.reads old) error)
      → ((s : State) → IsTrue g.tells → StandsForDatabase (g.reads old) s → IsUndamaged error)
      → ((s : State) → IsTrue g.tells → StandsForDatabase (g.reads old) s → LeavesOnly g old r.left.disk (λ c. g.images old c ⊎ StandsForDatabase c s))
      → IsRunOf g old lines totals r
  refused error end stays why undamaged left =
      let unfinished = not_finished r.end error end in
      let ends : EndsRunFor g old r.left.disk r.end = subst (EndsRunFor g old r.left.disk) (sym end) (stays, why) in
      record {
        ran = λ s told stands. none_over g old lines r.left (r.end ≡ Finished) unfinished tape undone s stays.later (none_leaves g earlier old r.left.disk lines s (left s told stands));
        order = none_in_order g old lines r.left (r.end ≡ Finished) unfinished tape undone stays.later stays.faults_later;
        none = λ e is. record { tape = tape; undone = undone; left = left };
        ends = ends;
        counts = none_counted g old lines totals r unfinished none;
        complete = λ s told stands. as_asked g old r.left.disk s r.end told stands (subst TellsNoDamage (sym end) (undamaged s told stands)) ends;
      }

  -- memory was refused before the disk was touched
  pub untouched : ((d : D) (c : Image) → g.since d (g.moment_of d) c → g.images d c) → r.end ≡ Unopened OutOfMemory → r.left.disk ≡ old → IsRunOf g old lines totals r
  untouched only_now end disk =
      let unfinished = not_finished r.end OutOfMemory end in
      refused OutOfMemory end (untouched_for g earlier only_now old lines r.left (r.end ≡ Finished) unfinished tape undone disk).0 (λ told. tt) (λ s told stands. tt)
      (λ s told stands. untouched_leaves g earlier only_now old lines r.left (r.end ≡ Finished) unfinished tape undone disk s)

-- ---- its World has ended

module _ {D B : Type 0} (o : Opening B) (first : Image) (g : Ghosts D) (old : D) (lines : List Line) (named : IsOpenedOn o first g old lines) (before : Within o.before (g.images old)) where
  abbrev left_by : WorldEnd D → Left D
  left_by f = record { tape = f.tape; undone = f.undone; totals = f.totals; disk = f.disk }

  pub came_to_its_end : (totals : Bool) (f : WorldEnd D) (end : RunEnd) → end ≡ end_by f.stop → (IsTrue g.tells → PassesOpening first)
      → ((s : State) → IsTrue g.tells → StandsForDatabase first s → Ends o g s f.tape.entries f.stop f.undone f.disk) → EndsInOrder o g f.tape.entries f.stop f.disk → CountsLoaded o first g totals f
      → StopsBy f.stop o.faults (g.faults_of f.disk) → (o.start ≤ g.moment_of f.disk) × (o.faults ≤ g.faults_of f.disk) → ((lsn : ℕ) → f.stop ≡ Some (Worn lsn) → 2 ^ 63 - 1 ≤ lsn)
      → IsRunOf g old lines totals (record { end = end; left = left_by f })
  came_to_its_end totals f end ended passes ends order counts stops forward worn =
      let ends_here : (s : State) → IsTrue g.tells → StandsForDatabase (g.reads old) s → Ends o g s f.tape.entries f.stop f.undone f.disk =
      λ s told stands. ends s told (subst (λ (i : Image). StandsForDatabase i s) (sym named.image) stands) in
      let why = ends_for o first g old lines named before (left_by f) end f.stop ended stops passes (λ told s stands. (ends s told stands).undamaged) worn in
      record {
        ran = λ s told stands. runs_over o first g old lines named before (left_by f) end f.stop ended s (ends_here s told stands);
        order = runs_in_order o first g old lines named before (left_by f) end f.stop ended order forward.0 forward.1;
        none = λ e is. not_unopened end f.stop ended e is;
        ends = why;
        counts = counted_moved o first g old lines named before totals f end ended counts;
        complete = λ s told stands. as_asked g old f.disk s end told stands (tells_none o first g old lines named before (left_by f) end f.stop ended (ends_here s told stands).undamaged) why;
      }
