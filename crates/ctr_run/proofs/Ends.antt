-- What a run leaves, by what its World left, in the words of the disk and the script that it was given.
use Rattle.std.proofs.Common.{◌≡◌, ◌≢◌, ◌⊎◌, ◌∙◌, inl, inr, ⊎_elim, ℕ, ◌≤◌, Bool, List, [], ◌++◌, length, Option, Some, None, refl, sym, ap, subst, arith}
use Rattle.std.specs.Prelude.{IsTrue, ◌^◌, ◌-◌}
use Rattle.std.specs.List.{AllByRecursion}
use Rattle.ctr_types.specs.declared.statement.Line.{Line}
use Rattle.ctr_types.specs.declared.tape.Entry.{Entry}
use Rattle.ctr_disk.specs.Crash.{Within}
use Rattle.ctr_disk.specs.Device.{LeavesOnly}
use Rattle.ctr_disk.specs.Image.{Image}
use Rattle.ctr_disk.specs.declared.disk.Disk.{Ghosts}
use Rattle.ctr_disk.specs.declared.fault.Stop.{Stop}
use Rattle.ctr_disk.specs.declared.fault.Stop.TheVariants as stop
use Rattle.ctr_log.specs.declared.opening.OpenError.{OpenError}
use Rattle.ctr_log.specs.declared.opening.OpenError.TheVariants as open_error
use Rattle.ctr_model.specs.declared.tape.Point.{Point}
use Rattle.ctr_model.specs.Tape.{Legal, at_start, final, progress_of, statements_on, IsSerial, IsWhole}
use Rattle.ctr_model.specs.Texts.{answers}
use Rattle.ctr_redo.specs.States.{State}
use Rattle.ctr_record_effects.specs.Standing.{StandsForDatabase}
use Rattle.ctr_world.specs.kept_Turns.{start_point}
use Rattle.ctr_world.specs.stops_Fronts.{rows_of_state}
use Rattle.ctr_world.specs.stops_World.{starting}
use Rattle.ctr_world.specs.stops_Stops.{HasFirstCommits, LeavesPrefixAt, LeftSince}
use Rattle.ctr_home.specs.Blocks.{value_of}
use Rattle.ctr_home.specs.declared.block.Block.TheVariants.{Root as RootBlock}
use Rattle.ctr_home.specs.declared.root.Root.{Root}
use Rattle.ctr_base.proofs.RootLaws.{one_root}
use Rattle.ctr_store.specs.Opening.{worn_in}
use Rattle.ctr_serial.proofs.Lists.{serial_front}
use Rattle.ctr_world.specs.declared.opening.Opening.{Ghosts as Opening}
use Rattle.ctr_world.specs.exec_Order.{StandInOrder}
use Rattle.ctr_world.specs.Held.{Held}
use Rattle.ctr_world.specs.Opened.{IsOpenedOn, IsRunLine}
use Rattle.ctr_world.specs.World.{IsLegalTape, IsTapeOf, LeavesPrefix, StopsBy, IsUndamagedStop as GoesUndamaged}
use Rattle.ctr_world.specs.Ended.{Ends, EndsInOrder, IsUnbegunWorld, PassesOpening, RefusesWorld}
use Rattle.ctr_model.specs.Database.{after_all}
use Rattle.ctr_world.specs.totals_Totals.{no_totals, AreTotals}
use Rattle.ctr_world.specs.declared.world.Finished.{Finished as WorldEnd}
use Rattle.ctr_world.specs.Counted.{CountsLoaded}
use Rattle.ctr_run.specs.Counting.{CountsAsked}
use Rattle.ctr_run.specs.declared.ran.Ran.{Ran}
use Rattle.ctr_run.specs.declared.ran.Left.{Left}
use Rattle.ctr_run.specs.declared.ran.RunEnd.{RunEnd}
use Rattle.ctr_run.specs.declared.ran.RunEnd.TheVariants.{Finished, Unopened, Stopped}
use Rattle.ctr_run.specs.Lines.{IsAtRest, RanOrStopped}
use Rattle.ctr_run.specs.Running.{EndsAsAsked, EndsRunFor, RunsInOrder, RunsOver, StopsFor, TellsNoDamage, end_by, opened_on}
use Rattle.ctr_run.proofs.Order.{only_recovery_ends, order_behind, recovery_adds_none}

-- where a run begins over a database in a state
abbrev point : ℕ → List Line → State → Point
point n ls s = start_point (starting ls n s)

not_stopped : (s : Option Stop) → end_by s ≡ Finished → s ≡ None
not_stopped None is = refl
not_stopped (Some s) is = absurd (cc is)

no_damage : (s : Option Stop) → GoesUndamaged s → TellsNoDamage (end_by s)
no_damage None is = tt
no_damage (Some s) is = is

module _ {D B : Type 0} (o : Opening B) (first : Image) (g : Ghosts D) (old : D) (lines : List Line) (named : IsOpenedOn o first g old lines) (before : Within o.before (g.images old)) where
  -- what is said of the lines and the moment of the World's type holds of those that it was given
  move : (P : ℕ → List Line → Type 0) → P o.start o.lines → P (g.moment_of old) lines
  move P p = subst (λ n. P n lines) named.start (subst (λ (ls : List Line). P o.start ls) named.lines_are p)

  tape_moved : (now : ℕ) (es : List Entry) → IsTapeOf o now es → IsTapeOf (opened_on g old lines) now es
  tape_moved now es tape = record {
    order = move (λ n ls. StandInOrder ls (at_start n [] []) es) tape.order;
    later = move (λ n ls. (final ls (at_start n [] []) es).moment ≤ now) tape.later;
  }

  pub left_moved : (s : State) (disk : D) (es : List Entry) → LeavesPrefix o g s disk es → LeavesPrefix (opened_on g old lines) g s disk es
  left_moved s disk es leaves =
      let moved = move (λ n ls. LeftSince g n disk (LeavesPrefixAt o.before (rows_of_state s) (final ls (point n ls s) es).state.asked es)) leaves in
      λ t c from le left. ⊎_elim (λ it. inl it) (λ was. inr (before c was.0, was.1)) (moved t c from le left)

  -- what was counted
  pub counted_moved : (asked : Bool) (f : WorldEnd D) (end : RunEnd) → end ≡ end_by f.stop → CountsLoaded o first g asked f
      → CountsAsked g old lines asked (record { end = end; left = record { tape = f.tape; undone = f.undone; totals = f.totals; disk = f.disk } })
  counted_moved asked f end ended counts = record {
    counted = λ s told stands is done.
        move (λ n ls. AreTotals (after_all (final ls (point n ls s) f.tape.entries).state.asked (final ls (point n ls s) f.tape.entries).state.base) f.totals)
        (counts.counted s told (subst (λ (i : Image). StandsForDatabase i s) (sym named.image) stands) is (not_stopped f.stop (sym ended ∙ done)));
    unasked = counts.unasked;
    unfinished = λ other. counts.stopped (λ none. other (ended ∙ ap end_by none));
  }

  module _ (l : Left D) (end : RunEnd) (stopped : Option Stop) (ended : end ≡ end_by stopped) where
    fine : end ≡ Finished → stopped ≡ None
    fine is = not_stopped stopped (sym ended ∙ is)

    -- over a database
    pub runs_over : (s : State) → Ends o g s l.tape.entries stopped l.undone l.disk → RunsOver g old s lines (end ≡ Finished) l
    runs_over s ends =
        let es : List Entry = l.tape.entries in
        record {
          legal = record {
            legal = move (λ n ls. Legal ls (point n ls s) es) ends.legal.legal;
            later = move (λ n ls. (final ls (point n ls s) es).moment ≤ g.moment_of l.disk) ends.legal.later;
          };
          survives = left_moved s l.disk es ends.survives;
          undone_most = ends.undone_most;
          complete = λ is. record {
            whole = move (λ n ls. IsWhole ls (final ls (point n ls s) es)) (ends.whole (fine is));
            no_stuck = move (λ n ls. (final ls (point n ls s) es).state.stuck ≡ []) (ends.no_stuck (fine is));
            undone = ends.undone_all (fine is);
            durable = move (λ n ls. (c : Image) → g.since l.disk (g.moment_of l.disk) c → HasFirstCommits (rows_of_state s) (final ls (point n ls s) es).state.asked (answers es) c) (ends.durable (fine is));
            none_left = ends.none_left (fine is);
            full = ends.full (fine is);
          };
        }

    pub tells_none : GoesUndamaged stopped → TellsNoDamage end
    tells_none undamaged = subst TellsNoDamage (sym ended) (no_damage stopped undamaged)

    -- whatever the disk tells
    pub runs_in_order : EndsInOrder o g l.tape.entries stopped l.disk → o.start ≤ g.moment_of l.disk → o.faults ≤ g.faults_of l.disk → RunsInOrder g old lines (end ≡ Finished) l
    runs_in_order ends later faults = record {
      tape = tape_moved (g.moment_of l.disk) l.tape.entries ends.tape;
      whole = λ is. move (λ n ls. IsWhole ls (final ls (at_start n [] []) l.tape.entries)) (ends.whole (fine is));
      later = subst (λ n. n ≤ g.moment_of l.disk) named.start later;
      faults = subst (λ n. n ≤ g.faults_of l.disk) named.faults faults;
    }

    stops_for : (s : Stop) → stopped ≡ Some s → (IsTrue g.tells → (st : State) → StandsForDatabase first st → GoesUndamaged stopped) → ((lsn : ℕ) → stopped ≡ Some (stop.Worn lsn) → 2 ^ 63 - 1 ≤ lsn) → StopsFor g old s
    stops_for stop.Fault is undamaged worn = tt
    stops_for (stop.Damaged d) is undamaged worn = λ told st stands. subst GoesUndamaged is (undamaged told st (subst (λ (i : Image). StandsForDatabase i st) (sym named.image) stands))
    stops_for (stop.Worn lsn) is undamaged worn = worn lsn is

    pub ends_for : StopsBy stopped o.faults (g.faults_of l.disk) → (IsTrue g.tells → PassesOpening first) → (IsTrue g.tells → (st : State) → StandsForDatabase first st → GoesUndamaged stopped)
        → ((lsn : ℕ) → stopped ≡ Some (stop.Worn lsn) → 2 ^ 63 - 1 ≤ lsn) → EndsRunFor g old l.disk end
    ends_for stops passes undamaged worn = subst (EndsRunFor g old l.disk) (sym ended) (by stopped refl (subst (λ n. StopsBy stopped n (g.faults_of l.disk)) named.faults stops))
      where
        passes_old : IsTrue g.tells → PassesOpening (g.reads old)
        passes_old told = subst PassesOpening named.image (passes told)

        by : (s : Option Stop) → stopped ≡ s → StopsBy stopped (g.faults_of old) (g.faults_of l.disk) → EndsRunFor g old l.disk (end_by s)
        by None is stops = (subst (λ (q : Option Stop). StopsBy q (g.faults_of old) (g.faults_of l.disk)) is stops, passes_old)
        by (Some s) is stops = (subst (λ (q : Option Stop). StopsBy q (g.faults_of old) (g.faults_of l.disk)) is stops, passes_old, stops_for s is undamaged worn)

-- ---- nothing was run

module _ {D : Type 0} (g : Ghosts D) (old : D) (lines : List Line) (l : Left D) (done : Type 0) (unfinished : done → ⊥) (tape : l.tape.entries ≡ []) (undone : l.undone ≡ 0) where
  pub none_over : (s : State) → g.moment_of old ≤ g.moment_of l.disk → LeavesPrefix (opened_on g old lines) g s l.disk [] → RunsOver g old s lines done l
  none_over s later leaves = record {
    legal = subst (IsLegalTape (opened_on g old lines) s (g.moment_of l.disk)) (sym tape) (record { legal = tt; later = later });
    survives = subst (LeavesPrefix (opened_on g old lines) g s l.disk) (sym tape) leaves;
    undone_most = let none = undone in omega (arith, none);
    complete = λ is. absurd (unfinished is);
  }

  pub none_in_order : g.moment_of old ≤ g.moment_of l.disk → g.faults_of old ≤ g.faults_of l.disk → RunsInOrder g old lines done l
  none_in_order later faults = record {
    tape = subst (IsTapeOf (opened_on g old lines) (g.moment_of l.disk)) (sym tape) (record { order = tt; later = later });
    whole = λ is. absurd (unfinished is);
    later = later;
    faults = faults;
  }

-- nothing was counted
pub none_counted : {D : Type 0} (g : Ghosts D) (old : D) (lines : List Line) (asked : Bool) (r : Ran D) → r.end ≢ Finished → r.left.totals ≡ no_totals → CountsAsked g old lines asked r
none_counted g old lines asked r unfinished none = record { counted = λ s told stands is done. absurd (unfinished done); unasked = λ is. none; unfinished = λ other. none }

at_once : (n : ℕ) → n ≤ n
at_once n = omega arith

-- what a crash leaves of a database that wasn't opened, in the words of its rows
pub none_leaves : {D : Type 0} (g : Ghosts D) → ((d : D) (s t : ℕ) (c : Image) → s ≤ t → g.since d t c → g.since d s c) → (old left : D) (lines : List Line) (s : State)
    → LeavesOnly g old left (λ c. g.images old c ⊎ StandsForDatabase c s) → LeavesPrefix (opened_on g old lines) g s left []
none_leaves g earlier old left lines s leaves = λ t c from le there. ⊎_elim
    (λ was. inr (was, tt))
    (λ stands. inl (record { k = 0; at_least = omega arith; at_most = omega arith; stands = record { state = s; stands = stands; rows_are = refl } }))
    (leaves.each c (earlier left (g.moment_of old) t c from there))

-- the disk wasn't touched
module _ {D : Type 0} (g : Ghosts D) (earlier : (d : D) (s t : ℕ) (c : Image) → s ≤ t → g.since d t c → g.since d s c) (only_now : (d : D) (c : Image) → g.since d (g.moment_of d) c → g.images d c)
    (old : D) (lines : List Line) (l : Left D) (done : Type 0) (unfinished : done → ⊥) (tape : l.tape.entries ≡ []) (undone : l.undone ≡ 0) (disk : l.disk ≡ old) where
  later_same : g.moment_of old ≤ g.moment_of l.disk
  later_same = subst (λ d. g.moment_of old ≤ g.moment_of d) (sym disk) (at_once (g.moment_of old))

  faults_same : g.faults_of old ≤ g.faults_of l.disk
  faults_same = subst (λ d. g.faults_of old ≤ g.faults_of d) (sym disk) (at_once (g.faults_of old))

  -- so a crash leaves what it might have left
  pub untouched_leaves : (s : State) → LeavesOnly g old l.disk (λ c. g.images old c ⊎ StandsForDatabase c s)
  untouched_leaves s = subst (λ d. LeavesOnly g old d (λ c. g.images old c ⊎ StandsForDatabase c s)) (sym disk)
      (record { later = at_once (g.moment_of old); each = λ c left. inl (only_now old c left); before = λ t c le left. inl left })

  pub untouched_over : (s : State) → RunsOver g old s lines done l
  untouched_over s = none_over g old lines l done unfinished tape undone s later_same
      (none_leaves g earlier old l.disk lines s (untouched_leaves s))

  pub untouched_in_order : RunsInOrder g old lines done l
  untouched_in_order = none_in_order g old lines l done unfinished tape undone later_same faults_same

  pub untouched_for : EndsRunFor g old l.disk (Unopened open_error.OutOfMemory)
  untouched_for = (record { later = later_same; faults_later = faults_same; fault = λ is. absurd (cc is); no_fault = λ isnt. ap (λ d. g.faults_of d) disk }, λ told. tt)

-- the end of a World isn't that of one that wasn't opened
pub not_unopened : {A : Type 0} (end : RunEnd) (stopped : Option Stop) → end ≡ end_by stopped → (error : OpenError) → end ≡ Unopened error → A
not_unopened end None ended error is = absurd (cc (sym is ∙ ended))
not_unopened end (Some s) ended error is = absurd (cc (sym is ∙ ended))

-- a run that wasn't opened isn't finished
pub not_finished : (end : RunEnd) (error : OpenError) → end ≡ Unopened error → end ≢ Finished
not_finished end error is fine = absurd (cc (sym is ∙ fine))

-- ---- where nothing fails

worn_not : (image : Image) (n : ℕ) → RefusesWorld image (open_error.Worn n) → PassesOpening image → ⊥
worn_not image n refuses passes =
    let same = one_root (value_of RootBlock image) refuses.0 passes.root refuses.1.0 passes.stands.0 in
    cc (sym (subst (λ (r : Root). worn_in r image ≡ Some n) same refuses.4) ∙ passes.fresh)

pub as_asked : {D : Type 0} (g : Ghosts D) (old new : D) (s : State) (e : RunEnd) → IsTrue g.tells → StandsForDatabase (g.reads old) s → TellsNoDamage e → EndsRunFor g old new e → EndsAsAsked g old new e
as_asked g old new s Finished told stands undamaged ends = tt
as_asked g old new s (Unopened open_error.NoDatabase) told stands undamaged ends = undamaged
as_asked g old new s (Unopened (open_error.Damaged d)) told stands undamaged ends = undamaged
as_asked g old new s (Unopened (open_error.Worn n)) told stands undamaged ends = λ passes. worn_not (g.reads old) n (ends.1 told) passes
as_asked g old new s (Unopened open_error.Fault) told stands undamaged ends = ends.0.fault refl
as_asked g old new s (Unopened open_error.OutOfMemory) told stands undamaged ends = tt
as_asked g old new s (Stopped stop.Fault) told stands undamaged ends = ends.0
as_asked g old new s (Stopped (stop.Damaged d)) told stands undamaged ends = undamaged
as_asked g old new s (Stopped (stop.Worn lsn)) told stands undamaged ends = ends.2

-- ---- the serial order

-- no line was run yet
pub begins_serial : {D : Type 0} (start : ℕ) (lines : List Line) (w : Held D) → w.running.sessions.script.lines ≡ lines → IsUnbegunWorld lines w → RanOrStopped start lines 0 w
begins_serial start lines w script un = inl (
  un.going,
  record {
    tape = ap statements_on un.tape;
    each = λ s one. ap (λ es. progress_of (final w.running.sessions.script.lines (at_start start [] []) es) s) un.tape;
  },
)

-- all lines were run, and then recovery alone went on
pub serial_end : (lines : List Line) → AllByRecursion IsRunLine lines → (start : ℕ) {D : Type 0} (w : Held D) → w.running.sessions.script.lines ≡ lines → RanOrStopped start lines (length lines) w
    → (es more : List Entry) → es ≡ w.running.sessions.tape.items ++ more → (w.stop ≢ None → es ≡ w.running.sessions.tape.items) → StandInOrder lines (at_start start [] []) es → IsSerial lines es
serial_end lines runs start w script (inl (going, ran)) es more is stays order =
    let h = w.running.sessions in
    let behind = order_behind lines (at_start start [] []) h.tape.items more (subst (StandInOrder lines (at_start start [] [])) is order) in
    let all = only_recovery_ends lines runs (final lines (at_start start [] []) h.tape.items) (λ s one. subst (λ (ls : List Line). IsAtRest lines (length lines) (final ls (at_start start [] []) h.tape.items) s) script (ran.each s one)) more behind in
    serial_front lines (length lines) es (ap statements_on is ∙ recovery_adds_none h.tape.items more all ∙ ran.tape)
serial_end lines runs start w script (inr stopped) es more is stays order = subst (IsSerial lines) (sym (stays stopped.0)) stopped.1
