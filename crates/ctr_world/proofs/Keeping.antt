-- What a World keeps, over a turn that was answered and over one that failed.
use Rattle.std.proofs.Common.{◌≡◌, ⊎_elim, inl, inr, ℕ, ◌-◌, ◌^◌, ◌≤◌, false, IsTrue, List, [], Option, Some, None, Ok, Err, refl, sym, ◌∙◌, ap, subst, arith}
use Rattle.std.specs.Prelude.{is_some}
use Rattle.ctr_types.specs.Faults.{CountsFault, HasFault}
use Rattle.ctr_types.specs.declared.statement.Line.{Line}
use Rattle.ctr_types.specs.declared.statement.Script.{Script}
use Rattle.ctr_types.specs.declared.tape.Entry.{Entry}
use Rattle.ctr_disk.specs.declared.disk.Disk.{Ghosts}
use Rattle.ctr_disk.specs.declared.fault.Stop.{Stop}
use Rattle.ctr_disk.specs.declared.fault.Stop.TheVariants.{Worn}
use Rattle.ctr_disk.specs.declared.fault.StoreFault.{StoreFault}
use Rattle.ctr_disk.specs.declared.fault.StoreFault.TheVariants.{Fault, Damaged}
use Rattle.ctr_disk.specs.Image.{Image}
use Rattle.ctr_base.specs.Base.{IsSoundImage}
use Rattle.ctr_model.specs.Tape.{Legal, at_start, final}
use Rattle.ctr_redo.specs.States.{State}
use Rattle.ctr_record_effects.specs.Standing.{StandsForDatabase}
use Rattle.ctr_undo.specs.kept_Turns.{Start, start_point}
use Rattle.ctr_undo.specs.kept_Walk.{Mind}
use Rattle.ctr_undo.specs.stops_Stops.{LeavesPrefixAt, LeftSince}
use Rattle.ctr_undo.specs.stops_World.{KeepsWorld, course_of}
use Rattle.ctr_store.specs.Store.{View}
use Rattle.ctr_undo.specs.Left.{left_in}
use Rattle.ctr_pass.specs.session_world_Ready.{LeavesDisk, LeavesFrontOrGrows}
use Rattle.ctr_pass.specs.exec_Order.{StandInOrder}
use Rattle.ctr_world.specs.declared.opening.Opening.{Ghosts as Opening}
use Rattle.ctr_world.specs.Held.{Held, Running}
use Rattle.ctr_world.specs.World.{IsWorldReady, Shows, IsLegalTape, IsTapeOf, IsUndamagedStop, IsWornAt, KeepsPassIn, LeavesPrefix, StopsBy, Kept, led_to, stop_by, start_in}
use Rattle.ctr_world.proofs.Quiet.{after}

-- an image that stands for a database is sound
pub sound_of : (first : Image) (s : State) → StandsForDatabase first s → IsSoundImage first
sound_of first s stands = (stands.folds.root, stands.folds.sound)

pub tape_of : {D B : Type 0} (o : Opening B) (g : Ghosts D) (w : Running D) → w.sessions.script.lines ≡ o.lines → IsWorldReady o g w → IsTapeOf o (g.moment_of w.store.disk) w.sessions.tape.items
tape_of o g w lines ready = record {
  order = subst (λ (ls : List Line). StandInOrder ls (at_start o.start [] []) w.sessions.tape.items) lines ready.ordered.order;
  later = subst (λ (ls : List Line). (final ls (at_start o.start [] []) w.sessions.tape.items).moment ≤ g.moment_of w.store.disk) lines ready.ordered.later;
}

pub legal_of : {D B : Type 0} (o : Opening B) (first : Image) (g : Ghosts D) (s : State) (w : Running D) → Shows o first g s w → IsLegalTape o s (g.moment_of w.store.disk) w.sessions.tape.items
legal_of o first g s w shows = record {
  legal = subst (Legal o.lines (start_point (start_in o s))) (sym shows.shows.tape) shows.shows.world.keeps.walks.legal;
  later = subst (λ (es : List Entry). (final o.lines (start_point (start_in o s)) es).moment ≤ g.moment_of w.store.disk) (sym shows.shows.tape) shows.shows.world.keeps.walks.later;
}

unworn : {D : Type 0} (w : Running D) (e : StoreFault) → IsWornAt (Some (stop_by e)) w
unworn w Fault = tt
unworn w (Damaged d) = tt

pub none_is : {A : Type 0} (q : Option A) → false ≡ is_some q → q ≡ None
none_is None is = refl
none_is (Some x) is = absurd cc

-- whoever answered met no fault
pub none_more : {T : Type 0} (x : T) (before now : ℕ) → HasFault {T = T} Fault before now (Ok x) → now ≡ before
none_more x before now faults = faults.fine (λ is. absurd cc)

-- ---- what a crash leaves

-- what a turn leaves that begins in a World, however it ends
abbrev pub LeavesTurns : {D : Type 0} → Ghosts D → Type 0
LeavesTurns {D} g = (c : Start) (opened : D) (a b : View D) (w : Mind) → KeepsWorld g c opened a w → LeavesFrontOrGrows g a b → LeftSince g (g.moment_of opened) b.disk (LeavesPrefixAt (g.images opened) c.base (course_of c opened w).asked w.tape)

-- what is left since the disk was opened, in the words of what the World was opened on
pub prefix_left : {D B : Type 0} (o : Opening B) (first : Image) (g : Ghosts D) (s : State) (w : Running D) (shows : Shows o first g s w) (now : D)
    → LeftSince g (g.moment_of shows.opened) now (LeavesPrefixAt (g.images shows.opened) (start_in o s).base (led_to o s shows.mind.tape).state.asked shows.mind.tape) → LeavesPrefix o g s now w.sessions.tape.items
prefix_left o first g s w shows now survives = subst (LeavesPrefix o g s now) (sym shows.shows.tape)
    (λ t c from le left. ⊎_elim inl (λ was. inr (shows.on.before c was.0, was.1)) (survives t c (subst (λ n. n ≤ t) shows.on.start from) le left))

-- so it is of a World that is shown
pub prefix_now : {D B : Type 0} (o : Opening B) (first : Image) (g : Ghosts D) (s : State) (w : Running D) → Shows o first g s w → LeavesPrefix o g s w.store.disk w.sessions.tape.items
prefix_now o first g s w shows = prefix_left o first g s w shows w.store.disk shows.shows.world.keeps.commits.survives

-- The World has come to the last number of a record.
pub kept_worn : {D B : Type 0} (o : Opening B) (first : Image) (g : Ghosts D) (p : Held D) → p.stop ≡ None → 2 ^ 63 - 1 ≤ p.running.store.next → Kept o first g p → Kept o first g (record p { stop = Some (Worn p.running.store.next) })
kept_worn o first g p going worn kept = record {
  ready = λ none. absurd cc;
  shows = λ s tells stands none. absurd cc;
  pass = λ s tells stands none. absurd cc;
  tape = kept.tape;
  legal = kept.legal;
  sized = kept.sized;
  undamaged = λ s tells stands. tt;
  left = λ s tells stands stopped. prefix_now o first g s p.running (kept.shows s tells stands going);
  lines_are = kept.lines_are;
  each = kept.each;
  count = kept.count;
  later = kept.later;
  faults_later = kept.faults_later;
  stops = subst (λ (q : Option Stop). StopsBy q o.faults (g.faults_of p.running.store.disk)) going kept.stops;
  worn = (refl, worn);
}

-- no more is left, of as much
pub less_left : (left was size now : ℕ) → left ≤ was → was ≤ size → now ≡ size → left ≤ now
less_left left was size now less most same = omega (arith, less, most, same)

module _ {D B : Type 0} (o : Opening B) (first : Image) (g : Ghosts D) (p : Held D) (new : Running D) (kept : Kept o first g p) (going : p.stop ≡ None) (script : new.sessions.script ≡ p.running.sessions.script) (size : new.size ≡ p.running.size)
    (later : g.moment_of p.running.store.disk ≤ g.moment_of new.store.disk) where
  abbrev old : Running D
  old = p.running

  lines_now : new.sessions.script.lines ≡ o.lines
  lines_now = ap (λ (sc : Script). sc.lines) script ∙ kept.lines_are

  none_met : g.faults_of old.store.disk ≡ o.faults
  none_met = subst (λ (q : Option Stop). StopsBy q o.faults (g.faults_of old.store.disk)) going kept.stops

  -- it was answered
  pub kept_on : IsWorldReady o g new → ((s : State) → IsTrue g.tells → IsSoundImage first → Shows o first g s old → KeepsPassIn o s old → Shows o first g s new × KeepsPassIn o s new) → g.faults_of new.store.disk ≡ g.faults_of old.store.disk
      → Kept o first g (record p { running = new })
  kept_on ready both faults = record {
    ready = λ none. ready;
    shows = λ s tells stands none. (now s tells stands).0;
    pass = λ s tells stands none. (now s tells stands).1;
    tape = tape_of o g new lines_now ready;
    legal = λ s tells stands. legal_of o first g s new (now s tells stands).0;
    sized = λ s tells stands. size ∙ kept.sized s tells stands;
    undamaged = λ s tells stands. subst IsUndamagedStop (sym going) tt;
    left = λ s tells stands stopped. absurd (stopped going);
    lines_are = lines_now;
    each = kept.each;
    count = ready.count;
    later = after o.start (g.moment_of old.store.disk) (g.moment_of new.store.disk) kept.later later;
    faults_later = subst (λ n. o.faults ≤ n) (sym faults) kept.faults_later;
    stops = subst (λ (q : Option Stop). StopsBy q o.faults (g.faults_of new.store.disk)) (sym going) (faults ∙ none_met);
    worn = subst (λ (q : Option Stop). IsWornAt q new) (sym going) tt;
  }
    where
      now : (s : State) → IsTrue g.tells → StandsForDatabase first s → Shows o first g s new × KeepsPassIn o s new
      now s tells stands = both s tells (sound_of first s stands) (kept.shows s tells stands going) (kept.pass s tells stands going)

  -- it failed, and the World has stopped
  module _ {T : Type 0} (e : StoreFault) (told : (s : State) → IsTrue g.tells → IsSoundImage first → Shows o first g s old → KeepsPassIn o s old → e ≡ Fault) (tape : new.sessions.tape.items ≡ old.sessions.tape.items) (count : left_in new.undo ≤ new.size)
      (law : LeavesTurns g) (disk : LeavesDisk {T = T} first g old.store new.store (Err e)) where
    stopped_by : (x : StoreFault) → HasFault {T = T} Fault (g.faults_of old.store.disk) (g.faults_of new.store.disk) (Err x) → StopsBy (Some (stop_by x)) o.faults (g.faults_of new.store.disk)
    stopped_by Fault faults = subst (λ n. CountsFault n (g.faults_of new.store.disk)) none_met (faults.failed refl)
    stopped_by (Damaged d) faults = faults.fine (λ is. absurd cc) ∙ none_met

    kept_stopped : Kept o first g (record { running = new; stop = Some (stop_by e) })
    kept_stopped = record {
      ready = λ none. absurd cc;
      shows = λ s tells stands none. absurd cc;
      pass = λ s tells stands none. absurd cc;
      tape = record {
        order = subst (StandInOrder o.lines (at_start o.start [] [])) (sym tape) kept.tape.order;
        later = after _ (g.moment_of old.store.disk) (g.moment_of new.store.disk) (subst (λ (es : List Entry). (final o.lines (at_start o.start [] []) es).moment ≤ g.moment_of old.store.disk) (sym tape) kept.tape.later) later;
      };
      legal = λ s tells stands. record {
        legal = subst (Legal o.lines (start_point (start_in o s))) (sym tape) (kept.legal s tells stands).legal;
        later = after _ (g.moment_of old.store.disk) (g.moment_of new.store.disk) (subst (λ (es : List Entry). (final o.lines (start_point (start_in o s)) es).moment ≤ g.moment_of old.store.disk) (sym tape) (kept.legal s tells stands).later) later;
      };
      sized = λ s tells stands. size ∙ kept.sized s tells stands;
      undamaged = λ s tells stands. subst (λ (x : StoreFault). IsUndamagedStop (Some (stop_by x))) (sym (told s tells (sound_of first s stands) (kept.shows s tells stands going) (kept.pass s tells stands going))) tt;
      left = λ s tells stands stopped.
          let shows = kept.shows s tells stands going in
          subst (LeavesPrefix o g s new.store.disk) (sym tape)
          (prefix_left o first g s old shows new.store.disk (law (start_in o s) shows.opened old.store new.store shows.mind shows.shows.world.keeps (disk.left tells (sound_of first s stands))));
      lines_are = lines_now;
      each = kept.each;
      count = count;
      later = after o.start (g.moment_of old.store.disk) (g.moment_of new.store.disk) kept.later later;
      faults_later = after o.faults (g.faults_of old.store.disk) (g.faults_of new.store.disk) kept.faults_later disk.faults.later;
      stops = stopped_by e disk.faults;
      worn = unworn new e;
    }

    -- by the stop that was told
    pub stopped_as : (q : Stop) → q ≡ stop_by e → Kept o first g (record { running = new; stop = Some q })
    stopped_as q is = subst (λ (x : Stop). Kept o first g (record { running = new; stop = Some x })) (sym is) kept_stopped
