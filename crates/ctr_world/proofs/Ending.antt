-- A World that has ended: what its tape is, and what a crash leaves.
use Rattle.std.proofs.Common.{◌≡◌, ◌≢◌, ℕ, ◌+◌, ◌-◌, ◌≤◌, true, IsTrue, List, [], ◌∷◌, length, Option, Some, None, refl, sym, ◌∙◌, ap, subst, arith}
use Rattle.std.specs.List.{AllByRecursion}
use Rattle.std.proofs.lemmas.Bool.{false≢true}
use Rattle.ctr_types.specs.declared.statement.Line.{Line}
use Rattle.ctr_types.specs.declared.tape.Entry.{Entry}
use Rattle.ctr_disk.specs.declared.disk.Disk.{Ghosts}
use Rattle.ctr_disk.specs.declared.fault.Stop.{Stop}
use Rattle.ctr_disk.specs.Image.{Image}
use Rattle.ctr_model.specs.State.{has_name}
use Rattle.ctr_model.specs.Tape.{IsWhole, at_start, final, progress_of}
use Rattle.ctr_model.specs.Texts.{answers}
use Rattle.ctr_names.specs.Held.{names_of_items}
use Rattle.ctr_redo.specs.States.{State}
use Rattle.ctr_record_effects.specs.States.{area_in}
use Rattle.ctr_record_effects.specs.Standing.{StandsForDatabase}
use Rattle.ctr_undo.specs.kept_Turns.{start_point}
use Rattle.ctr_undo.specs.stops_Stops.{Course, HasFirstCommits, KeepsCommits}
use Rattle.ctr_store.specs.Store.{View, LeavesFront}
use Rattle.ctr_undo.specs.Left.{left_in, IsUndoOver as NoneIsLeft}
use Rattle.ctr_pass.specs.exec_Runners.{made_at, runner_at}
use Rattle.ctr_world.specs.declared.opening.Opening.{Ghosts as Opening}
use Rattle.ctr_world.specs.Held.{Running, Held}
use Rattle.ctr_world.specs.Opened.{IsRunLine}
use Rattle.ctr_world.specs.World.{Shows, Kept, LeavesPrefix, start_in, led_to}
use Rattle.ctr_world.specs.Turns.{IsWorldOver}
use Rattle.ctr_world.specs.Ended.{Ends, EndsInOrder}
use Rattle.ctr_world.proofs.Keeping.{prefix_now}
use Rattle.ctr_world.proofs.Stuck.{has_itself}
use Rattle.ctr_world.proofs.Undoes.{full_left, none_left}
use Rattle.ctr_world.proofs.Whole.{whole_from}

-- at the end of a call a crash leaves the rows of a prefix with all that are answered
abbrev pub LeavesAtEnd : {D : Type 0} → Ghosts D → Type 0
LeavesAtEnd {D} g = (c : Course D) (es : List Entry) (a b : View D) → KeepsCommits g c es a → LeavesFront g a b → (image : Image) → g.since b.disk (g.moment_of b.disk) image → HasFirstCommits c.base c.asked (answers es) image

-- names of which none is left
none_there : (names : List (List ℕ)) → ((name : List ℕ) → has_name name names ≡ true → ⊥) → names ≡ []
none_there [] none = refl
none_there (n ∷ ns) none = absurd (none n (has_itself n ns))

module _ {D B : Type 0} (o : Opening B) (first : Image) (g : Ghosts D) (w : Held D) (kept : Kept o first g w) (over : w.stop ≡ None → IsWorldOver w) where
  abbrev r : Running D
  r = w.running

  lines_of : AllByRecursion IsRunLine r.sessions.script.lines
  lines_of = subst (AllByRecursion IsRunLine) (sym kept.lines_are) kept.each

  undone_so : (size left n : ℕ) → left ≡ 0 → size ≡ n → size - left ≡ n
  undone_so size left n none is = omega (arith, none, is)

  most_so : (size left n : ℕ) → size ≡ n → size - left ≤ n
  most_so size left n is = omega (arith, is)

  left_none : NoneIsLeft r.undo → left_in r.undo ≡ 0
  left_none none = λ i. length (none.0 i) + length (none.1 i)

  -- whatever the disk tells
  pub in_order : EndsInOrder o g r.sessions.tape.items w.stop r.store.disk
  in_order = record {
    tape = kept.tape;
    whole = λ going. let ready = kept.ready going in
        subst (λ (ls : List Line). IsWhole ls (final ls (at_start o.start [] []) r.sessions.tape.items)) kept.lines_are
        (whole_from r.sessions r.store.now.counted ready.seats lines_of (over going).sessions (at_start o.start [] []) r.sessions.tape.items refl ready.ordered.each);
  }

  -- in the words of what is given back
  pub in_order_as : (es : List Entry) (d : D) → es ≡ r.sessions.tape.items → d ≡ r.store.disk → EndsInOrder o g es w.stop d
  in_order_as es d tape_so disk_so = subst (λ (l : List Entry). EndsInOrder o g l w.stop d) (sym tape_so) (subst (λ (x : D). EndsInOrder o g r.sessions.tape.items w.stop x) (sym disk_so) in_order)

  -- of a database
  module _ (s : State) (tells : IsTrue g.tells) (stands : StandsForDatabase first s) (ends : LeavesAtEnd g) (none : w.stop ≡ None → w.running.store.waiting ≡ []) where
    module _ (going : w.stop ≡ None) where
      abbrev shows : Shows o first g s r
      shows = kept.shows s tells stands going

      -- by the tape of what is shown
      tape_is : r.sessions.tape.items ≡ shows.mind.tape
      tape_is = shows.shows.tape

      whole_now : IsWhole o.lines (led_to o s shows.mind.tape)
      whole_now = subst (λ (ls : List Line). IsWhole ls (final ls (start_point (start_in o s)) shows.mind.tape)) kept.lines_are
          (whole_from r.sessions r.store.now.counted (kept.ready going).seats lines_of (over going).sessions (start_point (start_in o s)) shows.mind.tape refl
          (λ q one. subst (λ (ls : List Line). progress_at ls q) (sym kept.lines_are) (shows.shows.each q one).progress))
        where
          progress_at : List Line → ℕ → Type 0
          progress_at ls q = progress_of (final ls (start_point (start_in o s)) shows.mind.tape) q
              ≡ record { finished = (runner_at q r.sessions.runners.items).finished; made = made_at (runner_at q r.sessions.runners.items).stage }

      stuck_none : (led_to o s shows.mind.tape).state.stuck ≡ []
      stuck_none = sym shows.shows.stuck ∙ none_there r.sessions.stuck (λ name is. false≢true (sym (ap (has_name name) names_none) ∙ (kept.ready going).held.only name is))
        where
          names_none : r.names ≡ []
          names_none = sym shows.names ∙ ap (names_of_items (area_in r.store.now).title) (over going).undo.0

      durable_now : (c : Image) → g.since r.store.disk (g.moment_of r.store.disk) c → HasFirstCommits (start_in o s).base (led_to o s shows.mind.tape).state.asked (answers shows.mind.tape) c
      durable_now c left = ends _ shows.mind.tape r.store r.store shows.shows.world.keeps.commits shows.shows.world.keeps.rests c left

    -- until now, or until a stop
    survives_by : (q : Option Stop) → (q ≡ None → LeavesPrefix o g s r.store.disk r.sessions.tape.items) → (q ≢ None → LeavesPrefix o g s r.store.disk r.sessions.tape.items) → LeavesPrefix o g s r.store.disk r.sessions.tape.items
    survives_by None going stopped = going refl
    survives_by (Some x) going stopped = stopped (λ is. absurd cc)

    pub ended : Ends o g s r.sessions.tape.items w.stop (r.size - left_in r.undo) r.store.disk
    ended = record {
      legal = kept.legal s tells stands;
      undamaged = kept.undamaged s tells stands;
      undone_most = most_so r.size (left_in r.undo) _ (kept.sized s tells stands);
      undone_all = λ going. undone_so r.size (left_in r.undo) _ (left_none (over going).undo) (kept.sized s tells stands);
      whole = λ going. subst (λ (es : List Entry). IsWhole o.lines (led_to o s es)) (sym (tape_is going)) (whole_now going);
      no_stuck = λ going. subst (λ (es : List Entry). (led_to o s es).state.stuck ≡ []) (sym (tape_is going)) (stuck_none going);
      survives = survives_by w.stop (λ going. prefix_now o first g s r (kept.shows s tells stands going)) (kept.left s tells stands);
      full = λ going. full_left o first g s r (kept.shows s tells stands going) (over going).undo (none going);
      none_left = λ going. none_left o first g s r (kept.shows s tells stands going) (over going).undo (none going);
      durable = λ going. subst (λ (es : List Entry). (c : Image) → g.since r.store.disk (g.moment_of r.store.disk) c → HasFirstCommits (start_in o s).base (led_to o s es).state.asked (answers es) c) (sym (tape_is going)) (durable_now going);
    }

    pub ended_as : (es : List Entry) (left : ℕ) (d : D) → es ≡ r.sessions.tape.items → left ≡ left_in r.undo → d ≡ r.store.disk → Ends o g s es w.stop (r.size - left) d
    ended_as es left d tape_so left_so disk_so = subst (λ (l : List Entry). Ends o g s l w.stop (r.size - left) d) (sym tape_so)
        (subst (λ n. Ends o g s r.sessions.tape.items w.stop (r.size - n) d) (sym left_so)
        (subst (λ (x : D). Ends o g s r.sessions.tape.items w.stop (r.size - left_in r.undo) x) (sym disk_so) ended))
