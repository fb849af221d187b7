-- At each moment a stop leaves a prefix of the commit order, over each kind of turn.
use Rattle.std.proofs.Common.{◌≡◌, ℕ, ◌≤◌, List, [], ◌∷◌, ◌++◌, length, refl, sym, ◌∙◌, ap, subst, arith}
use Rattle.std.specs.List.{AllByRecursion}
use Rattle.std.proofs.lemmas.List.{append-nil}
use Rattle.ctr_types.specs.declared.tape.Entry.{Entry}
use Rattle.ctr_disk.specs.Image.{Image}
use Rattle.ctr_disk.specs.declared.disk.Disk.{Ghosts}
use Rattle.ctr_model.specs.declared.database.Change.{Change}
use Rattle.ctr_model.specs.Texts.{answers}
use Rattle.ctr_passed.specs.area_Chains.{pages_bound}
use Rattle.ctr_rec.specs.declared.record.Record.{Record}
use Rattle.ctr_store.specs.redo_States.{counting, grown}
use Rattle.ctr_store.specs.redo_Images.{FoldsFront, FoldsGrown}
use Rattle.ctr_store.specs.Store.{View, LeavesFront, LeavesGrowing, GrowsByExtent, Logs}
use Rattle.ctr_stops.specs.Fronts.{HasFirst, HasFronts}
use Rattle.ctr_stops.specs.Stops.{HasFirstCommits, Course, asking_more, KeepsCommits, ShowsAll, NotesAt, LeavesPrefixAt, LeftSince}
use Rattle.ctr_stops.proofs.Fronts.{first_less, first_shown, fronts_logged, fronts_same, fronts_answered, fronts_grown, image_in_call, image_in_growth, steps_counted}
use Rattle.ctr_stops.proofs.Survives.{survives_more, survives_call, survives_noted}

module _ {D : Type 0} (dev : Ghosts D) (earlier : (d : D) (s t : ℕ) (c : Image) → s ≤ t → dev.since d t c → dev.since d s c) (course : Course D) (es : List Entry) (a b : View D)
    (keeps : KeepsCommits dev course es a) where
  further : {a b c : ℕ} → a ≤ b → b ≤ c → a ≤ c
  further p q = omega (arith, p, q)

  pub survives_the_call : LeavesFront dev a b → LeftSince dev (dev.moment_of course.opened) b.disk (LeavesPrefixAt (dev.images course.opened) course.base course.asked es)
  survives_the_call leaves = survives_call dev earlier (dev.moment_of course.opened) (dev.images course.opened) course.base course.asked es a.disk b.disk (FoldsFront a.hardened a.waiting) keeps.later keeps.survives leaves.front
      (image_in_call course.base course.asked (answers es) a keeps.fronts)

  pub survives_the_growth : a.hardened.counted ≤ grown a.hardened.counted → grown a.hardened.counted ≤ pages_bound → LeavesGrowing dev a b → LeftSince dev (dev.moment_of course.opened) b.disk (LeavesPrefixAt (dev.images course.opened) course.base course.asked es)
  survives_the_growth le few leaves = survives_call dev earlier (dev.moment_of course.opened) (dev.images course.opened) course.base course.asked es a.disk b.disk (FoldsGrown a.hardened) keeps.later keeps.survives leaves
      (λ c folds. image_in_growth course.base course.asked (answers es) a keeps.fronts c le few folds)

  pub enough : LeavesFront dev a b → (c : Image) → dev.since b.disk (dev.moment_of b.disk) c → HasFirstCommits course.base course.asked (answers es) c
  enough leaves c left = image_in_call course.base course.asked (answers es) a keeps.fronts c (leaves.front.each c (earlier b.disk (dev.moment_of a.disk) (dev.moment_of b.disk) c leaves.front.later left))

  -- what is shown has all that asked
  shown_first : (order : List (List Change)) → ShowsAll course.base order b → HasFirst course.base order (length order) b.now
  shown_first order all = subst (λ l. HasFirst course.base l (length l) b.now) all.asked
      (subst (λ d. HasFirst d all.scene.state.asked (length all.scene.state.asked) b.now) all.base (first_shown all.low b.now all.scene all.sound all.shown))

  -- a record was logged; none of the entries that came is an answer
  pub kept_logged : (r : Record) (more : List (List Change)) (entries : List Entry) → LeavesFront dev a b → Logs (r ∷ []) a b → ShowsAll course.base (course.asked ++ more) b → answers es ≤ length (course.asked ++ more)
      → NotesAt (dev.moment_of b.disk) es entries → KeepsCommits dev (asking_more more course) (es ++ entries) b
  kept_logged r more entries leaves logs shows most notes = record {
    fronts = subst (λ n. HasFronts course.base (course.asked ++ more) n b) (sym notes.none) (fronts_logged course.base course.asked (answers es) a keeps.fronts r more b logs
        (first_less course.base (course.asked ++ more) (length (course.asked ++ more)) (answers es) b.now most (shown_first (course.asked ++ more) shows)));
    survives = survives_noted dev earlier (dev.moment_of course.opened) (dev.images course.opened) course.base course.asked more (course.asked ++ more) es entries b.disk (survives_the_call leaves) notes.at refl notes.none (enough leaves);
    later = further keeps.later leaves.front.later;
  }

  -- nothing was logged
  pub kept_noted : (entries : List Entry) → LeavesFront dev a b → Logs [] a b → NotesAt (dev.moment_of b.disk) es entries → KeepsCommits dev course (es ++ entries) b
  kept_noted entries leaves logs notes = record {
    fronts = subst (λ n. HasFronts course.base course.asked n b) (sym notes.none) (fronts_same course.base course.asked (answers es) a keeps.fronts b logs);
    survives = survives_noted dev earlier (dev.moment_of course.opened) (dev.images course.opened) course.base course.asked [] course.asked es entries b.disk (survives_the_call leaves) notes.at (sym (append-nil course.asked)) notes.none (enough leaves);
    later = further keeps.later leaves.front.later;
  }

  -- all was hardened, and all that asked are answered
  pub kept_answered : (entries : List Entry) → LeavesFront dev a b → LeavesFront dev b b → Logs [] a b → b.waiting ≡ [] → ShowsAll course.base course.asked b → answers (es ++ entries) ≤ length course.asked
      → AllByRecursion (λ (e : Entry). e.moment ≡ dev.moment_of b.disk) entries → KeepsCommits dev course (es ++ entries) b
  kept_answered entries leaves rests logs none shows most at = record {
    fronts = fronts_now;
    survives = survives_more dev earlier (dev.moment_of course.opened) (dev.images course.opened) course.base course.asked [] course.asked es entries b.disk (survives_the_call leaves) at (sym (append-nil course.asked))
        (λ c left. image_in_call course.base course.asked (answers (es ++ entries)) b fronts_now c (rests.front.each c left));
    later = further keeps.later leaves.front.later;
  }
    where
      fronts_now : HasFronts course.base course.asked (answers (es ++ entries)) b
      fronts_now = fronts_answered course.base course.asked (answers es) a keeps.fronts (answers (es ++ entries)) b logs none (first_less course.base course.asked (length course.asked) (answers (es ++ entries)) b.now most (shown_first course.asked shows))

  pub same_counted : a.now.counted ≡ a.hardened.counted
  same_counted = ap (λ (s : _). s.counted) keeps.fronts.now ∙ steps_counted a.waiting a.hardened

  -- the file grew
  pub kept_grown : a.hardened.counted ≤ grown a.hardened.counted → grown a.hardened.counted ≤ pages_bound → LeavesGrowing dev a b → GrowsByExtent dev a b → b.waiting ≡ a.waiting → KeepsCommits dev course es b
  kept_grown le few leaves grows waiting = record {
    fronts = fronts_grown course.base course.asked (answers es) a keeps.fronts (grown a.hardened.counted) b le few waiting (grows.hardened ∙ ap (λ n. counting (grown n) a.hardened) same_counted) (grows.now ∙ ap (λ n. counting (grown n) a.now) same_counted);
    survives = survives_the_growth le few leaves;
    later = further keeps.later leaves.later;
  }
