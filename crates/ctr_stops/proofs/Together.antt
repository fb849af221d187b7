-- A World's walk and what a stop leaves of it, together, over each kind of turn.
use Rattle.std.proofs.Common.{◌≡◌, ℕ, ◌+◌, ◌≤◌, List, [], ◌∷◌, ◌++◌, length, sym, ◌∙◌, ap, subst, arith, length-append}
use Rattle.ctr_types.specs.declared.tape.Entry.{Entry}
use Rattle.ctr_disk.specs.Device.{LeavesOnly}
use Rattle.ctr_disk.specs.Image.{Image}
use Rattle.ctr_disk.specs.declared.disk.Disk.{Ghosts}
use Rattle.ctr_model.specs.declared.database.Change.{Change}
use Rattle.ctr_model.specs.declared.tape.Point.{Point}
use Rattle.ctr_model.specs.Laws.{StatesGrow}
use Rattle.ctr_model.specs.Tape.{final}
use Rattle.ctr_model.specs.Texts.{answers}
use Rattle.ctr_kept.proofs.legal_Tapes.{final_append, base_on, asked_on, answers_on}
use Rattle.ctr_passed.specs.area_Chains.{pages_bound}
use Rattle.ctr_rec.specs.declared.record.Record.{Record}
use Rattle.ctr_store.specs.redo_States.{State as Folded, counting, grown}
use Rattle.ctr_store.specs.Store.{View, LeavesFront, LeavesGrowing, GrowsByExtent, Logs}
use Rattle.ctr_passed.specs.actions_Sites.{site_of}
use Rattle.ctr_kept.specs.Walk.{Mind}
use Rattle.ctr_kept.specs.Turns.{Start, KeepsRun, AnswersEach, start_point, point_now, state_now, scene_now}
use Rattle.ctr_kept.proofs.Walking.{keeps_reached}
use Rattle.ctr_kept.proofs.RecoveryTurns.{later_turn, grown_turn}
use Rattle.ctr_stops.specs.Pages.{HoldsPages, CountsOnNoMore}
use Rattle.ctr_stops.specs.Stops.{KeepsCommits, ShowsAll, NotesAt}
use Rattle.ctr_types.specs.declared.statement.Line.{Line}
use Rattle.ctr_passed.specs.area_Images.{undo_size}
use Rattle.ctr_passed.specs.record_effects_States.{pages_in, area_in}
use Rattle.ctr_passed.specs.record_effects_Standing.{IsDatabaseState, StandsForDatabase}
use Rattle.ctr_passed.proofs.record_laws_Bounds.{pages_bounded}
use Rattle.ctr_kept.specs.ctr_names.Held.{names_of_items}
use Rattle.ctr_store.specs.Opening.{LeavesFirst}
use Rattle.ctr_store.specs.StoreOpening.{OpensStore}
use Rattle.ctr_kept.specs.Walk.{mind_at}
use Rattle.ctr_kept.proofs.Beginning.{walk_begins}
use Rattle.ctr_stops.specs.Fronts.{rows_of_state}
use Rattle.ctr_stops.proofs.Blanks.{silent_pages, grown_pages, answers_count}
use Rattle.ctr_stops.proofs.Opened.{now_is, kept_opened}
use Rattle.ctr_stops.specs.World.{starting, course_of, KeepsWorld}
use Rattle.ctr_stops.proofs.Turns.{kept_logged, kept_noted, kept_answered, kept_grown, same_counted as counted_same}

-- where more pages are counted a state stays sound
abbrev pub GrowthStaysSound : Type 0
GrowthStaysSound = (more : ℕ) (s : Folded) → IsDatabaseState s → s.counted ≤ more → more ≤ pages_bound → IsDatabaseState (counting more s)

further : {a b c : ℕ} → a ≤ b → b ≤ c → a ≤ c
further p q = omega (arith, p, q)

-- as many are answered at most as have asked
few_answered : (c : Start) (now : ℕ) (site : _) (w : Mind) → KeepsRun c now site w → answers w.tape ≤ length (state_now c w).asked
few_answered c now site w keeps =
    let are = answers_on c.lines (start_point c) w.tape keeps.legal in
    let few = (keeps_reached c.lines c.moment c.base c.stuck c.size now site w keeps).kept.answered in
    omega (arith, are, few)

module _ {D : Type 0} (dev : Ghosts D) (earlier : (d : D) (s t : ℕ) (c : Image) → s ≤ t → dev.since d t c → dev.since d s c) (grow : StatesGrow) (c : Start) (opened : D) (a b : View D) (w : Mind)
    (world : KeepsWorld dev c opened a w) where
  abbrev point : Point
  point = point_now c w

  -- a record was logged; entries came, none of them an answer
  pub world_logged : (v : Mind) (entries : List Entry) (r : Record) → v.tape ≡ w.tape ++ entries → KeepsRun c (dev.moment_of b.disk) (site_of b.now) v → NotesAt (dev.moment_of b.disk) w.tape entries → HoldsPages v b.now
      → LeavesFront dev a b → LeavesFront dev b b → Logs (r ∷ []) a b → KeepsWorld dev c opened b v
  world_logged v entries r longer walks notes pages leaves rests logs = record {
    walks = walks;
    pages = pages;
    commits = subst (λ es. KeepsCommits dev (course_of c opened v) es b) (sym longer)
        (subst (λ l. KeepsCommits dev (record { opened = opened; base = c.base; asked = l }) (w.tape ++ entries) b) (sym more_is)
        (kept_logged dev earlier (course_of c opened w) w.tape a b world.commits r more.0 entries leaves logs shows
        (grown_few (length point.state.asked) (length more.0) (length (point.state.asked ++ more.0)) (few_answered c (dev.moment_of a.disk) (site_of a.now) w world.walks) (length-append point.state.asked more.0)) notes));
    rests = rests;
  }
    where
      more : (more : List (List Change)) × ((final c.lines point entries).state.asked ≡ point.state.asked ++ more)
      more = asked_on grow c.lines point entries

      more_is : (state_now c v).asked ≡ point.state.asked ++ more.0
      more_is = ap (λ es. (final c.lines (start_point c) es).state.asked) longer ∙ ap (λ (p : Point). p.state.asked) (final_append c.lines (start_point c) w.tape entries) ∙ more.1

      shows : ShowsAll c.base (point.state.asked ++ more.0) b
      shows = record { sound = pages.sound; scene = scene_now c v; low = walks.scene.low; shown = walks.scene.shown; base = base_on grow c.lines (start_point c) v.tape; asked = more_is }

      grown_few : (m n l : ℕ) → answers w.tape ≤ m → l ≡ m + n → answers w.tape ≤ l
      grown_few m n l le is = omega (arith, le, is)

  -- nothing was logged, and nobody asked
  pub world_noted : (v : Mind) (entries : List Entry) → v.tape ≡ w.tape ++ entries → KeepsRun c (dev.moment_of b.disk) (site_of b.now) v → NotesAt (dev.moment_of b.disk) w.tape entries → (state_now c v).asked ≡ (state_now c w).asked → CountsOnNoMore w v
      → LeavesFront dev a b → LeavesFront dev b b → Logs [] a b → KeepsWorld dev c opened b v
  world_noted v entries longer walks notes same no_more leaves rests logs = record {
    walks = walks;
    pages = subst (HoldsPages v) (sym logs.now) (silent_pages a.now w v world.pages no_more);
    commits = subst (λ es. KeepsCommits dev (course_of c opened v) es b) (sym longer)
        (subst (λ l. KeepsCommits dev (record { opened = opened; base = c.base; asked = l }) (w.tape ++ entries) b) (sym same)
        (kept_noted dev earlier (course_of c opened w) w.tape a b world.commits entries leaves logs notes));
    rests = rests;
  }

  -- all was hardened, and all that asked are answered
  pub world_answered : (n : ℕ) → LeavesFront dev a b → LeavesFront dev b b → Logs [] a b → b.waiting ≡ [] → (all : AnswersEach c (dev.moment_of b.disk) (site_of b.now) w n) → KeepsWorld dev c opened b all.mind
  world_answered n leaves rests logs none all = record {
    walks = all.keeps;
    pages = pages;
    commits = subst (λ es. KeepsCommits dev (course_of c opened all.mind) es b) (sym all.tape)
        (subst (λ l. KeepsCommits dev (record { opened = opened; base = c.base; asked = l }) (w.tape ++ all.entries) b) (sym all.asked)
        (kept_answered dev earlier (course_of c opened w) w.tape a b world.commits all.entries leaves rests logs none shows
        (subst (λ es. answers es ≤ length (state_now c w).asked) all.tape (subst (λ l. answers all.mind.tape ≤ length l) all.asked (few_answered c (dev.moment_of b.disk) (site_of b.now) all.mind all.keeps))) all.moments));
    rests = rests;
  }
    where
      pages : HoldsPages all.mind b.now
      pages = subst (HoldsPages all.mind) (sym logs.now) (silent_pages a.now w all.mind world.pages (answers_count c (dev.moment_of b.disk) b.now w n all))

      shows : ShowsAll c.base (state_now c w).asked b
      shows = record { sound = pages.sound; scene = scene_now c all.mind; low = all.keeps.scene.low; shown = all.keeps.scene.shown; base = base_on grow c.lines (start_point c) all.mind.tape; asked = all.asked }

  -- the file grew
  pub world_grown : GrowthStaysSound → grown a.now.counted ≤ pages_bound → a.now.counted ≤ grown a.now.counted → LeavesGrowing dev a b → GrowsByExtent dev a b → b.waiting ≡ a.waiting → KeepsWorld dev c opened b w
  world_grown sound few above leaves grows waiting = record {
    pages = subst (HoldsPages w) (sym grows.now) (grown_pages (grown a.now.counted) a.now w world.pages (sound (grown a.now.counted) a.now world.pages.sound above few));
    walks = subst (λ st. KeepsRun c (dev.moment_of b.disk) (site_of st) w) (sym grows.now)
        (grown_turn c.lines c.moment c.base c.stuck c.size (dev.moment_of a.disk) (site_of a.now) w world.walks (dev.moment_of b.disk) (grown a.now.counted) leaves.later above few);
    commits = kept_grown dev earlier (course_of c opened w) w.tape a b world.commits (subst (λ n. n ≤ grown n) same above) (subst (λ n. grown n ≤ pages_bound) same few) leaves grows waiting;
    rests = grows.durable;
  }
    where
      same : a.now.counted ≡ a.hardened.counted
      same = counted_same dev earlier (course_of c opened w) w.tape a b world.commits

-- a run that begins on an image that stands for a database, as its store was opened
pub world_opened : {D : Type 0} (dev : Ghosts D) (earlier : (d : D) (s t : ℕ) (c : Image) → s ≤ t → dev.since d t c → dev.since d s c) (lines : List Line) (image : Image) (s : Folded) (disk : D) (v : View D)
    → StandsForDatabase image s → OpensStore image v → LeavesOnly dev disk v.disk (LeavesFirst image (dev.images disk)) → LeavesFront dev v v
    → KeepsWorld dev (starting lines (dev.moment_of disk) s) disk v (mind_at (site_of s))
world_opened dev earlier lines image s disk v stands opens leaves rests = record {
  walks = subst (λ st. KeepsRun (starting lines (dev.moment_of disk) s) (dev.moment_of v.disk) (site_of st) (mind_at (site_of s))) (sym (now_is dev earlier image s disk v stands opens))
      (later_turn lines (dev.moment_of disk) (rows_of_state s) (names_of_items (area_in s).title s.tables.items) (undo_size s.tables) (dev.moment_of disk) (site_of s) (mind_at (site_of s))
      (walk_begins lines (dev.moment_of disk) (site_of s) (pages_bounded (pages_in s)) stands.sound.few stands.sound.sound stands.sound.some) (dev.moment_of v.disk) leaves.later);
  pages = subst (HoldsPages (mind_at (site_of s))) (sym (now_is dev earlier image s disk v stands opens)) (record { sound = stands.sound; blank = λ r b p h at in_. absurd in_ });
  commits = kept_opened dev earlier image s disk v stands opens leaves;
  rests = rests;
}
