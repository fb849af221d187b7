-- A World as it was opened, before the first turn.
use Rattle.std.proofs.Common.{◌≡◌, ℕ, zero, suc, ◌≤◌, Bool, true, IsTrue, List, [], ◌++◌, Ok, None, refl, sym, ◌∙◌, ap, subst, arith}
use Rattle.std.specs.Prelude.{⊤, drop, take}
use Rattle.std.specs.List.{AllByRecursion}
use Rattle.ctr_types.specs.declared.statement.Line.{Line}
use Rattle.ctr_types.specs.declared.statement.Script.{Script}
use Rattle.ctr_disk.specs.declared.disk.Disk.{Ghosts}
use Rattle.ctr_disk.specs.Device.{LeavesOnly}
use Rattle.ctr_disk.specs.Image.{Image}
use Rattle.ctr_model.specs.State.{has_name}
use Rattle.ctr_area.specs.Sound.{xids_in}
use Rattle.ctr_meta.specs.Kept.{TablesKept}
use Rattle.ctr_names.specs.Held.{names_of_items}
use Rattle.ctr_rec.specs.declared.record.Record.{Record}
use Rattle.ctr_redo.specs.States.{State, steps}
use Rattle.ctr_record_effects.specs.States.{area_in}
use Rattle.ctr_record_effects.specs.Standing.{IsDatabaseState, StandsForDatabase}
use Rattle.ctr_actions.specs.Sites.{site_of}
use Rattle.ctr_base.specs.Base.{IsSoundImage}
use Rattle.ctr_undo.specs.kept_Turns.{Start}
use Rattle.ctr_undo.specs.kept_Walk.{Mind, mind_at}
use Rattle.ctr_undo.specs.stops_World.{KeepsWorld, starting}
use Rattle.ctr_store.specs.Opening.{LeavesFirst}
use Rattle.ctr_store.specs.Store.{LeavesFront, LeavesPage, View}
use Rattle.ctr_store.specs.StoreOpening.{OpensStore}
use Rattle.ctr_undo.proofs.stops_Fronts.{take_none}
use Rattle.ctr_undo.proofs.stops_Opened.{now_is}
use Rattle.ctr_undo.specs.page_turns_Turns.{RestsBehind}
use Rattle.ctr_pass.specs.exec_sessions_Sessions.{Sessions as SessionsAt}
use Rattle.ctr_pass.specs.exec_Sessions.{AreFresh, ShowsSessions}
use Rattle.ctr_pass.specs.txn_Rooms.{HasItemRoom}
use Rattle.ctr_pass.specs.cursor_Pass.{start}
use Rattle.ctr_pass.specs.cursor_Standing.{IsCountedPosition}
use Rattle.ctr_pass.specs.declared.pass.Pass.{Pass}
use Rattle.ctr_pass.specs.declared.pass.Phase.TheVariants.{Calm}
use Rattle.ctr_pass.specs.Keeping.{KeepsPass, PassedOver}
use Rattle.ctr_pass.specs.Sparing.{keeping_room}
use Rattle.ctr_world.specs.declared.beginning.Begun.{Begun}
use Rattle.ctr_world.specs.declared.opening.Opening.{Ghosts as Opening}
use Rattle.ctr_world.specs.Begun.{IsBegun, UndoesAll}
use Rattle.ctr_world.specs.Held.{Running}
use Rattle.ctr_world.specs.Opened.{CanRun, IsOpenedOn, IsRunLine}
use Rattle.ctr_world.specs.World.{IsWorldReady, Kept, KeepsPassIn, Shows, passed_over, start_in}
use Rattle.ctr_world.proofs.Keeping.{legal_of, sound_of, tape_of}
use Rattle.ctr_world.proofs.Quiet.{after, at_once}
use Rattle.ctr_world.proofs.Roomy.{room_for_one}
use Rattle.ctr_world.proofs.Stuck.{named_itself}

abbrev no_records : List Record
no_records = []

drop_none : (k : ℕ) → drop k no_records ≡ no_records
drop_none zero = refl
drop_none (suc k) = refl

-- recovery holds the names of what is left, where it holds just these
holds_all : (names stuck : List (List ℕ)) → stuck ≡ names → AllByRecursion (λ (n : List ℕ). has_name n stuck ≡ true) names
holds_all names stuck is = subst (λ (l : List (List ℕ)). AllByRecursion (λ (n : List ℕ). has_name n l ≡ true) names) (sym is) (named_itself names)

module _ {D B : Type 0} (o : Opening B) (first : Image) (g : Ghosts D) (disk : D) (script : Script) (named : IsOpenedOn o first g disk script.lines) (runs : CanRun script.lines) (v b : View D) (begun : Begun) (is : IsBegun v script begun)
    (leaves : LeavesPage {T = ⊤} first g v b (Ok tt)) (room : 1 ≤ v.meta.items_room) (later : g.moment_of disk ≤ g.moment_of v.disk) where
  abbrev pub new : Running D
  new = record { store = b; sessions = begun.sessions; undo = begun.undo; names = begun.names.items; size = begun.size; pass = begun.pass; read = 0 }

  start_later : o.start ≤ g.moment_of b.disk
  start_later = subst (λ n. n ≤ g.moment_of b.disk) (sym named.start) (after (g.moment_of disk) (g.moment_of v.disk) (g.moment_of b.disk) later leaves.time.later)

  each : AllByRecursion IsRunLine o.lines
  each = subst (AllByRecursion IsRunLine) (sym named.lines_are) runs.each

  lines_now : begun.sessions.script.lines ≡ o.lines
  lines_now = ap (λ (sc : Script). sc.lines) is.script_is ∙ sym named.lines_are

  ready : IsWorldReady o g new
  ready = record {
    stand = record {
      next = is.next ∙ sym (λ i. (leaves.keeps.meta i).tables.next);
      items = subst (λ (h : SessionsAt). HasItemRoom h.txns b.meta) (sym is.kept)
          (room_for_one is.unkept is.fresh b.meta (subst (λ (k : TablesKept). 1 ≤ k.items_room) (sym leaves.keeps.meta) room));
    };
    going = leaves.going;
    seats = is.seats b.now.counted;
    ordered = is.ordered o.start (g.moment_of b.disk) start_later;
    held = record { named = holds_all begun.names.items begun.sessions.stuck is.stuck; only = λ name has_. ap (has_name name) (sym is.stuck) ∙ has_ };
    count = is.count;
    lines = each;
    place = subst (λ (p : Pass). IsCountedPosition b.now.counted p.at) (sym is.pass) (omega arith);
  }

  -- nothing was logged
  pub stands_on : IsTrue g.tells → IsSoundImage first → OpensStore first v → OpensStore first b
  stands_on tells sound opens =
      let logs = leaves.logs tells sound in
      record {
        root = opens.root;
        stands = opens.stands;
        fresh = opens.fresh;
        none = logs.waiting ∙ ap (λ (ws : List Record). drop logs.j ws ++ []) opens.none ∙ ap (λ (ws : List Record). ws ++ []) (drop_none logs.j);
        next = leaves.keeps.next ∙ opens.next;
        tables = (λ i. (leaves.keeps.meta i).tables) ∙ opens.tables;
        hardened = λ q. logs.hardened ∙ ap (λ (ws : List Record). steps (take logs.j ws) v.hardened) opens.none ∙ ap (λ (ws : List Record). steps ws v.hardened) (take_none logs.j) ∙ opens.hardened q;
        now = λ q. logs.now ∙ opens.now q;
        passes = opens.passes;
        pages = opens.pages;
      }

  -- what is told of a database
  pub record Told (s : State) : Type 0 where
    pub opens : OpensStore first v
    pub any_moment : LeavesOnly g disk v.disk (LeavesFirst first (g.images disk))
    pub durable : LeavesFront g v v
    pub rests : LeavesFront g b b
    pub all : IsDatabaseState v.now → UndoesAll v.now begun

  module _ (earlier : (d : D) (s t : ℕ) (c : Image) → s ≤ t → g.since d t c → g.since d s c)
      (begins : (lines : List Line) (image : Image) (s : State) (disk : D) (v : View D) → StandsForDatabase image s → OpensStore image v → LeavesOnly g disk v.disk (LeavesFirst image (g.images disk)) → LeavesFront g v v
      → KeepsWorld g (starting lines (g.moment_of disk) s) disk v (mind_at (site_of s)))
      (fresh : (c : Start) (opened : D) (v : View D) (h : SessionsAt) → KeepsWorld g c opened v (mind_at (site_of v.now)) → AreFresh h → h.script.lines ≡ c.lines → h.stuck ≡ c.stuck → ShowsSessions g c opened v h (mind_at (site_of v.now)))
      (kept_room : (c : Start) (opened : D) (v : View D) (h : SessionsAt) (w : Mind) (item : Bool) → ShowsSessions g c opened v h w → ShowsSessions g c opened v (keeping_room item h) w)
      (passes : (next : ℕ) (u : PassedOver) → u.next ≡ next → KeepsPass (record { at = start; next = next; seen = 0; phase = Calm }) u)
      (read : (c : Start) (opened : D) (a m : View D) (w : Mind) → KeepsWorld g c opened a w → RestsBehind g a m → KeepsWorld g c opened m w)
      (told : (s : State) → IsTrue g.tells → IsSoundImage first → Told s) where
    module _ (s : State) (tells : IsTrue g.tells) (stands : StandsForDatabase first s) where
      sound : IsSoundImage first
      sound = sound_of first s stands

      abbrev t : Told s
      t = told s tells sound

      was : v.now ≡ s
      was = now_is g earlier first s disk v stands t.opens

      now_so : b.now ≡ s
      now_so = (leaves.logs tells sound).now ∙ was

      all : UndoesAll s begun
      all = subst (λ (q : State). UndoesAll q begun) was (t.all (subst IsDatabaseState (sym was) stands.sound))

      keeps : KeepsWorld g (start_in o s) disk b (mind_at (site_of b.now))
      keeps = subst (λ (q : State). KeepsWorld g (start_in o s) disk b (mind_at (site_of q))) (sym now_so)
          (read (start_in o s) disk v b (mind_at (site_of s))
          (subst (λ n. KeepsWorld g (starting o.lines n s) disk v (mind_at (site_of s))) (sym named.start) (begins o.lines first s disk v stands t.opens t.any_moment t.durable))
          (record { logs = leaves.logs tells sound; front = leaves.any_moment tells sound; rests = t.rests; later = leaves.time.later }))

      abbrev kept_as : begun.sessions ≡ keeping_room true is.unkept
      kept_as = is.kept

      stuck_so : is.unkept.stuck ≡ (start_in o s).stuck
      stuck_so = sym (ap (λ (h : SessionsAt). h.stuck) kept_as) ∙ is.stuck ∙ all.names

      lines_so : is.unkept.script.lines ≡ o.lines
      lines_so = sym (ap (λ (h : SessionsAt). h.script.lines) kept_as) ∙ lines_now

      shows : Shows o first g s new
      shows = record {
        opened = disk;
        on = record { image = named.image; before = named.before; start = named.start; faults = named.faults; lines_are = refl };
        mind = mind_at (site_of b.now);
        shows = subst (λ (h : SessionsAt). ShowsSessions g (start_in o s) disk b h (mind_at (site_of b.now))) (sym kept_as)
            (kept_room (start_in o s) disk b is.unkept (mind_at (site_of b.now)) true (fresh (start_in o s) disk b is.unkept keeps is.fresh lines_so stuck_so));
        undo = λ i. record { items = (ap (λ (q : State). q.tables.items) now_so ∙ sym all.items) i; orphans = (ap (λ (q : State). xids_in q.tables.opens) now_so ∙ sym all.orphans) i };
        names = (λ i. names_of_items (area_in (now_so i)).title (all.items i)) ∙ sym all.names;
        numbered = ap (λ (q : State). q.tables.next) now_so;
        full = λ e in_ is. absurd in_;
      }

      -- its pass is the first
      pass : KeepsPassIn o s new
      pass = subst (λ (p : Pass). KeepsPass p (passed_over o s new)) (sym is.pass) (passes v.next (passed_over o s new) leaves.keeps.next)

    -- it keeps what a World keeps
    pub kept_begun : g.faults_of b.disk ≡ g.faults_of disk → Kept o first g (record { running = new; stop = None })
    kept_begun faults = record {
      ready = λ none. ready;
      shows = λ s tells stands none. shows s tells stands;
      pass = λ s tells stands none. pass s tells stands;
      tape = tape_of o g new lines_now ready;
      legal = λ s tells stands. legal_of o first g s new (shows s tells stands);
      sized = λ s tells stands. (all s tells stands).size;
      undamaged = λ s tells stands. tt;
      left = λ s tells stands stopped. absurd (stopped refl);
      lines_are = lines_now;
      each = each;
      count = is.count;
      later = start_later;
      faults_later = subst (λ n. n ≤ g.faults_of b.disk) (sym named.faults) (subst (λ n. g.faults_of disk ≤ n) (sym faults) (at_once (g.faults_of disk)));
      stops = faults ∙ sym named.faults;
      worn = tt;
    }
