-- A turn of a session that isn't one of its acts, and what an act leaves of the sessions.
use Rattle.std.proofs.Common.{◌≡◌, inr, ℕ, ◌+◌, ◌≤◌, false, [], Result, Ok, Err, refl, sym, ◌∙◌, ap, subst, arith, ◌-◌, ◌<◌, length}
use Rattle.std.specs.Prelude.{IsTrue, OnOk, OnErr}
use Rattle.std.proofs.lemmas.List.{append-nil}
use Rattle.ctr_disk.specs.declared.disk.Disk.{Ghosts}
use Rattle.ctr_disk.specs.declared.fault.StoreFault.{StoreFault}
use Rattle.ctr_disk.specs.declared.fault.StoreFault.TheVariants.{Fault}
use Rattle.ctr_disk.specs.Image.{Image}
use Rattle.ctr_base.specs.Base.{IsSoundImage}
use Rattle.ctr_model.specs.Laws.{IsSoundState, LegalStatesAreSound}
use Rattle.ctr_store.specs.Store.{View, HasTurnRoom, KeepsRoom, LeavesPage, turns_for_room}
use Rattle.ctr_meta.specs.Kept.{TablesKept}
use Rattle.ctr_control.specs.kept_Turns.{Start, state_now}
use Rattle.ctr_control.specs.kept_Walk.{Mind}
use Rattle.ctr_control.specs.txn_Held.{TxnsHeld}
use Rattle.ctr_control.specs.txn_Rooms.{HasItemRoom}
use Rattle.ctr_control.specs.ctr_session_world.World.{InWorld, names_in}
use Rattle.ctr_control.specs.ctr_session_world.Ready.{StandOver}
use Rattle.ctr_exec.specs.declared.runners.Runner.{Runner}
use Rattle.ctr_exec.specs.declared.runners.Stage.TheVariants as stage
use Rattle.ctr_exec.specs.declared.sessions.Sessions.{Sessions}
use Rattle.ctr_exec.specs.Runners.{made_at, runner_at}
use Rattle.ctr_exec.proofs.Answering.{answers_want}
use Rattle.ctr_exec.specs.Sessions.{AreAnswers, AreOfTurn, AreSeated, DoesTurn, LeadsTo, LeavesSeats, OrFails, ShowsSessions, TakesAct, TakesTurn, sessions_held_by}

-- in a World the state that the tape has reached is sound
pub sound_in : {D : Type 0} (g : Ghosts D) (c : Start) (opened : D) (v : View D) (h : Sessions) (w : Mind) → LegalStatesAreSound → ShowsSessions g c opened v h w → IsSoundState (state_now c w)
sound_in g c opened v h w law shows = law c.lines c.moment c.base c.stuck w.tape shows.world.keeps.walks.legal

-- who stands over a store does so behind a call that logs nothing
pub stands_on : {D : Type 0} (txns : TxnsHeld) (a b : View D) → KeepsRoom a b → StandOver txns a → StandOver txns b
stands_on txns a b keeps stand = record {
  next = stand.next ∙ ap (λ (k : TablesKept). k.tables.next) (sym keeps.meta);
  items = subst (HasItemRoom txns) (sym keeps.meta) stand.items;
}

pub one_at_most : {D : Type 0} (a b : View D) → KeepsRoom a b → b.next ≤ a.next + 1
one_at_most a b keeps = let same = keeps.next in omega (arith, same)

-- what the sessions are left, where nothing is logged and none of them changes
pub seats_kept : {D : Type 0} (h : Sessions) (a b : View D) → KeepsRoom a b → b.stopped ≡ false → StandOver h.txns a → AreSeated h a.now.counted → LeavesSeats h a b
seats_kept h a b keeps going stand seats = record {
  stand = stands_on h.txns a b keeps stand;
  going = going;
  seats = subst (AreSeated h) (sym keeps.counted) seats;
  one = one_at_most a b keeps;
  counted = let same = keeps.counted in omega (arith, same);
}

-- a World is shown behind a call that tells nothing
pub shows_behind : {D : Type 0} (g : Ghosts D) (c : Start) (opened : D) (a b : View D) (h : Sessions) (w : Mind) → ShowsSessions g c opened a h w → InWorld g c opened b (sessions_held_by h) w → ShowsSessions g c opened b h w
shows_behind g c opened a b h w before world = record { world = world; lines = before.lines; tape = before.tape; stuck = before.stuck; each = before.each }

-- so a turn goes on that tells nothing
pub goes_quiet : {D : Type 0} (g : Ghosts D) (c : Start) (opened : D) (a b : View D) (h : Sessions) (w : Mind) (s : ℕ) (before : ShowsSessions g c opened a h w) → b.now ≡ a.now → InWorld g c opened b (sessions_held_by h) w → LeadsTo before (AreOfTurn s) b h
goes_quiet g c opened a b h w s before pages world = record {
  mind = w;
  shows = shows_behind g c opened a b h w before world;
  entries = [];
  tape = sym (append-nil w.tape);
  are_such = inr tt;
  moments = tt;
  causes = tt;
  undo = refl;
  names = λ e there. (λ i. names_in (pages i) e);
}

-- and one that answers commits behind it
pub goes_answered : {D : Type 0} (g : Ghosts D) (c : Start) (opened : D) (a b : View D) (h now : Sessions) (w : Mind) (s : ℕ) (before : ShowsSessions g c opened a h w) (pages : b.now ≡ a.now) (world : InWorld g c opened b (sessions_held_by h) w)
    → LeadsTo (shows_behind g c opened a b h w before world) AreAnswers b now → LeadsTo before (AreOfTurn s) b now
goes_answered g c opened a b h now w s before pages world goes = record {
  mind = goes.mind;
  shows = goes.shows;
  entries = goes.entries;
  tape = goes.tape;
  are_such = inr goes.are_such;
  moments = goes.moments;
  causes = answers_want a b goes.entries goes.are_such;
  undo = goes.undo;
  names = λ e there. (λ i. names_in (pages i) e);
}

-- behind a call that logs nothing the pages are as they were
pub pages_behind : {D T : Type 0} (first : Image) (g : Ghosts D) (a b : View D) (result : Result T StoreFault) → LeavesPage first g a b result → IsTrue g.tells → IsSoundImage first → OnOk result (b.now ≡ a.now)
pages_behind first g a b (Ok x) leaves tells sound = (leaves.logs tells sound).now
pages_behind first g a b (Err e) leaves tells sound = tt

-- ---- what a turn did

-- a flush, of a session that waits
pub flush_takes : {D T : Type 0} (g : Ghosts D) (c : Start) (opened : D) (a b : View D) (h now : Sessions) (w : Mind) (s : ℕ) (before : ShowsSessions g c opened a h w) → (runner_at s h.runners.items).stage ≡ stage.Asked → (result : Result T StoreFault)
    → OnOk result ((b.waiting ≡ []) × (now.txns.answered ≡ length now.txns.numbers.commits)) → OrFails (LeadsTo before (AreOfTurn s) b now) result → OrFails (TakesTurn before s b now) result
flush_takes g c opened a b h now w s before waits (Ok x) all goes = (goes, record { acts = λ has room. absurd (has.unasked waits); rolls = λ has room at_it. absurd (has.unasked waits); nearer = λ has none. absurd (has.unasked waits); answers = λ is. all })
flush_takes g c opened a b h now w s before waits (Err e) all failed = failed

-- a turn of an act
pub act_takes : {D T : Type 0} (g : Ghosts D) (c : Start) (opened : D) (a b : View D) (h now : Sessions) (w : Mind) (s : ℕ) (before : ShowsSessions g c opened a h w) → ((runner_at s h.runners.items).stage ≡ stage.Asked → ⊥) → HasTurnRoom a → (result : Result T StoreFault)
    → OrFails (TakesAct before s b now) result → OrFails (TakesTurn before s b now) result
act_takes g c opened a b h now w s before unasked room (Ok x) takes = (takes.0, record { acts = λ has some. takes.1; rolls = λ has some. takes.2; nearer = λ has none. absurd (none room); answers = λ waits. absurd (unasked waits) })
act_takes g c opened a b h now w s before unasked room (Err e) failed = failed

-- a turn for room
pub room_takes : {D T : Type 0} (g : Ghosts D) (c : Start) (opened : D) (a b : View D) (h : Sessions) (w : Mind) (s : ℕ) (before : ShowsSessions g c opened a h w) → ((runner_at s h.runners.items).stage ≡ stage.Asked → ⊥) → (HasTurnRoom a → ⊥) → (result : Result T StoreFault)
    → OnOk result (b.now ≡ a.now) → OnOk result (InWorld g c opened b (sessions_held_by h) w) → OnOk result (turns_for_room b ≡ turns_for_room a - 1) → OnErr result (result ≡ Err Fault) → OrFails (TakesTurn before s b h) result
room_takes g c opened a b h w s before unasked none (Ok x) pages kept nearer refused =
    (goes_quiet g c opened a b h w s before pages kept, record { acts = λ has room. absurd (none room); rolls = λ has room at_it. absurd (none room); nearer = λ has n. nearer; answers = λ waits. absurd (unasked waits) })
room_takes g c opened a b h w s before unasked none (Err e) pages kept nearer refused = cc refused

-- a turn of a session that has no statement left
pub over_takes : {D : Type 0} (g : Ghosts D) (c : Start) (opened : D) (a : View D) (h : Sessions) (w : Mind) (s : ℕ) (before : ShowsSessions g c opened a h w) → length (runner_at s h.runners.items).places ≤ (runner_at s h.runners.items).finished
    → (runner_at s h.runners.items).finished + made_at (runner_at s h.runners.items).stage ≤ length (runner_at s h.runners.items).places → TakesTurn before s a h
unfolding goes_quiet
over_takes g c opened a h w s before over within = (goes_quiet g c opened a a h w s before refl before.world, did (runner_at s h.runners.items) refl over within)
  where
    both : (n f : ℕ) → n ≤ f → f < n → ⊥
    both n f over more = omega (arith, over, more)

    last : (n f : ℕ) → n ≤ f → f + 1 ≤ n → ⊥
    last n f over more = omega (arith, over, more)

    did : (r : Runner) → runner_at s h.runners.items ≡ r → length r.places ≤ r.finished → r.finished + made_at r.stage ≤ length r.places → DoesTurn h h s a a []
    did r is over within = record {
      acts = λ has room. absurd (both (length r.places) r.finished over (subst (λ (q : Runner). q.finished < length q.places) is has.more));
      rolls = λ has room at_it. absurd (both (length r.places) r.finished over (subst (λ (q : Runner). q.finished < length q.places) is has.more));
      nearer = λ has none. absurd (both (length r.places) r.finished over (subst (λ (q : Runner). q.finished < length q.places) is has.more));
      answers = λ waits. absurd (last (length r.places) r.finished over (subst (λ q. r.finished + made_at q ≤ length r.places) (ap (λ (q : Runner). q.stage) (sym is) ∙ waits) within));
    }
