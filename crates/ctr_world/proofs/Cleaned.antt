-- A turn of the cleaner in a World.
use Rattle.std.proofs.Common.{◌≡◌, ◌⊎◌, ⊎_elim, inl, inr, ℕ, ◌+◌, ◌<◌, ◌≤◌, Bool, true, false, List, [], None, Some, Ok, refl, sym, ◌∙◌, ap, subst, arith}
use Rattle.std.specs.Prelude.{IsTrue, length}
use Rattle.ctr_types.specs.declared.tape.Entry.{Entry}
use Rattle.ctr_disk.specs.declared.disk.Disk.{Ghosts}
use Rattle.ctr_disk.specs.Image.{Image}
use Rattle.ctr_base.specs.Base.{IsSoundImage}
use Rattle.ctr_model.specs.State.{transaction_of}
use Rattle.ctr_locks.specs.Held.{session_locks}
use Rattle.ctr_names.specs.Held.{names_of_items}
use Rattle.ctr_redo.specs.States.{State, grown}
use Rattle.ctr_record_effects.specs.States.{area_in}
use Rattle.ctr_record_effects.specs.Standing.{IsDatabaseState}
use Rattle.ctr_actions.specs.Actions.{Action}
use Rattle.ctr_store.specs.Store.{LeavesFront, View}
use Rattle.ctr_undo.specs.kept_Turns.{Start, state_now}
use Rattle.ctr_undo.specs.kept_Walk.{Mind}
use Rattle.ctr_undo.specs.stops_World.{KeepsWorld}
use Rattle.ctr_undo.specs.page_turns_Acts.{ActsBy}
use Rattle.ctr_undo.specs.page_turns_Turns.{LogsAtRest, RestsBehind, Turns, Reads, LogsARecord, Grows}
use Rattle.ctr_undo.specs.Left.{UndoLeft}
use Rattle.ctr_undo.specs.Keeping.{list_of}
use Rattle.ctr_undo.specs.Turns.{MayUndo}
use Rattle.ctr_pass.specs.exec_sessions_Sessions.{Sessions}
use Rattle.ctr_pass.specs.txn_Steps.{mark_in}
use Rattle.ctr_pass.specs.session_world_Ready.{StandOver}
use Rattle.ctr_pass.specs.exec_Order.{IsTapeOrdered}
use Rattle.ctr_pass.specs.exec_Sessions.{AreSeated, ShowsSessions, sessions_held_by}
use Rattle.ctr_pass.proofs.exec_Going.{shows_behind}
use Rattle.ctr_pass.proofs.session_world_Resting.{world_rests}
use Rattle.ctr_pass.specs.cleaner_CleanTurn.{CleanTurn}
use Rattle.ctr_pass.specs.cleaner_CleanTurn.TheVariants.{Cleaned, Unlinked, Reclaimed, Moved, Over, Left}
use Rattle.ctr_pass.specs.cleaner_MayEmpty.{MayEmpty}
use Rattle.ctr_pass.specs.cleaner_Turning.{CleansFreely, Heeded, IsTurnWithin, TurnsAt, heeding, next_cleaned}
use Rattle.ctr_pass.specs.cursor_Position.{Position}
use Rattle.ctr_pass.specs.cursor_Standing.{IsCountedPosition}
use Rattle.ctr_pass.specs.declared.going.Went.{Went}
use Rattle.ctr_pass.specs.declared.pass.Pass.{Pass}
use Rattle.ctr_pass.specs.Going.{WentAs}
use Rattle.ctr_pass.specs.Keeping.{HeedsNobody, HasNoneOpen, KeepsPass, PassedOver, TurnsUnder}
use Rattle.ctr_pass.specs.declared.pass.Phase.TheVariants.{Idle}
use Rattle.ctr_pass.specs.Passing.{noted, pass_behind}
use Rattle.ctr_pass.specs.Sparing.{HaveNobody, IsNobodyInside, keeping_room, with_cleaner}
use Rattle.ctr_world.specs.declared.opening.Opening.{Ghosts as Opening}
use Rattle.ctr_pass.proofs.walk_Joins.{answers_ok}
use Rattle.ctr_world.specs.Cleaning.{IsIdlePass, ReadsWhereNone, noted_pass}
use Rattle.ctr_world.specs.Held.{Running}
use Rattle.ctr_world.specs.World.{FullCountsAll, IsWorldReady, KeepsPassIn, Shows, led_to, passed_over, start_in}

-- ---- what it did to the store

no_more : (m b : ℕ) → m < 30000 → b ≡ grown m → b ≡ m → ⊥
no_more m b few more same = omega (arith, few, more, same)

-- it logged one record, or none
abbrev pub RestsOrLogs : {D : Type 0} → Ghosts D → View D → View D → Type 0
RestsOrLogs g a b = (RestsBehind g a b × (b.next ≡ a.next)) ⊎ (LogsAtRest g a b × (b.next ≡ a.next + 1))

pub turned : {D T : Type 0} (first : Image) (g : Ghosts D) (a b : View D) (x : T) → Turns first g a b (Ok x) → b.now.counted ≡ a.now.counted → IsTrue g.tells → IsSoundImage first → LeavesFront g b b → RestsOrLogs g a b
turned first g a b x (Reads leaves) counted told sound rests =
    inl (record { logs = leaves.logs told sound; front = leaves.any_moment told sound; rests = rests; later = leaves.time.later }, leaves.keeps.next)
turned first g a b x (LogsARecord logs) counted told sound rests =
    let one = logs.1 in
    inr (record { rec = logs.0; logs = one.logs told sound; front = one.any_moment told sound; rests = rests; later = one.time.later }, one.takes.next)
turned first g a b x (Grows grows) counted told sound rests =
    absurd (no_more grows.between.now.counted b.now.counted grows.more.few grows.more.counts.counted (counted ∙ sym grows.read.keeps.counted))

-- a store that a turn answered isn't stopped
pub still_going : {D T : Type 0} (first : Image) (g : Ghosts D) (a b : View D) (x : T) → Turns first g a b (Ok x) → b.stopped ≡ false
still_going first g a b x (Reads leaves) = leaves.going
still_going first g a b x (LogsARecord logs) = logs.1.going
still_going first g a b x (Grows grows) = grows.more.counts.going

one_apart : (n : ℕ) → n ≡ n + 1 → ⊥
one_apart n is = omega (arith, is)

-- where it logged nothing it read pages
pub read_where_none : {D T : Type 0} (first : Image) (g : Ghosts D) (a b : View D) (x : T) → Turns first g a b (Ok x) → b.now.counted ≡ a.now.counted → ReadsWhereNone first g a b
read_where_none first g a b x (Reads leaves) counted none = answers_ok first g x tt a b leaves
read_where_none first g a b x (LogsARecord logs) counted none = absurd (one_apart a.next (sym none ∙ logs.1.takes.next))
read_where_none first g a b x (Grows grows) counted none = absurd (no_more grows.between.now.counted b.now.counted grows.more.few grows.more.counts.counted (counted ∙ sym grows.read.keeps.counted))

-- what a turn did, by a record of it, or by none
abbrev pub CleansOrPasses : Heeded → Position → State → State → CleanTurn → Type 0
CleansOrPasses h x s t did = (CleansFreely h x did s t × ((n : ℕ) → next_cleaned did n ≡ n + 1)) ⊎ ((t ≡ s) × ((n : ℕ) → next_cleaned did n ≡ n))

pub cleans_or_passes : (h : Heeded) (x : Position) (s t : State) (did : CleanTurn) → TurnsAt h x s t did → CleansOrPasses h x s t did
cleans_or_passes h x s t Cleaned does = inl (does, λ n. refl)
cleans_or_passes h x s t Unlinked does = inl (does, λ n. refl)
cleans_or_passes h x s t Reclaimed does = inl (does, λ n. refl)
cleans_or_passes h x s t (Moved y) does = inr (does.same, λ n. refl)
cleans_or_passes h x s t Over does = inr (does.same, λ n. refl)
cleans_or_passes h x s t (Left y) does = inr (does.same, λ n. refl)

-- where the pass is behind it
pub place_behind : (p : Pass) (from : Position) (did : CleanTurn) (may : Bool) (next counted : ℕ) → IsCountedPosition counted from → IsTurnWithin may counted did → IsCountedPosition counted (pass_behind p from did may next).at
place_behind p from Cleaned may next counted is within = is
place_behind p from Unlinked may next counted is within = is
place_behind p from Reclaimed may next counted is within = is
place_behind p from (Moved y) may next counted is within = within
place_behind p from Over may next counted is within = omega arith
place_behind p from (Left (Some y)) may next counted is within = within
place_behind p from (Left None) may next counted is within = omega arith

-- ---- the laws of a turn

pub record Laws {D : Type 0} (g : Ghosts D) : Type 0 where
  pub cleaned : (c : Start) (opened : D) (a b : View D) (h : Sessions) (w : Mind) (x : Position) (did : CleanTurn) (may : MayEmpty) → ShowsSessions g c opened a h w
      → CleansFreely (heeding (mark_in a.now.tables h.txns) h.locks (length w.undo.items) may) x did a.now b.now → (may.free ≡ true → HaveNobody h.txns) → LogsAtRest g a b → ShowsSessions g c opened b h w
  pub room : (c : Start) (opened : D) (v : View D) (h : Sessions) (w : Mind) (item : Bool) → ShowsSessions g c opened v h w → ShowsSessions g c opened v (keeping_room item h) w
  pub read : (c : Start) (opened : D) (a m : View D) (w : Mind) → KeepsWorld g c opened a w → RestsBehind g a m → KeepsWorld g c opened m w
  pub may : (c : Start) (opened : D) (a : View D) (w : Mind) → KeepsWorld g c opened a w → MayUndo (list_of w) a.now
  pub stay : (x : ℕ) (a : Action) (s t : State) (u : UndoLeft) → MayUndo u s → ActsBy x a s t → names_of_items (area_in t).title u.items ≡ names_of_items (area_in s).title u.items

module _ {D B : Type 0} (o : Opening B) (first : Image) (g : Ghosts D) (laws : Laws g) (s : State) (old : Running D) (b : View D) (item : Bool) (pass : Pass) (shows : Shows o first g s old) (x : Position) (did : CleanTurn) (may : MayEmpty)
    (free : may.free ≡ true → HaveNobody old.sessions.txns) where
  abbrev pub cleaned : Running D
  cleaned = record old { store = b; sessions = keeping_room item old.sessions; pass = pass }

  abbrev a : View D
  a = old.store

  abbrev c : Start
  c = start_in o s

  -- what it heeds
  abbrev pub heeds : Heeded
  heeds = heeding (mark_in a.now.tables old.sessions.txns) old.sessions.locks (length old.undo.items) may

  items_are : length shows.mind.undo.items ≡ length old.undo.items
  items_are = ap (λ (u : UndoLeft). length u.items) shows.undo

  rest : (names_of_items (area_in b.now).title old.undo.items ≡ names_of_items (area_in a.now).title old.undo.items) → b.now.counted ≡ a.now.counted → ShowsSessions g c shows.opened b old.sessions shows.mind → Shows o first g s cleaned
  rest names counted sessions = record {
    opened = shows.opened;
    on = shows.on;
    mind = shows.mind;
    shows = laws.room c shows.opened b old.sessions shows.mind item sessions;
    undo = shows.undo;
    names = names ∙ shows.names;
    numbered = shows.numbered;
    full = subst (FullCountsAll shows.mind.tape) (sym counted) shows.full;
  }

  -- a record of the cleaner's
  by_record : CleansFreely heeds x did a.now b.now → b.now.counted ≡ a.now.counted → LogsAtRest g a b → Shows o first g s cleaned
  by_record does counted rests = rest
      (laws.stay a.now.tables.next does.action a.now b.now old.undo (subst (λ (u : UndoLeft). MayUndo u a.now) shows.undo (laws.may c shows.opened a shows.mind shows.shows.world.keeps)) does.acts)
      counted
      (laws.cleaned c shows.opened a b old.sessions shows.mind x did may shows.shows
      (subst (λ n. CleansFreely (heeding (mark_in a.now.tables old.sessions.txns) old.sessions.locks n may) x did a.now b.now) (sym items_are) does) free rests)

  -- none
  by_none : b.now ≡ a.now → RestsBehind g a b → Shows o first g s cleaned
  by_none same rests = rest
      (ap (λ (q : State). names_of_items (area_in q).title old.undo.items) same)
      (ap (λ (q : State). q.counted) same)
      (shows_behind g c shows.opened a b old.sessions shows.mind shows.shows
      (world_rests g c shows.opened a b (sessions_held_by old.sessions) shows.mind shows.shows.world same (laws.read c shows.opened a b shows.mind shows.shows.world.keeps rests)))

  pub shows_cleaned : CleansOrPasses heeds x a.now b.now did → b.next ≡ next_cleaned did a.next → b.now.counted ≡ a.now.counted → RestsOrLogs g a b → Shows o first g s cleaned
  shows_cleaned does next counted went = ⊎_elim
      (λ record_. ⊎_elim
      (λ none. absurd (one_apart a.next (sym none.1 ∙ next ∙ record_.1 a.next)))
      (λ one. by_record record_.0 counted one.0)
      went)
      (λ passes. ⊎_elim
      (λ none. by_none passes.0 none.0)
      (λ one. absurd (one_apart a.next (sym (passes.1 a.next) ∙ sym next ∙ one.1)))
      went)
      does

-- ---- whatever the disk tells

module _ {D B : Type 0} (o : Opening B) (g : Ghosts D) (old : Running D) (b : View D) (item : Bool) (pass : Pass) where
  pub ready_cleaned : IsWorldReady o g old → StandOver (with_cleaner item old.sessions.txns) b → b.stopped ≡ false → b.now.counted ≡ old.store.now.counted → g.moment_of old.store.disk ≤ g.moment_of b.disk
      → (AreSeated old.sessions old.store.now.counted → AreSeated (keeping_room item old.sessions) old.store.now.counted)
      → (IsTapeOrdered o.start (g.moment_of b.disk) old.sessions → IsTapeOrdered o.start (g.moment_of b.disk) (keeping_room item old.sessions))
      → IsCountedPosition b.now.counted pass.at → IsWorldReady o g (record old { store = b; sessions = keeping_room item old.sessions; pass = pass })
  ready_cleaned ready stand going counted later seats ordered place = record {
    stand = stand;
    going = going;
    seats = subst (AreSeated (keeping_room item old.sessions)) (sym counted) (seats ready.seats);
    ordered = ordered (record { order = ready.ordered.order; later = up _ (g.moment_of old.store.disk) (g.moment_of b.disk) ready.ordered.later later; each = ready.ordered.each });
    held = record { named = ready.held.named; only = ready.held.only };
    count = ready.count;
    lines = ready.lines;
    place = place;
  }
    where
      up : (k m n : ℕ) → k ≤ m → m ≤ n → k ≤ n
      up k m n one then = omega (arith, one, then)

-- ---- the pass

-- what holds where nobody is in a transaction
pub record RestLaws {D : Type 0} (g : Ghosts D) : Type 0 where
  pub nobody : (c : Start) (opened : D) (v : View D) (h : Sessions) (w : Mind) → ShowsSessions g c opened v h w → IsNobodyInside (state_now c w) → HaveNobody h.txns
  pub locks : (c : Start) (opened : D) (v : View D) (h : Sessions) (w : Mind) → ShowsSessions g c opened v h w → IsNobodyInside (state_now c w) → (r f : ℕ) (key : _) → session_locks r f key h.locks ≡ false
  pub mark : (c : Start) (opened : D) (v : View D) (h : Sessions) (w : Mind) → ShowsSessions g c opened v h w → IsNobodyInside (state_now c w) → v.now.tables.opens ≡ [] → mark_in v.now.tables h.txns ≡ v.now.tables.next

module _ {D B : Type 0} (o : Opening B) (first : Image) (g : Ghosts D) (laws : RestLaws g) (s : State) (old : Running D) (shows : Shows o first g s old) (may : MayEmpty) (free : HaveNobody old.sessions.txns → may.free ≡ true) where
  -- at rest the cleaner heeds nobody
  pub heeds_nobody : HasNoneOpen (passed_over o s old) → HeedsNobody (heeding (mark_in old.store.now.tables old.sessions.txns) old.sessions.locks (length old.undo.items) may) (passed_over o s old)
  heeds_nobody at_rest = record {
    low = laws.mark (start_in o s) shows.opened old.store old.sessions shows.mind shows.shows inside at_rest.opens;
    locks = laws.locks (start_in o s) shows.opened old.store old.sessions shows.mind shows.shows inside;
    free = free (laws.nobody (start_in o s) shows.opened old.store old.sessions shows.mind shows.shows inside);
  }
    where
      inside : IsNobodyInside (state_now (start_in o s) shows.mind)
      inside q = subst (λ (es : List Entry). transaction_of (led_to o s es).state q ≡ None) shows.shows.tape (at_rest.nobody q)

-- the law of a turn in the pass
abbrev pub ByItsTurn : Type 0
ByItsTurn = (p : Pass) (h : Heeded) (w : Went) (v u : PassedOver) → KeepsPass p v → IsDatabaseState v.state
    → ((noted p v.next v.tape).phase ≡ Idle → ⊥) → TurnsUnder p h w v u → KeepsPass (pass_behind (noted p v.next v.tape) w.from w.did h.may.unlink u.next) u

module _ {D B : Type 0} (o : Opening B) (s : State) (old : Running D) (b : View D) (item : Bool) (pass : Pass) (h : Heeded) (w : Went) where
  -- a pass is kept by its turn
  pub pass_cleaned : ByItsTurn → IsDatabaseState old.store.now → (IsIdlePass old → ⊥) → (old.pass.next ≡ old.store.next → w.from ≡ old.pass.at) → WentAs h old.store.now b.now w → b.next ≡ next_cleaned w.did old.store.next
      → h.spared ≡ length old.undo.items → (HasNoneOpen (passed_over o s old) → HeedsNobody h (passed_over o s old)) → pass ≡ pass_behind (noted_pass old) w.from w.did h.may.unlink b.next → KeepsPassIn o s old
      → KeepsPassIn o s (record old { store = b; sessions = keeping_room item old.sessions; pass = pass })
  pass_cleaned law database goes from went next spared heeds is keeps = subst (λ (p : Pass). KeepsPass p (passed_over o s (record old { store = b; sessions = keeping_room item old.sessions; pass = pass }))) (sym is)
      (law old.pass h w (passed_over o s old) (passed_over o s (record old { store = b; sessions = keeping_room item old.sessions; pass = pass })) keeps database goes (record {
        from = from;
        went = went;
        next = next;
        spared = spared;
        heeds = heeds;
        tape = refl;
        led = refl;
        undos = refl;
      }))

-- ---- an idle pass

module _ {D B : Type 0} (o : Opening B) (first : Image) (g : Ghosts D) (old : Running D) (pass : Pass) where
  abbrev pub looked : Running D
  looked = record old { pass = pass }

  -- the cleaner has looked, and did nothing
  pub shows_looked : (s : State) → Shows o first g s old → Shows o first g s looked
  shows_looked s shows = record { opened = shows.opened; on = shows.on; mind = shows.mind; shows = shows.shows; undo = shows.undo; names = shows.names; numbered = shows.numbered; full = shows.full }

  pub ready_looked : pass.at ≡ old.pass.at → IsWorldReady o g old → IsWorldReady o g looked
  ready_looked at ready = record {
    stand = ready.stand;
    going = ready.going;
    seats = ready.seats;
    ordered = ready.ordered;
    held = record { named = ready.held.named; only = ready.held.only };
    count = ready.count;
    lines = ready.lines;
    place = subst (IsCountedPosition old.store.now.counted) (sym at) ready.place;
  }

  -- its pass is kept, where it is idle
  pub pass_looked : (s : State) → ((p : Pass) (v : PassedOver) → KeepsPass p v → (noted p v.next v.tape).phase ≡ Idle → KeepsPass (noted p v.next v.tape) v) → pass ≡ noted_pass old → IsIdlePass old → KeepsPassIn o s old → KeepsPassIn o s looked
  pass_looked s law is idle keeps = subst (λ (p : Pass). KeepsPass p (passed_over o s looked)) (sym is) (law old.pass (passed_over o s looked) keeps idle)
