-- A World behind a call of its store that logs nothing, or is told some entries later.
use Rattle.std.proofs.Common.{◌≡◌, ◌⊎◌, ⊎_elim, inl, inr, ℕ, ◌+◌, ◌≤◌, false, [], Result, Ok, Err, sym, ◌∙◌, ap, subst, arith}
use Rattle.std.specs.Prelude.{IsTrue, OnErr, OnOk}
use Rattle.ctr_disk.specs.declared.fault.StoreFault.{StoreFault}
use Rattle.ctr_disk.specs.declared.fault.StoreFault.TheVariants.{Fault}
use Rattle.ctr_base.specs.Base.{IsSoundImage, WhereSound}
use Rattle.ctr_disk.specs.declared.disk.Disk.{Ghosts}
use Rattle.ctr_disk.specs.Image.{Image}
use Rattle.ctr_meta.specs.Kept.{TablesKept}
use Rattle.ctr_names.specs.Held.{names_of_items}
use Rattle.ctr_pass.specs.txn_Held.{TxnsHeld}
use Rattle.ctr_pass.specs.txn_Rooms.{HasItemRoom}
use Rattle.ctr_redo.specs.States.{State}
use Rattle.ctr_record_effects.specs.States.{area_in}
use Rattle.ctr_undo.specs.kept_Turns.{Start}
use Rattle.ctr_undo.specs.kept_Walk.{Mind}
use Rattle.ctr_store.specs.Store.{View, KeepsRoom, LeavesFront, LeavesPage, Logs}
use Rattle.ctr_flush.specs.declared.flusher.FlushTurn.{FlushTurn}
use Rattle.ctr_flush.specs.declared.flusher.FlushTurn.TheVariants.{Wrote, Idle, Short}
use Rattle.ctr_flush.specs.Turns.{AnswersTurn, KeepsPages}
use Rattle.ctr_pass.specs.session_world_Ready.{LeavesDisk, StandOver, StillOrLogs, Front}
use Rattle.ctr_pass.proofs.session_world_Disks.{as_counted}
use Rattle.ctr_pass.specs.session_world_World.{SessionsHeld, InWorld}
use Rattle.ctr_pass.proofs.exec_Going.{shows_behind}
use Rattle.ctr_pass.specs.exec_sessions_Sessions.{Sessions}
use Rattle.ctr_pass.specs.exec_Order.{IsTapeOrdered}
use Rattle.ctr_pass.specs.exec_Sessions.{AreSeated, OrFails, sessions_held_by}
use Rattle.ctr_world.specs.declared.opening.Opening.{Ghosts as Opening}
use Rattle.ctr_world.specs.Held.{Running}
use Rattle.ctr_pass.specs.cursor_Standing.{IsCountedPosition}
use Rattle.ctr_world.specs.World.{FullCountsAll, IsWorldReady, Shows, start_in}

-- who stands over a store does so over one with the same tables
stands_still : {D : Type 0} (txns : TxnsHeld) (a b : View D) → b.meta ≡ a.meta → StandOver txns a → StandOver txns b
stands_still txns a b same stand = record {
  next = stand.next ∙ ap (λ (k : TablesKept). k.tables.next) (sym same);
  items = subst (HasItemRoom txns) (sym same) stand.items;
}

pub after : (k m n : ℕ) → k ≤ m → m ≤ n → k ≤ n
after k m n first then = omega (arith, first, then)

pub at_once : (n : ℕ) → n ≤ n
at_once n = omega arith

pub ordered_later : (start now then : ℕ) (h : Sessions) → now ≤ then → IsTapeOrdered start now h → IsTapeOrdered start then h
ordered_later start now then h more is = record { order = is.order; later = after _ now then is.later more; each = is.each }

-- a call keeps each World of these sessions
abbrev pub KeepsWorlds : {D : Type 0} → Ghosts D → View D → View D → Type 0
KeepsWorlds {D} g a b = (c : Start) (opened : D) (h : SessionsHeld) (w : Mind) → InWorld g c opened a h w → InWorld g c opened b h w

module _ {D B : Type 0} (o : Opening B) (first : Image) (g : Ghosts D) (old : Running D) (b : View D) where
  abbrev pub behind : Running D
  behind = record old { store = b }

  ready_still : b.meta ≡ old.store.meta → b.now.counted ≡ old.store.now.counted → b.stopped ≡ false → g.moment_of old.store.disk ≤ g.moment_of b.disk → IsWorldReady o g old → IsWorldReady o g behind
  ready_still tables counted going later ready = record {
    stand = stands_still old.sessions.txns old.store b tables ready.stand;
    going = going;
    seats = subst (AreSeated old.sessions) (sym counted) ready.seats;
    ordered = ordered_later o.start (g.moment_of old.store.disk) (g.moment_of b.disk) old.sessions later ready.ordered;
    held = record { named = ready.held.named; only = ready.held.only };
    count = ready.count;
    lines = ready.lines;
    place = subst (λ n. IsCountedPosition n old.pass.at) (sym counted) ready.place;
  }

  pub ready_behind : KeepsRoom old.store b → b.stopped ≡ false → g.moment_of old.store.disk ≤ g.moment_of b.disk → IsWorldReady o g old → IsWorldReady o g behind
  ready_behind keeps going later ready = ready_still keeps.meta keeps.counted going later ready

  pub world_behind : (s : State) → b.now ≡ old.store.now → KeepsWorlds g old.store b → Shows o first g s old → Shows o first g s behind
  world_behind s pages kept shows = record {
    opened = shows.opened;
    on = shows.on;
    mind = shows.mind;
    shows = shows_behind g (start_in o s) shows.opened old.store b old.sessions shows.mind shows.shows (kept (start_in o s) shows.opened (sessions_held_by old.sessions) shows.mind shows.shows.world);
    undo = shows.undo;
    names = ap (λ (q : State). names_of_items (area_in q).title old.undo.items) pages ∙ shows.names;
    numbered = shows.numbered;
    full = subst (λ (q : State). FullCountsAll shows.mind.tape q.counted) (sym pages) shows.full;
  }

  -- ---- by what the call answered

  pub ready_or : {T : Type 0} (result : Result T StoreFault) → KeepsRoom old.store b → OnOk result (b.stopped ≡ false) → g.moment_of old.store.disk ≤ g.moment_of b.disk → IsWorldReady o g old → OnOk result (IsWorldReady o g behind)
  ready_or (Ok x) keeps going later ready = ready_behind keeps going later ready
  ready_or (Err e) keeps going later ready = tt

  -- of a turn of the flusher
  pub ready_flushed : {T : Type 0} (result : Result T StoreFault) → KeepsPages first g old.store b result → IsWorldReady o g old → OnOk result (IsWorldReady o g behind)
  ready_flushed (Ok x) leaves ready = ready_still leaves.meta leaves.counted leaves.going leaves.later ready
  ready_flushed (Err e) leaves ready = tt

  pub shows_flushed : {T : Type 0} (result : Result T StoreFault) (s : State) → KeepsPages first g old.store b result
      → ((c : Start) (opened : D) (h : SessionsHeld) (w : Mind) → InWorld g c opened old.store h w → OrFails (InWorld g c opened b h w) result)
      → IsTrue g.tells → IsSoundImage first → Shows o first g s old → OrFails (Shows o first g s behind) result
  shows_flushed (Ok x) s leaves kept told sound shows = world_behind s (leaves.shows told sound).0.now kept shows
  shows_flushed (Err e) s leaves kept told sound shows = kept (start_in o s) shows.opened (sessions_held_by old.sessions) shows.mind shows.shows.world

  -- each World is kept where it was answered
  abbrev pub KeepsOr : {T : Type 0} → Result T StoreFault → Type 0
  KeepsOr result = (c : Start) (opened : D) (h : SessionsHeld) (w : Mind) → InWorld g c opened old.store h w → OnOk result (InWorld g c opened b h w)

  pub shows_or : {T : Type 0} (result : Result T StoreFault) (s : State) → LeavesPage first g old.store b result → KeepsOr result → OnErr result (result ≡ Err Fault) → IsTrue g.tells → IsSoundImage first → Shows o first g s old → OrFails (Shows o first g s behind) result
  shows_or (Ok x) s leaves kept refused tells sound shows = world_behind s (leaves.logs tells sound).now kept shows
  shows_or (Err e) s leaves kept refused tells sound shows = cc refused

-- a turn of the flusher logs a record where it begins a generation, and else none
next_flushed : {D : Type 0} (a b : View D) (t : FlushTurn) → AnswersTurn a b (Ok t) → (b.next ≡ a.next) ⊎ (b.next ≡ a.next + 1)
next_flushed a b Wrote ends = ⊎_elim (λ begins. inr begins.2.next) (λ rest. ⊎_elim (λ drops. inl (ap (λ (v : View _). v.next) drops.1.0)) (λ more. ⊎_elim (λ hardens. inl hardens.log.next) (λ writes. inl writes.log.next) more) rest) ends
next_flushed a b Idle ends = inl ends.1.1.next
next_flushed a b Short ends = inl ends.1.1.next

goes_flushed : {D : Type 0} (first : Image) (g : Ghosts D) (a b : View D) (r : Result FlushTurn StoreFault) → KeepsPages first g a b r → AnswersTurn a b r → WhereSound first g (OnOk r (StillOrLogs a b))
goes_flushed first g a b (Ok t) leaves ends = λ told sound. ⊎_elim (λ same. inl (record { next = same; now = as_counted a.now b.now (leaves.shows told sound).0.now })) inr (next_flushed a b t ends)
goes_flushed first g a b (Err e) leaves ends = λ told sound. tt

-- what a turn of the flusher leaves of the disk
pub disk_flushed : {D : Type 0} (first : Image) (g : Ghosts D) (a b : View D) (r : Result FlushTurn StoreFault) → KeepsPages first g a b r → AnswersTurn a b r → LeavesDisk first g a b r
disk_flushed first g a b r leaves ends = record { later = leaves.later; faults = leaves.faults; left = λ told sound. Front (leaves.any_moment told sound); goes = goes_flushed first g a b r leaves ends }

-- a World behind it, by what it answered
pub world_flushed : {D T : Type 0} (g : Ghosts D) (a b : View D) (r : Result T StoreFault) (P : Type 0) → OnOk r (Logs [] a b × LeavesFront g b b) → OnErr r (r ≡ Err Fault) → (Logs [] a b → LeavesFront g b b → P) → OrFails P r
world_flushed g a b (Ok x) P shows refused behind = behind shows.0 shows.1
world_flushed g a b (Err e) P shows refused behind = cc refused

-- answers leave the store as it was
pub disk_answered : {D T : Type 0} (first : Image) (g : Ghosts D) (a b c : View D) (r : Result T StoreFault) → c ≡ b → LeavesDisk first g a b r → LeavesDisk first g a c r
disk_answered first g a b c r is leaves = subst (λ (v : View _). LeavesDisk first g a v r) (sym is) leaves
