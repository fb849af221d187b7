-- A World behind pages that the cleaner reads for a position of its pass.
use Rattle.std.proofs.Common.{◌≡◌, ℕ, ◌+◌, ◌-◌, ◌^◌, ◌<◌, ◌≤◌, false, Bool, Ok, sym, ◌∙◌, ap, subst, arith}
use Rattle.std.specs.Prelude.{IsTrue, length}
use Rattle.ctr_disk.specs.declared.disk.Disk.{Ghosts}
use Rattle.ctr_disk.specs.Image.{Image}
use Rattle.ctr_base.specs.Base.{IsSoundImage}
use Rattle.ctr_redo.specs.States.{State}
use Rattle.ctr_store.specs.Store.{View, KeepsRoom, LeavesFront, LeavesPage}
use Rattle.ctr_store.specs.declared.store.TheConstants.{TURN_BYTES}
use Rattle.ctr_pass.specs.Keeping.{KeepsPass}
use Rattle.ctr_world.specs.declared.opening.Opening.{Ghosts as Opening}
use Rattle.ctr_world.specs.declared.cleaning.TheConstants.{READS}
use Rattle.ctr_world.specs.declared.engine.Engine.{Engine}
use Rattle.ctr_world.specs.Cleaning.{ReadsOn}
use Rattle.ctr_world.specs.Held.{Running}
use Rattle.ctr_world.specs.World.{IsWorldReady, KeepsPassIn, Shows, led_to}
use Rattle.ctr_world.proofs.Counting.{ReadingKeeps, shows_counted, world_counted}
use Rattle.ctr_world.proofs.Quiet.{behind, ready_behind}

module _ {D B : Type 0} (o : Opening B) (first : Image) (g : Ghosts D) (old : Running D) (b : View D) (r : ℕ) where
  abbrev pub reading : Running D
  reading = record old { store = b; read = r }

  counts_ready : IsWorldReady o g (behind o first g old b) → IsWorldReady o g reading
  counts_ready ready = record {
    stand = ready.stand;
    going = ready.going;
    seats = ready.seats;
    ordered = ready.ordered;
    held = record { named = ready.held.named; only = ready.held.only };
    count = ready.count;
    lines = ready.lines;
    place = ready.place;
  }

  counts_shows : (s : State) → Shows o first g s (behind o first g old b) → Shows o first g s reading
  counts_shows s shows = record { opened = shows.opened; on = shows.on; mind = shows.mind; shows = shows.shows; undo = shows.undo; names = shows.names; numbered = shows.numbered; full = shows.full }

  pub ready_reading : (x : Bool) → LeavesPage first g old.store b (Ok x) → IsWorldReady o g old → IsWorldReady o g reading
  ready_reading x read ready = counts_ready (ready_behind o first g old b read.keeps read.going read.time.later ready)

  pub shows_reading : (x : Bool) (s : State) → ReadingKeeps g → LeavesPage first g old.store b (Ok x) → (b.stopped ≡ false → LeavesFront g b b) → IsTrue g.tells → IsSoundImage first → Shows o first g s old → Shows o first g s reading
  shows_reading x s law read rests told sound shows = counts_shows s
      (shows_counted o first g old b (Ok x) s read (λ c opened h w world. world_counted first g old.store b (Ok x) law c opened h w told sound read rests tt world) told sound shows)

  -- its pass is kept
  pub pass_reading : (s : State) → b.now ≡ old.store.now → b.next ≡ old.store.next → KeepsPassIn o s old → KeepsPassIn o s reading
  pass_reading s now next keeps =
      subst (λ (q : State). KeepsPass old.pass (record { state = q; next = b.next; tape = old.sessions.tape.items; led = (led_to o s old.sessions.tape.items).state; undos = length old.undo.items })) (sym now)
      (subst (λ n. KeepsPass old.pass (record { state = old.store.now; next = n; tape = old.sessions.tape.items; led = (led_to o s old.sessions.tape.items).state; undos = length old.undo.items })) (sym next) keeps)

-- more pages were read for the position, and no more than a turn may read
pub reads_more : {D : Type 0} (old new : Running D) (most : ℕ) → new.pass ≡ old.pass → new.store.next ≡ old.store.next → new.read ≡ old.read + most → 0 < most → (0 < most → old.read < old.store.now.counted) → most ≤ READS → ReadsOn old new
reads_more old new most pass next is some few least = record {
  pass = pass;
  none = next;
  few = few some;
  more = subst (λ n. old.read < n) (sym is) (further old.read most some);
  most = subst (λ n. n ≤ old.read + READS) (sym is) (within old.read most READS least);
}
  where
    further : (n m : ℕ) → 0 < m → n < n + m
    further n m some = omega (arith, some)

    within : (n m k : ℕ) → m ≤ k → n + m ≤ n + k
    within n m k least = omega (arith, least)

-- what logged none logged one at most
pub log_none : (a b : ℕ) → b ≡ a → b ≤ a + 1
log_none a b is = omega (arith, is)

-- there is as much room behind pages that were read, and as many numbers are left
pub room_left : {D : Type 0} (a b : View D) → KeepsRoom a b → (TURN_BYTES ≤ a.room) × (a.next < 2 ^ 63 - 1) → (TURN_BYTES ≤ b.room) × (b.next < 2 ^ 63 - 1)
room_left a b keeps room = (more TURN_BYTES a.room b.room room.0 keeps.room, subst (λ n. n < 2 ^ 63 - 1) (sym keeps.next) room.1)
  where
    more : (t m n : ℕ) → t ≤ m → m ≤ n → t ≤ n
    more t m n one then = omega (arith, one, then)

-- what has another store, and has read other pages, has no other session or pass
pub as_read : {D B : Type 0} (old new : Engine D B) → new ≡ record old { store = new.store; read = new.read }
    → new ≡ record old { store = new.store; sessions = record old.sessions { txns = new.sessions.txns }; pass = new.pass; read = new.read }
as_read old new is = is ∙ (λ i. record old { store = new.store; sessions = record old.sessions { txns = (sym is i).sessions.txns }; pass = (sym is i).pass; read = new.read })

-- what has another pass has another count of pages, or the same
pub as_unread : {D B : Type 0} (old new : Engine D B) → new ≡ record old { store = new.store; sessions = record old.sessions { txns = new.sessions.txns }; pass = new.pass }
    → new ≡ record old { store = new.store; sessions = record old.sessions { txns = new.sessions.txns }; pass = new.pass; read = new.read }
as_unread old new is = is ∙ (λ i. record old { store = new.store; sessions = record old.sessions { txns = new.sessions.txns }; pass = new.pass; read = (sym is i).read })

-- pages that are read behind steps leave the sessions, but for their transactions
pub read_behind_steps : {D B : Type 0} (old mid new : Engine D B) → mid ≡ record old { store = mid.store; sessions = record old.sessions { txns = mid.sessions.txns }; pass = mid.pass; read = mid.read }
    → new ≡ record mid { store = new.store; read = new.read } → new ≡ record old { store = new.store; sessions = record old.sessions { txns = new.sessions.txns }; pass = new.pass; read = new.read }
read_behind_steps {D} {B} old mid new steps is = as_read mid new is
    ∙ ap (λ (x : Engine D B). record x { store = new.store; sessions = record x.sessions { txns = new.sessions.txns }; pass = new.pass; read = new.read }) steps

-- one page was read behind none
pub one_read : (a b : ℕ) → a ≡ 0 → b ≡ a + 1 → b ≤ 1
one_read a b none is = omega (arith, none, is)
