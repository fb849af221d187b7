-- A statement that comes next, behind pages that were read.
use Rattle.std.proofs.Common.{◌≡◌, ⊎_elim, false, ℕ, ◌≤◌, Result, Ok, Err, refl, sym, subst}
use Rattle.ctr_disk.specs.declared.disk.Disk.{Ghosts}
use Rattle.ctr_disk.specs.Image.{Image}
use Rattle.ctr_disk.specs.declared.fault.StoreFault.{StoreFault}
use Rattle.ctr_disk.specs.declared.fault.StoreFault.TheVariants.{Fault, Damaged}
use Rattle.ctr_base.specs.Base.{IsSoundImage}
use Rattle.ctr_told.specs.walk_Damage.{ReadsPages}
use Rattle.std.specs.Prelude.{IfOk, IsTrue, OnOk}
use Rattle.ctr_types.specs.declared.statement.Statement.{Statement}
use Rattle.ctr_types.specs.declared.tape.Act.{Act}
use Rattle.ctr_types.specs.declared.tape.Reply.{Reply}
use Rattle.ctr_redo.specs.States.{State as Stored}
use Rattle.ctr_told.specs.store_Store.{View, KeepsRoom, LeavesFront, LeavesPage}
use Rattle.ctr_locks.specs.Shows.{ShowsKeyLocks}
use Rattle.ctr_told.specs.kept_Turns.{Start, state_now}
use Rattle.ctr_told.specs.stops_World.{KeepsWorld}
use Rattle.ctr_told.specs.page_turns_Turns.{RestsBehind}
use Rattle.ctr_session_world.specs.World.{SessionsHeld, AreInTables, NamesStay, names_in}
use Rattle.ctr_session_world.specs.Told.{IsNextOf, IsActTold}

-- pages that were read leave the rest
pub rests_read : {D T : Type 0} (first : Image) (g : Ghosts D) (a b : View D) (x : T) → IsTrue g.tells → IsSoundImage first → LeavesPage first g a b (Ok x) → LeavesFront g b b → RestsBehind g a b
rests_read first g a b x told sound leaves rests = record { logs = leaves.logs told sound; front = leaves.any_moment told sound; rests = rests; later = leaves.time.later }

-- whatever a search of pages answers, what it leaves
pub rests_of : {D T : Type 0} (first : Image) (g : Ghosts D) (a b : View D) (r : Result T StoreFault) → IsTrue g.tells → IsSoundImage first → ReadsPages first g a b r → (b.stopped ≡ false → LeavesFront g b b) → OnOk r (RestsBehind g a b)
rests_of first g a b (Ok x) told sound leaves rests = rests_read first g a b x told sound leaves (rests leaves.going)
rests_of first g a b (Err e) told sound leaves rests = tt

pub room_of : {D T : Type 0} (first : Image) (g : Ghosts D) (a b : View D) (r : Result T StoreFault) → ReadsPages first g a b r → KeepsRoom a b
room_of first g a b (Ok x) leaves = leaves.keeps
room_of first g a b (Err Fault) leaves = leaves.keeps
room_of first g a b (Err (Damaged d)) leaves = ⊎_elim (λ lost. lost.keeps) (λ found. found.keeps) leaves

-- what goes on where it was answered
pub going_of : {D T : Type 0} (first : Image) (g : Ghosts D) (a b : View D) (r : Result T StoreFault) → ReadsPages first g a b r → OnOk r (b.stopped ≡ false)
going_of first g a b (Ok x) leaves = leaves.going
going_of first g a b (Err e) leaves = tt

pub later_of : {D T : Type 0} (first : Image) (g : Ghosts D) (a b : View D) (r : Result T StoreFault) → ReadsPages first g a b r → g.moment_of a.disk ≤ g.moment_of b.disk
later_of first g a b (Ok x) leaves = leaves.time.later
later_of first g a b (Err Fault) leaves = leaves.time.later
later_of first g a b (Err (Damaged d)) leaves = ⊎_elim (λ lost. lost.time.later) (λ found. found.time.later) leaves

module _ {D : Type 0} (g : Ghosts D) (c : Start) (opened : D) (a m b : View D) (h : SessionsHeld) (s : ℕ) (statement : Statement) (made : ℕ) (next : IsNextOf g c opened a b h s statement made)
    (rested : RestsBehind g a m) (keeps : KeepsWorld g c opened m next.mind) (later : g.moment_of m.disk ≤ g.moment_of b.disk) where
  pub pages : m.now ≡ a.now
  pages = rested.logs.now

  -- the statement still comes next
  abbrev pub goes : IsNextOf g c opened m b h s statement made
  goes = record {
    mind = next.mind;
    world = record {
      keeps = keeps;
      run_is = next.world.run_is;
      locks = subst (λ (q : Stored). ShowsKeyLocks (names_in q) h.locks (state_now c next.mind)) (sym pages) next.world.locks;
      tables = subst (λ (q : Stored). AreInTables q h.locks (state_now c next.mind) next.mind.facts) (sym pages) next.world.tables;
      in_order = next.world.in_order;
    };
    e = record { n = next.e.n; later = next.e.later; in_call = subst (λ n. g.moment_of m.disk ≤ n) (sym next.at_end) later; statement = next.e.statement; is_it = next.e.is_it };
    is = next.is;
    number = next.number;
    made_is = next.made_is;
    at_end = next.at_end;
  }

  -- what is told then is told
  pub goes_told : (now : SessionsHeld) (x : Act) (r : Reply) → (told : IsActTold goes now x r) → (then : IsActTold next now x r) × (then.mind ≡ told.mind)
  goes_told now x r told = (record { mind = told.mind; world = told.world; tape = told.tape; undo = told.undo; names = subst (λ (q : Stored). NamesStay q b.now) pages told.names; others = told.others; counts = told.counts }, refl)

pub if_ok : {T E : Type 0} (r : Result T E) {P Q : T → Type 0} → ((x : T) → P x → Q x) → IfOk r P → IfOk r Q
if_ok (Ok x) maps is = maps x is
if_ok (Err e) maps is = tt
