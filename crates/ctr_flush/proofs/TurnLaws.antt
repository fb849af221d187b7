-- A turn's parts change no page or table of the fold.
use Rattle.std.specs.Prelude.{IsTrue, OnOk}
use Rattle.std.proofs.Common.{◌≡◌, inl, ◌≤◌, Bool, true, false, [], Result, Ok, Err, sym, ◌∙◌, ap, subst, arith, append-nil}
use Rattle.ctr_disk.specs.declared.disk.Disk.{Ghosts}
use Rattle.ctr_disk.specs.Image.{Image}
use Rattle.ctr_disk.specs.Device.{CountsAs}
use Rattle.ctr_disk.specs.declared.fault.StoreFault.{StoreFault}
use Rattle.ctr_disk.specs.declared.fault.StoreFault.TheVariants.{Fault}
use Rattle.ctr_base.specs.Base.{IsSoundImage}
use Rattle.ctr_store.specs.Store.{View, LeavesFront, Logs}
use Rattle.ctr_store.specs.Generations.{BeginsGeneration, AnswersEnd, ShowsSame}
use Rattle.ctr_flush.specs.Turns.{KeepsPages}

-- no answer is an error
ok_isnt : {T : Type 0} (x : T) (e : StoreFault) → Ok x ≡ Err e → ⊥
ok_isnt x e is = cc is

module _ {D : Type 0} (first : Image) (g : Ghosts D) (a b : View D) where
  -- pages and tables are as before, where the same waits
  shown : b.waiting ≡ a.waiting → ShowsSame g a b → Logs [] a b × LeavesFront g b b
  shown waits same = (record { j = 0; waiting = waits ∙ sym (append-nil a.waiting); hardened = same.hardened; now = same.now }, same.durable)

  pub begun_keeps : {T : Type 0} (x : T) → BeginsGeneration a b → a.waiting ≡ [] → a.room ≤ 65536 → (IsTrue g.tells → IsSoundImage first → LeavesFront g a b) → (IsTrue g.tells → IsSoundImage first → ShowsSame g a b) → b.stopped ≡ false
      → {U : Type 0} (u : U) → CountsAs g Fault a.disk b.disk (Ok u) → KeepsPages {T = T} first g a b (Ok x)
  begun_keeps x begins none room front shows going u counts = record {
    any_moment = front;
    shows = λ told sound. shown (begins.none ∙ sym none) (shows told sound);
    meta = begins.meta;
    counted = begins.counted;
    room = omega (arith, room, begins.room);
    next = omega (arith, begins.next);
    going = going;
    later = counts.later;
    stray = inl counts.stray;
    faults = record { later = counts.faults.later; failed = λ is. absurd (ok_isnt x Fault is); fine = λ other. counts.faults.fine (ok_isnt u Fault) };
  }

  pub ended_keeps : (r : Result Bool StoreFault) → AnswersEnd a b r → (IsTrue g.tells → IsSoundImage first → LeavesFront g a b) → (IsTrue g.tells → IsSoundImage first → OnOk r (ShowsSame g a b)) → OnOk r (b.stopped ≡ false) → CountsAs g Fault a.disk b.disk r
      → KeepsPages first g a b r
  ended_keeps (Ok true) (same, counted) front shows going counts = record {
    any_moment = front;
    shows = λ told sound. shown (ap (λ (v : View D). v.waiting) same) (shows told sound);
    meta = ap (λ (v : View D). v.meta) same;
    counted = counted;
    room = omega (arith, ap (λ (v : View D). v.room) same);
    next = omega (arith, ap (λ (v : View D). v.next) same);
    going = going;
    later = counts.later;
    stray = inl counts.stray;
    faults = counts.faults;
  }
  ended_keeps (Ok false) same front shows going counts = record {
    any_moment = front;
    shows = λ told sound. shown (ap (λ (v : View D). v.waiting) same) (shows told sound);
    meta = ap (λ (v : View D). v.meta) same;
    counted = ap (λ (v : View D). v.now.counted) same;
    room = omega (arith, ap (λ (v : View D). v.room) same);
    next = omega (arith, ap (λ (v : View D). v.next) same);
    going = going;
    later = counts.later;
    stray = inl counts.stray;
    faults = counts.faults;
  }
  ended_keeps (Err e) (same, counted) front shows going counts = record {
    any_moment = front;
    shows = λ told sound. tt;
    meta = ap (λ (v : View D). v.meta) same;
    counted = counted;
    room = omega (arith, ap (λ (v : View D). v.room) same);
    next = omega (arith, ap (λ (v : View D). v.next) same);
    going = tt;
    later = counts.later;
    stray = inl counts.stray;
    faults = counts.faults;
  }
