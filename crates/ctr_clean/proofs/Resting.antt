-- What a call leaves that does nothing.
use Rattle.std.proofs.Common.{◌≡◌, inl, false, Result, Ok, Err, refl, sym, arith}
use Rattle.std.specs.Prelude.{IsTrue, ⊤}
use Rattle.std.proofs.lemmas.List.{append-nil}
use Rattle.ctr_disk.specs.declared.disk.Disk.{Ghosts}
use Rattle.ctr_disk.specs.Image.{Image}
use Rattle.ctr_disk.specs.declared.fault.StoreFault.{StoreFault}
use Rattle.ctr_pvs.specs.base_Base.{IsSoundImage}
use Rattle.ctr_pvs.specs.store_Store.{View, LeavesFront, LeavesPage}
use Rattle.ctr_pvs.specs.walk_Damage.{ReadsPages}
use Rattle.ctr_pvs.proofs.walk_Damages.{reads_err, reads_behind}
use Rattle.ctr_pvs.proofs.walk_Joins.{pages_join}

pub rests_read : {D T : Type 0} (first : Image) (g : Ghosts D) (a : View D) (x : T) → (IsTrue g.tells → IsSoundImage first → LeavesFront g a a) → a.stopped ≡ false → LeavesPage {T = T} first g a a (Ok x)
rests_read first g a x rests going = record {
  any_moment = rests;
  logs = λ told sound. record { j = 0; waiting = sym (append-nil a.waiting); hardened = refl; now = refl };
  keeps = record { next = refl; room = omega arith; gate = refl; meta = refl; counted = refl };
  time = record { later = omega arith; file = refl; start = refl; older = refl; gate = omega arith; stray = inl refl };
  going = going;
  stopped = tt;
  refused = λ told sound. tt;
  faults = record { later = omega arith; failed = λ is. absurd cc; fine = λ isnt. refl };
}

-- pages are read behind others
pub reads_on : {D S T : Type 0} (first : Image) (g : Ghosts D) (x : S) (a b c : View D) (result : Result T StoreFault) → LeavesPage {T = S} first g a b (Ok x) → ReadsPages {T = T} first g b c result → ReadsPages {T = T} first g a c result
reads_on {D} {S} {T} first g x a b c (Ok y) page read = pages_join g a b c first S T x (Ok y) page read
reads_on {D} {S} {T} first g x a b c (Err e) page read = reads_behind first g T x a b c e page (reads_err first g T ⊤ e b c read)
