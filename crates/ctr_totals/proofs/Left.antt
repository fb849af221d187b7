-- What readings leave, and that they meet no damage.
use Rattle.std.proofs.Common.{◌≡◌, inl, ℕ, false, List, Result, Ok, Err, refl, sym, ap, subst, arith}
use Rattle.std.specs.Prelude.{⊤, IfErr, IsTrue}
use Rattle.std.proofs.lemmas.List.{append-nil}
use Rattle.ctr_bytes.specs.Following.{◌>>=◌}
use Rattle.ctr_disk.specs.declared.disk.Disk.{Ghosts}
use Rattle.ctr_disk.specs.Image.{Image}
use Rattle.ctr_disk.specs.declared.fault.StoreFault.{StoreFault}
use Rattle.ctr_disk.specs.declared.fault.StoreFault.TheVariants.{Fault}
use Rattle.ctr_page.specs.declared.walk.BadChain.{BadChain}
use Rattle.ctr_page.specs.declared.rows.Place.{Place}
use Rattle.ctr_area.specs.Reading.{area_of}
use Rattle.ctr_base.specs.Base.{IsSoundImage}
use Rattle.ctr_store.specs.Store.{View, LeavesFront, LeavesPage}
use Rattle.ctr_walk.specs.Damage.{EndsTold, ReadsPages}
use Rattle.ctr_walk.proofs.Damages.{reads_err}
use Rattle.ctr_pvs.specs.Slots.{SlotSaidAt}
use Rattle.ctr_cursor.specs.chain_Seeking.{entries_on, sought_in, sought_at, xids_found}
use Rattle.ctr_cursor.specs.undamaged_Undamaged.{MeetsNoDamage}
use Rattle.ctr_cursor.proofs.reading_Told.{undamaged}

-- where a search through the versions of the row at a place meets no damage, its slot is read without
slot_meets : (counted : ℕ) (pages : ℕ → List ℕ) (at : Place) → MeetsNoDamage (λ r. r ≡ xids_found (sought_at (λ x. false) counted pages at)) → MeetsNoDamage (SlotSaidAt counted pages at)
slot_meets counted pages at none = record { ends = fails; told = λ told d bad. fails bad.0 bad.1 }
  where
    fails : (bad : BadChain) → SlotSaidAt counted pages at (Err bad) → ⊥
    fails bad is = none.ends bad (sym (ap xids_found (ap (λ (r : Result ⊤ BadChain). r >>= λ _. sought_in (λ x. false) (entries_on counted pages at.page) at.page ((area_of pages).slot at)) is)))

-- so it is answered an error by the disk alone
pub slot_undamaged : (told : BadChain → StoreFault) (counted : ℕ) (pages : ℕ → List ℕ) (at : Place) → MeetsNoDamage (λ r. r ≡ xids_found (sought_at (λ x. false) counted pages at)) → (r : Result _ StoreFault)
    → EndsTold told (SlotSaidAt counted pages at) r → IfErr r (λ e. e ≡ Fault)
slot_undamaged told counted pages at none r ends = undamaged told (SlotSaidAt counted pages at) (slot_meets counted pages at none) r ends

-- what was read for an answer that is a fault is read for it as another call answers it
pub reads_fault : {D : Type 0} (first : Image) (g : Ghosts D) (a b : View D) (S T : Type 0) (e : StoreFault) (result : Result S StoreFault)
    → result ≡ Err e → ReadsPages {T = S} first g a b result → ReadsPages {T = T} first g a b (Err e)
reads_fault first g a b S T e result is one = reads_err first g S T e a b (subst (λ r. ReadsPages first g a b r) is one)

-- what a call leaves that does nothing
pub rests_read : {D T : Type 0} (first : Image) (g : Ghosts D) (a : View D) (x : T) → (IsTrue g.tells → IsSoundImage first → LeavesFront g a a) → a.stopped ≡ false → LeavesPage {T = T} first g a a (Ok x)
rests_read first g a x rests going = record {
  any_moment = rests;
  logs = λ told sound. record { j = 0; waiting = sym (append-nil a.waiting); hardened = refl; now = refl };
  keeps = record { next = refl; room = omega arith; gate = refl; meta = refl; counted = refl };
  time = record { later = omega arith; file = refl; start = refl; older = refl; gate = omega arith; stray = inl refl };
  going = going;
  stopped = tt;
  refused = λ told sound. tt;
  faults = record { later = omega arith; failed = λ is. absurd cc; fine = λ isnt. refl };
}
