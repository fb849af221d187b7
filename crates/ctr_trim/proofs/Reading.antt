-- What was read for an answer of another type, and what follows of a slot that is there.
use Rattle.std.proofs.Common.{◌≡◌, Result, Ok, Err, refl, subst}
use Rattle.std.specs.Prelude.{OnOk}
use Rattle.ctr_disk.specs.declared.disk.Disk.{Ghosts}
use Rattle.ctr_disk.specs.Image.{Image}
use Rattle.ctr_disk.specs.declared.fault.StoreFault.{StoreFault}
use Rattle.ctr_disk.specs.declared.fault.StoreFault.TheVariants.{Fault, Damaged}
use Rattle.ctr_pvs.specs.store_Store.{View}
use Rattle.ctr_pvs.specs.walk_Damage.{EndsTold, ReadsPages}
use Rattle.ctr_pvs.proofs.walk_Damages.{reads_err}

-- what was read for an answer that is a fault is read for it as another call answers it
pub reads_fault : {D : Type 0} (first : Image) (g : Ghosts D) (a b : View D) (S T : Type 0) (e : StoreFault) (result : Result S StoreFault)
    → result ≡ Err e → ReadsPages {T = S} first g a b result → ReadsPages {T = T} first g a b (Err e)
reads_fault first g a b S T e result is one = reads_err first g S T e a b (subst (λ r. ReadsPages first g a b r) is one)

-- and so is damage that is told
pub told_by : {B S T : Type 0} (told : B → StoreFault) (Ends : Result S B → Type 0) (Other : Result T B → Type 0) (e : StoreFault) (result : Result S StoreFault) → result ≡ Err e
    → ((bad : B) → Ends (Err bad) → Other (Err bad)) → EndsTold told Ends result → EndsTold told Other (Err e)
told_by told Ends Other e result is f ends = other e (subst (EndsTold told Ends) is ends)
  where
    other : (d : StoreFault) → EndsTold told Ends (Err d) → EndsTold told Other (Err d)
    other Fault t = tt
    other (Damaged d) (bad, ends, tells) = (bad, f bad ends, tells)

-- a search that meets no damage is answered an error by the disk alone
pub by_disk : {T B : Type 0} (Ends : Result T B → Type 0) (told : B → StoreFault) (e : StoreFault) → ((bad : B) → Ends (Err bad) → ⊥) → EndsTold told Ends (Err e) → e ≡ Fault
by_disk Ends told Fault none ends = refl
by_disk Ends told (Damaged d) none (bad, ends, tells) = absurd (none bad ends)

-- what follows from three facts of a call that did
pub three_ok : {T E : Type 0} (result : Result T E) {P Q R S : Type 0} → (P → Q → R → S) → OnOk result P → OnOk result Q → OnOk result R → OnOk result S
three_ok (Ok x) f p q r = f p q r
three_ok (Err e) f p q r = tt
