-- Pages that were read for an answer of another type.
use Rattle.std.proofs.Common.{◌≡◌, Result, Err, subst}
use Rattle.ctr_disk.specs.declared.disk.Disk.{Ghosts}
use Rattle.ctr_disk.specs.Image.{Image}
use Rattle.ctr_disk.specs.declared.fault.StoreFault.{StoreFault}
use Rattle.ctr_extend.specs.store_Store.{View}
use Rattle.ctr_extend.specs.walk_Damage.{ReadsPages}
use Rattle.ctr_extend.proofs.walk_Damages.{reads_err}

-- what was read for an answer that is a fault is read for it as another call answers it
pub reads_fault : {D : Type 0} (first : Image) (g : Ghosts D) (a b : View D) (S T : Type 0) (e : StoreFault) (result : Result S StoreFault)
    → result ≡ Err e → ReadsPages {T = S} first g a b result → ReadsPages {T = T} first g a b (Err e)
reads_fault first g a b S T e result is one = reads_err first g S T e a b (subst (λ r. ReadsPages first g a b r) is one)
