-- A turn that answered, and the faults that the disk counts by it.
use Rattle.std.proofs.Common.{◌≡◌, false, Ok, Result, subst}
use Rattle.ctr_types.specs.Faults.{HasFault}
use Rattle.ctr_disk.specs.declared.disk.Disk.{Ghosts}
use Rattle.ctr_disk.specs.Image.{Image}
use Rattle.ctr_disk.specs.declared.fault.StoreFault.{StoreFault}
use Rattle.ctr_disk.specs.declared.fault.StoreFault.TheVariants.{Fault}
use Rattle.ctr_walk.specs.store_Store.{View}
use Rattle.ctr_walk.specs.Damage.{ReadsPages}
use Rattle.ctr_page_turns.specs.Turns.{Turns, Reads, LogsARecord, Grows}

module _ {D T : Type 0} (first : Image) (g : Ghosts D) (a b : View D) where
  pub told_going : (x : T) → Turns {T = T} first g a b (Ok x) → b.stopped ≡ false
  told_going x (Reads page) = page.going
  told_going x (LogsARecord one) = one.1.going
  told_going x (Grows some) = some.more.counts.going

  pub told_faults : (result : Result T StoreFault) → (ReadsPages {T = T} first g a b result → HasFault {T = T} Fault (g.faults_of a.disk) (g.faults_of b.disk) result) → Turns {T = T} first g a b result
      → HasFault {T = T} Fault (g.faults_of a.disk) (g.faults_of b.disk) result
  told_faults result reads (Reads pages) = reads pages
  told_faults result reads (LogsARecord one) = one.1.faults
  told_faults result reads (Grows some) = subst (λ n. HasFault {T = T} Fault n (g.faults_of b.disk) result) (some.read.faults.fine (λ is. absurd cc)) some.more.faults
