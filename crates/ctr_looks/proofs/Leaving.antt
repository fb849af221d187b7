-- What a look leaves of the disk: behind pages that were read, and behind room that was taken for a number.
use Rattle.std.proofs.Common.{◌≡◌, false, ℕ, Result, Ok, Err, ◌∙◌, ap}
use Rattle.std.specs.Prelude.{OnOk}
use Rattle.ctr_base.specs.Base.{WhereSound}
use Rattle.ctr_types.specs.Faults.{HasFault}
use Rattle.ctr_disk.specs.declared.disk.Disk.{Ghosts}
use Rattle.ctr_disk.specs.Image.{Image}
use Rattle.ctr_disk.specs.declared.fault.StoreFault.{StoreFault}
use Rattle.ctr_disk.specs.declared.fault.StoreFault.TheVariants.{Fault}
use Rattle.ctr_store.specs.Store.{View, LeavesPage}
use Rattle.ctr_asking.specs.walk_Damage.{ReadsPages}
use Rattle.ctr_session_world.specs.Ready.{LeavesDisk, Front, StillOrLogs}
use Rattle.ctr_session_world.proofs.Disks.{disk_failed, disk_read, disk_roomy, goes_read}
use Rattle.ctr_session_world.proofs.Faults.{fault_none, fault_then}

module _ {D : Type 0} (first : Image) (g : Ghosts D) where
  -- pages were read, and then something was answered without the disk
  pub read_then : {S T : Type 0} (a b : View D) (x : S) (r : Result T StoreFault) → LeavesPage first g a b (Ok x) → ((n : ℕ) → HasFault Fault n n r) → LeavesDisk first g a b r
  read_then {S} {T} a b x r leaves then = record {
    later = leaves.time.later;
    faults = fault_then Fault (g.faults_of a.disk) (g.faults_of b.disk) (g.faults_of b.disk) x r leaves.faults (then (g.faults_of b.disk));
    left = λ told sound. Front (leaves.any_moment told sound);
    goes = goes_told r;
  }
    where
      goes_told : (q : Result T StoreFault) → WhereSound first g (OnOk q (StillOrLogs a b))
      goes_told (Ok y) = goes_read {T = S} first g a b (Ok x) leaves
      goes_told (Err e) = λ told sound. tt

  pub read_done : {S T : Type 0} (a b : View D) (x : S) (y : T) → LeavesPage first g a b (Ok x) → LeavesDisk first g a b (Ok y)
  read_done a b x y leaves = read_then a b x (Ok y) leaves (λ n. fault_none Fault n y)

  -- pages weren't read
  pub read_failed : (S : Type 0) {T : Type 0} (a b : View D) (e : StoreFault) → ReadsPages {T = S} first g a b (Err e) → LeavesDisk {T = T} first g a b (Err e)
  read_failed S a b e leaves = disk_failed first g a b e (disk_read first g {T = S} a b (Err e) leaves)

  -- a number was drawn, behind room for it
  pub drawn_roomy : {T : Type 0} (a m b : View D) (r : Result T StoreFault) → m ≡ record a { meta = m.meta } → a.stopped ≡ false → (m.stopped ≡ false → LeavesDisk first g m b r) → LeavesDisk first g a b r
  drawn_roomy a m b r is going drawn = disk_roomy first g a m b r is (drawn (ap (λ (v : View D). v.stopped) is ∙ going))
