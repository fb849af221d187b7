-- What a turn of a Write leaves of the disk, under its own answer.
use Rattle.std.proofs.Common.{Ok, Err}
use Rattle.ctr_disk.specs.declared.disk.Disk.{Ghosts}
use Rattle.ctr_disk.specs.Image.{Image}
use Rattle.ctr_disk.specs.declared.fault.StoreFault.{StoreFault}
use Rattle.ctr_store.specs.Store.{View}
use Rattle.ctr_looks.specs.page_turns_Turns.{Turns}
use Rattle.ctr_looks.specs.ctr_session_world.Ready.{LeavesDisk}
use Rattle.ctr_looks.proofs.ctr_session_world.Disks.{disk_done, disk_failed, disk_turn}

module _ {D : Type 0} (first : Image) (g : Ghosts D) {S T : Type 0} (a b : View D) where
  pub turned_done : (x : S) (y : T) → Turns {T = S} first g a b (Ok x) → LeavesDisk {T = T} first g a b (Ok y)
  turned_done x y turns = disk_done first g a b x y (disk_turn first g a b (Ok x) turns)

  pub turned_failed : (e : StoreFault) → Turns {T = S} first g a b (Err e) → LeavesDisk {T = T} first g a b (Err e)
  turned_failed e turns = disk_failed first g a b e (disk_turn first g a b (Err e) turns)
