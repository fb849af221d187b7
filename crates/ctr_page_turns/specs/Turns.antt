-- What one turn does to a store, whatever the disk tells.
use Rattle.std.specs.Prelude.{◌≡◌, ◌<◌, ◌≤◌, [], ◌∷◌, Result, Ok, Err, OnOk, OnErr, ⊤}
use Rattle.ctr_disk.specs.declared.disk.Disk.{Ghosts}
use Rattle.ctr_disk.specs.Image.{Image}
use Rattle.ctr_disk.specs.declared.fault.StoreFault.{StoreFault}
use Rattle.ctr_disk.specs.declared.fault.StoreFault.TheVariants.{Fault}
use Rattle.ctr_types.specs.Faults.{HasFault}
use Rattle.ctr_rec.specs.declared.record.Record.{Record}
use Rattle.ctr_walk.specs.base_growing_TheConstants.{MOST_PAGES}
use Rattle.ctr_walk.specs.base_Base.{WhereSound}
use Rattle.ctr_walk.specs.store_Store.{View, LeavesFront, Logs, LeavesPage, LeavesGrowing, GrowsByExtent, CountsUp}
use Rattle.ctr_walk.specs.OneRecord.{LogsOne}
use Rattle.ctr_walk.specs.Damage.{ReadsPages}

-- One record was logged; or there is a cause why it wasn't.
abbrev pub LogsSome : {D T : Type 0} → Image → Ghosts D → View D → View D → Result T StoreFault
    → Type 0
LogsSome first g a b result = (r : Record) × LogsOne first g r a b result

-- More pages are counted, where there may be more; or the disk failed.
pub record CountsExtent {D T : Type 0} (first : Image) (g : Ghosts D) (a b : View D)
    (result : Result T StoreFault) : Type 0 where
  pub few : a.now.counted < MOST_PAGES
  pub any_moment : WhereSound first g (LeavesGrowing g a b)
  pub grows : WhereSound first g (OnOk result (GrowsByExtent g a b))
  pub counts : CountsUp g a b result
  pub refused : OnErr result (result ≡ Err Fault)
  pub faults : HasFault Fault (g.faults_of a.disk) (g.faults_of b.disk) result

-- Pages were read, behind which a crash leaves what is hardened with some of what waits; and then
-- more are counted.
pub record CountsBehind {D T : Type 0} (first : Image) (g : Ghosts D) (a b : View D)
    (result : Result T StoreFault) : Type 0 where
  pub between : View D
  pub read : LeavesPage {T = ⊤} first g a between (Ok tt)
  pub rests : WhereSound first g (LeavesFront g between between)
  pub more : CountsExtent first g between b result

-- A turn that isn't spent on room reads pages, and that is all; or it logs one record; or more
-- pages are counted.
pub data Turns {D T : Type 0} (first : Image) (g : Ghosts D) (a b : View D)
    (result : Result T StoreFault) : Type 0 where
  Reads : ReadsPages first g a b result → Turns first g a b result
  LogsARecord : LogsSome first g a b result → Turns first g a b result
  Grows : CountsBehind first g a b result → Turns first g a b result

-- One record was logged, by a call before which a crash leaves what is hardened with some of what
-- waits, and so it does behind it.
pub record LogsAtRest {D : Type 0} (g : Ghosts D) (a b : View D) : Type 0 where
  pub rec : Record
  pub logs : Logs (rec ∷ []) a b
  pub front : LeavesFront g a b
  pub rests : LeavesFront g b b
  pub later : g.moment_of a.disk ≤ g.moment_of b.disk

-- Nothing was logged, by a call before which a crash leaves what is hardened with some of what
-- waits, and so it does behind it.
pub record RestsBehind {D : Type 0} (g : Ghosts D) (a b : View D) : Type 0 where
  pub logs : Logs [] a b
  pub front : LeavesFront g a b
  pub rests : LeavesFront g b b
  pub later : g.moment_of a.disk ≤ g.moment_of b.disk
