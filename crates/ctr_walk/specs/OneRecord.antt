-- A call that reads pages of a store and then logs one record.
use Rattle.std.specs.Prelude.{◌≡◌, ◌⊎◌, ◌-◌, ◌^◌, ◌<◌, ◌≤◌, ℕ, false, true, IsTrue, [], ◌∷◌, Result, Ok, Err, IfOk, IfErr, OnOk, OnErr}
use Rattle.ctr_types.specs.Faults.{HasFault}
use Rattle.ctr_disk.specs.declared.disk.Disk.{Ghosts}
use Rattle.ctr_disk.specs.Image.{Image}
use Rattle.ctr_disk.specs.declared.fault.StoreFault.{StoreFault}
use Rattle.ctr_disk.specs.declared.fault.StoreFault.TheVariants.{Fault}
use Rattle.ctr_record_effects.specs.rec_Record.{Record}
use Rattle.ctr_store.specs.rec_BadRecord.{BadRecord}
use Rattle.ctr_store.specs.base_Base.{IsSoundImage}
use Rattle.ctr_store.specs.RecordChecks.{record_damage}
use Rattle.ctr_store.specs.declared.store.TheConstants.{TURN_BYTES}
use Rattle.ctr_store.specs.Store.{View, LeavesFront, MovesOn, Logs, unmet_need, RefusesUnfit, TakesRecord}

-- There is room for one record more, and for the transactions and items that it adds to the tables.
pub record HasRoomForOne {D : Type 0} (opens items : ℕ) (v : View D) : Type 0 where
  pub going : v.stopped ≡ false
  pub opens_fit : opens ≤ v.meta.opens_room
  pub items_fit : items ≤ v.meta.items_room
  pub room : TURN_BYTES ≤ v.room
  pub number : v.next < 2 ^ 63 - 1

-- the record doesn't fit the tables: that is told by the row that it fails, at the place in the log
-- where it would stand, and nothing is logged
pub record IsUnfit {D : Type 0} (r : Record) (a b : View D) (e : StoreFault) : Type 0 where
  pub bad : BadRecord
  pub unmet : unmet_need r a ≡ Err bad
  pub told : e ≡ record_damage b.file b.place bad
  pub going : b.stopped ≡ false
  pub none : Logs [] a b

-- Why the record wasn't logged: it doesn't fit, or the disk failed, after which the store is
-- stopped.
abbrev pub WhyNotLogged : {D : Type 0} → Record → View D → View D → StoreFault → Type 0
WhyNotLogged r a b e = IsUnfit r a b e ⊎ ((e ≡ Fault) × (b.stopped ≡ true))

-- After Ok the record waits behind the others, and it fits; after an error it isn't logged. At each
-- moment a crash leaves what was hardened with a prefix of what wasn't.
pub record LogsOne {D T : Type 0} (first : Image) (g : Ghosts D) (r : Record) (a b : View D)
    (result : Result T StoreFault) : Type 0 where
  pub any_moment : IsTrue g.tells → IsSoundImage first → LeavesFront g a b
  pub logs : IsTrue g.tells → IsSoundImage first → OnOk result (Logs (r ∷ []) a b)
  pub takes : OnOk result (TakesRecord r a.next a b)
  pub time : MovesOn g a b
  pub fits : OnOk result (unmet_need r a ≡ Ok tt)
  pub going : OnOk result (b.stopped ≡ false)
  pub refused : IsTrue g.tells → IsSoundImage first → IfErr result (WhyNotLogged r a b)
  pub faults : HasFault Fault (g.faults_of a.disk) (g.faults_of b.disk) result

-- what a store answers to a record that it is given
pub record AnswersLog {D : Type 0} (first : Image) (g : Ghosts D) (r : Record) (a b : View D)
    (result : Result ℕ StoreFault) : Type 0 where
  pub any_moment : IsTrue g.tells → IsSoundImage first → LeavesFront g a b
  pub logs : IsTrue g.tells → IsSoundImage first → OnOk result (Logs (r ∷ []) a b)
  pub takes : IfOk result (λ lsn. TakesRecord r lsn a b)
  pub time : MovesOn g a b
  pub unfit : RefusesUnfit r a b result
  pub going : OnOk result (b.stopped ≡ false)
  pub stopped : unmet_need r a ≡ Ok tt → OnErr result (b.stopped ≡ true)
  pub refused : IsTrue g.tells → IsSoundImage first → unmet_need r a ≡ Ok tt
      → OnErr result (result ≡ Err Fault)
  pub faults : HasFault Fault (g.faults_of a.disk) (g.faults_of b.disk) result
