-- What a turn leaves of the disk, by each kind of call, behind pages that were read, and under another answer.
use Rattle.std.proofs.Common.{◌≡◌, ◌≤◌, ◌+◌, ⊎_elim, inl, inr, ℕ, [], Result, Ok, Err, refl, sym, ◌∙◌, ap, subst, arith}
use Rattle.std.specs.Prelude.{⊤, IsTrue, OnOk}
use Rattle.ctr_types.specs.Faults.{HasFault}
use Rattle.ctr_disk.specs.declared.disk.Disk.{Ghosts}
use Rattle.ctr_disk.specs.Image.{Image}
use Rattle.ctr_disk.specs.declared.fault.StoreFault.{StoreFault}
use Rattle.ctr_disk.specs.declared.fault.StoreFault.TheVariants.{Fault, Damaged}
use Rattle.ctr_base.specs.Base.{IsSoundImage, WhereSound}
use Rattle.ctr_meta.specs.Kept.{TablesKept}
use Rattle.ctr_rec.specs.declared.record.Record.{Record}
use Rattle.ctr_redo.specs.States.{State}
use Rattle.ctr_told.specs.store_Store.{View, LeavesFront, LeavesPage}
use Rattle.ctr_told.specs.walk_Damage.{ReadsPages}
use Rattle.ctr_told.specs.walk_OneRecord.{LogsOne}
use Rattle.ctr_told.proofs.walk_Joins.{fronts_join, logs_join}
use Rattle.ctr_told.specs.page_turns_Turns.{Turns, CountsBehind, Reads, LogsARecord, Grows as GrowsBehind}
use Rattle.ctr_session_world.specs.Ready.{LeavesDisk, LeavesFrontOrGrows, Front, Grows, StillOrLogs}
use Rattle.ctr_session_world.proofs.Faults.{fault_done, fault_failed, fault_none, fault_then}
use Rattle.ctr_session_world.proofs.Going.{rests_read}
use Rattle.ctr_session_world.proofs.Standing.{further}

at_once : (n : ℕ) → n ≤ n
at_once n = omega arith

-- ---- what stands in the store

-- a state that is another one is that, with its own count of pages
pub as_counted : (s t : State) → t ≡ s → t ≡ record s { counted = t.counted }
as_counted s t is = subst (λ (q : State). q ≡ record s { counted = q.counted }) (sym is) refl

-- a call that logs nothing leaves it
pub goes_read : {D T : Type 0} (first : Image) (g : Ghosts D) (a b : View D) (r : Result T StoreFault) → LeavesPage first g a b r → WhereSound first g (OnOk r (StillOrLogs a b))
goes_read first g a b (Ok x) leaves told sound = inl (record { next = leaves.keeps.next; now = as_counted a.now b.now (leaves.logs told sound).now })
goes_read first g a b (Err e) leaves told sound = tt

-- behind a call that leaves it
goes_behind : {D : Type 0} (a m b : View D) → m.next ≡ a.next → m.now ≡ a.now → StillOrLogs m b → StillOrLogs a b
goes_behind a m b next now goes = ⊎_elim
    (λ still. inl (record { next = still.next ∙ next; now = still.now ∙ ap (λ (q : State). record q { counted = b.now.counted }) now }))
    (λ logs. inr (logs ∙ ap (λ n. n + 1) next)) goes

-- so by what it was answered
goes_then : {D T : Type 0} (a m b : View D) (r : Result T StoreFault) → m.next ≡ a.next → m.now ≡ a.now → OnOk r (StillOrLogs m b) → OnOk r (StillOrLogs a b)
goes_then a m b (Ok x) next now goes = goes_behind a m b next now goes
goes_then a m b (Err e) next now goes = tt

goes_logged : {D T : Type 0} (first : Image) (g : Ghosts D) (rec : Record) (a b : View D) (r : Result T StoreFault) → LogsOne first g rec a b r → OnOk r (StillOrLogs a b)
goes_logged first g rec a b (Ok x) one = inr one.takes.next
goes_logged first g rec a b (Err e) one = tt

goes_grown : {D T : Type 0} (first : Image) (g : Ghosts D) (a b : View D) (r : Result T StoreFault) → CountsBehind first g a b r → WhereSound first g (OnOk r (StillOrLogs a b))
goes_grown first g a b (Ok x) grows told sound =
    let m = grows.between in
    inl (record {
      next = ap (λ (v : View _). v.next) grows.more.counts.same ∙ grows.read.keeps.next;
      now = (grows.more.grows told sound).now ∙ ap (λ n. record m.now { counted = n }) (sym (ap (λ (q : State). q.counted) (grows.more.grows told sound).now))
          ∙ ap (λ (q : State). record q { counted = b.now.counted }) (grows.read.logs told sound).now;
    })
goes_grown first g a b (Err e) grows told sound = tt

module _ {D : Type 0} (first : Image) (g : Ghosts D) where
  -- ---- a call

  -- damage that was found on a page that was read is no fault
  found_fault : {T : Type 0} (a b : View D) (d : _) → LeavesPage {T = ⊤} first g a b (Ok tt) → HasFault {T = T} Fault (g.faults_of a.disk) (g.faults_of b.disk) (Err (Damaged d))
  found_fault a b d found = record { later = found.faults.later; failed = λ is. absurd (cc is); fine = λ isnt. found.faults.fine (λ is. cc is) }

  pub disk_read : {T : Type 0} (a b : View D) (r : Result T StoreFault) → ReadsPages first g a b r → LeavesDisk first g a b r
  disk_read a b (Ok x) leaves = record { later = leaves.time.later; faults = leaves.faults; left = λ told sound. Front (leaves.any_moment told sound); goes = goes_read first g a b (Ok x) leaves }
  disk_read a b (Err Fault) leaves = record { later = leaves.time.later; faults = leaves.faults; left = λ told sound. Front (leaves.any_moment told sound); goes = λ told sound. tt }
  disk_read {T} a b (Err (Damaged d)) leaves = ⊎_elim (λ lost. record { later = lost.time.later; faults = lost.faults; left = λ told sound. Front (lost.any_moment told sound); goes = λ told sound. tt })
      (λ found. record { later = found.time.later; faults = found_fault {T = T} a b d found; left = λ told sound. Front (found.any_moment told sound); goes = λ told sound. tt }) leaves

  pub disk_page : {T : Type 0} (a b : View D) (r : Result T StoreFault) → LeavesPage first g a b r → LeavesDisk first g a b r
  disk_page a b r leaves = record { later = leaves.time.later; faults = leaves.faults; left = λ told sound. Front (leaves.any_moment told sound); goes = goes_read first g a b r leaves }

  pub disk_one : {T : Type 0} (rec : Record) (a b : View D) (r : Result T StoreFault) → LogsOne first g rec a b r → LeavesDisk first g a b r
  disk_one rec a b r one = record { later = one.time.later; faults = one.faults; left = λ told sound. Front (one.any_moment told sound); goes = λ told sound. goes_logged first g rec a b r one }

  pub disk_turn : {T : Type 0} (a b : View D) (r : Result T StoreFault) → Turns first g a b r → LeavesDisk first g a b r
  disk_turn a b r (Reads leaves) = disk_read a b r leaves
  disk_turn a b r (LogsARecord logs) = disk_one logs.0 a b r logs.1
  disk_turn a b r (GrowsBehind grows) =
      let m = grows.between in
      record {
        later = further (g.moment_of a.disk) (g.moment_of m.disk) (g.moment_of b.disk) grows.read.time.later grows.more.counts.time.later;
        faults = fault_then Fault (g.faults_of a.disk) (g.faults_of m.disk) (g.faults_of b.disk) tt r grows.read.faults grows.more.faults;
        left = λ told sound. Grows m (rests_read first g a m tt told sound grows.read (grows.rests told sound)) grows.more.few (grows.more.any_moment told sound);
        goes = goes_grown first g a b r grows;
      }

  -- ---- none

  -- no call of the store, or one that takes room beside the pages
  pub disk_still : {T : Type 0} (a b : View D) (x : T) → b ≡ record a { meta = b.meta } → WhereSound first g (LeavesFront g a a) → LeavesDisk first g a b (Ok x)
  disk_still {T} a b x is rests = subst (λ (v : View D). LeavesDisk {T = T} first g a v (Ok x)) (sym is) (roomy b.meta)
    where
      roomy : (k : TablesKept) → LeavesDisk {T = T} first g a (record a { meta = k }) (Ok x)
      roomy k = record {
        later = at_once (g.moment_of a.disk);
        faults = fault_none Fault (g.faults_of a.disk) x;
        left = λ told sound. let front = rests told sound in Front (record { front = front.front; long = front.long });
        goes = λ told sound. inl (record { next = refl; now = refl });
      }

  -- ---- behind another call

  -- behind pages that were read
  pub disk_behind : {S T : Type 0} (a m b : View D) (x : S) (r : Result T StoreFault) → LeavesPage first g a m (Ok x) → LeavesDisk first g m b r → LeavesDisk first g a b r
  disk_behind a m b x r leaves then = record {
    later = further (g.moment_of a.disk) (g.moment_of m.disk) (g.moment_of b.disk) leaves.time.later then.later;
    faults = fault_then Fault (g.faults_of a.disk) (g.faults_of m.disk) (g.faults_of b.disk) x r leaves.faults then.faults;
    left = λ told sound. on told sound (then.left told sound);
    goes = λ told sound. goes_then a m b r leaves.keeps.next (leaves.logs told sound).now (then.goes told sound);
  }
    where
      on : IsTrue g.tells → IsSoundImage first → LeavesFrontOrGrows g m b → LeavesFrontOrGrows g a b
      on told sound (Front front) = Front (fronts_join g a m b (leaves.logs told sound) leaves.time (leaves.any_moment told sound) front)
      on told sound (Grows k rests few grows) = Grows k (record {
        logs = logs_join g a m k [] (leaves.logs told sound) rests.logs;
        front = fronts_join g a m k (leaves.logs told sound) leaves.time (leaves.any_moment told sound) rests.front;
        rests = rests.rests;
        later = further (g.moment_of a.disk) (g.moment_of m.disk) (g.moment_of k.disk) leaves.time.later rests.later;
      }) few grows

  -- behind one that took room
  pub disk_roomy : {T : Type 0} (a m b : View D) (r : Result T StoreFault) → m ≡ record a { meta = m.meta } → LeavesDisk first g m b r → LeavesDisk first g a b r
  disk_roomy {T} a m b r is then = roomy m.meta (subst (λ (v : View D). LeavesDisk {T = T} first g v b r) is then)
    where
      on : (k : TablesKept) → LeavesFrontOrGrows g (record a { meta = k }) b → LeavesFrontOrGrows g a b
      on k (Front front) = Front (record { front = front.front; long = front.long })
      on k (Grows m rests few grows) = Grows m (record {
        logs = record { j = rests.logs.j; waiting = rests.logs.waiting; hardened = rests.logs.hardened; now = rests.logs.now };
        front = record { front = rests.front.front; long = rests.front.long };
        rests = rests.rests;
        later = rests.later;
      }) few grows

      roomy : (k : TablesKept) → LeavesDisk {T = T} first g (record a { meta = k }) b r → LeavesDisk {T = T} first g a b r
      roomy k it = record { later = it.later; faults = it.faults; left = λ told sound. on k (it.left told sound); goes = λ told sound. goes_then a (record a { meta = k }) b r refl refl (it.goes told sound) }

  -- ---- under another answer

  pub disk_done : {S T : Type 0} (a b : View D) (x : S) (y : T) → LeavesDisk {T = S} first g a b (Ok x) → LeavesDisk {T = T} first g a b (Ok y)
  disk_done a b x y it = record { later = it.later; faults = fault_done Fault (g.faults_of a.disk) (g.faults_of b.disk) x y it.faults; left = it.left; goes = it.goes }

  pub disk_failed : {S T : Type 0} (a b : View D) (e : StoreFault) → LeavesDisk {T = S} first g a b (Err e) → LeavesDisk {T = T} first g a b (Err e)
  disk_failed {S} {T} a b e it = record { later = it.later; faults = fault_failed Fault (g.faults_of a.disk) (g.faults_of b.disk) {S = S} {T = T} e it.faults; left = it.left; goes = λ told sound. tt }
