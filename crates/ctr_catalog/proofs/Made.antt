-- What a table's making answers.
use Rattle.std.proofs.Common.{◌≡◌, Ok, Err, ap}
use Rattle.ctr_disk.specs.declared.disk.Disk.{Ghosts}
use Rattle.ctr_disk.specs.Image.{Image}
use Rattle.ctr_disk.specs.declared.fault.StoreFault.{StoreFault}
use Rattle.ctr_rec.specs.declared.record.Record.{Record}
use Rattle.ctr_alloc.specs.store_Store.{View}
use Rattle.ctr_alloc.specs.walk_OneRecord.{LogsOne}
use Rattle.ctr_alloc.proofs.walk_Joins.{fails_with}

module _ {D : Type 0} (first : Image) (g : Ghosts D) (r : Record) (a b : View D) where
  -- one record, whatever is answered of it
  pub one_ok : {S T : Type 0} (x : S) (y : T) → LogsOne {T = S} first g r a b (Ok x) → LogsOne {T = T} first g r a b (Ok y)
  one_ok x y one = record {
    any_moment = one.any_moment;
    time = one.time;
    logs = one.logs;
    takes = one.takes;
    fits = one.fits;
    going = one.going;
    refused = λ told sound. tt;
    faults = record { later = one.faults.later; failed = λ is. absurd cc; fine = λ isnt. one.faults.fine (λ is. cc is) };
  }

  -- the same of a fault
  pub one_err : {S T : Type 0} (e : StoreFault) → LogsOne {T = S} first g r a b (Err e) → LogsOne {T = T} first g r a b (Err e)
  one_err {S} {T} e one = record {
    any_moment = one.any_moment;
    time = one.time;
    logs = λ told sound. tt;
    takes = tt;
    fits = tt;
    going = tt;
    refused = one.refused;
    faults = record { later = one.faults.later; failed = λ is. one.faults.failed (same is); fine = λ isnt. one.faults.fine (λ is. isnt (same is)) };
  }
    where
      same : {A B : Type 0} {f : StoreFault} → fails_with A e ≡ fails_with A f → fails_with B e ≡ fails_with B f
      same {A} {B} is = ap (fails_with B) (cc is)
