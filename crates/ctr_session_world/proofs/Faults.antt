-- A count of faults, whatever the answer is called.
use Rattle.std.proofs.Common.{◌≡◌, ℕ, ◌≤◌, Result, Ok, Err, refl, sym, ap, subst, arith}
use Rattle.ctr_disk.specs.declared.fault.StoreFault.{StoreFault}
use Rattle.ctr_types.specs.Faults.{HasFault}

-- a call that answers with this fault
abbrev fails_with : (T : Type 0) → StoreFault → Result T StoreFault
fails_with T e = Err e

same_error : {A B : Type 0} {e f : StoreFault} → fails_with A e ≡ fails_with A f → fails_with B e ≡ fails_with B f
same_error {A} {B} is = ap (fails_with B) (cc is)

at_once : (n : ℕ) → n ≤ n
at_once n = omega arith

module _ (e : StoreFault) (before now : ℕ) where
  pub fault_done : {S T : Type 0} (x : S) (y : T) → HasFault {T = S} e before now (Ok x) → HasFault {T = T} e before now (Ok y)
  fault_done x y faults = record { later = faults.later; failed = λ is. absurd (cc is); fine = λ isnt. faults.fine (λ is. cc is) }

  pub fault_failed : {S T : Type 0} (f : StoreFault) → HasFault {T = S} e before now (Err f) → HasFault {T = T} e before now (Err f)
  fault_failed {S} {T} f faults = record {
    later = faults.later;
    failed = λ is. faults.failed (same_error {A = T} {B = S} is);
    fine = λ isnt. faults.fine (λ is. isnt (same_error {A = S} {B = T} is));
  }

-- a call that didn't touch the disk
pub fault_none : {T : Type 0} (e : StoreFault) (before : ℕ) (y : T) → HasFault {T = T} e before before (Ok y)
fault_none e before y = record { later = at_once before; failed = λ is. absurd (cc is); fine = λ isnt. refl }

-- a call behind which the disk counts as many
pub fault_still : {T : Type 0} (e : StoreFault) (before now : ℕ) (y : T) → now ≡ before → HasFault {T = T} e before now (Ok y)
fault_still {T} e before now y same = subst (λ n. HasFault {T = T} e before n (Ok y)) (sym same) (fault_none e before y)

-- a call behind another one that was answered
pub fault_then : {S T : Type 0} (e : StoreFault) (before mid now : ℕ) (x : S) (r : Result T StoreFault) → HasFault {T = S} e before mid (Ok x) → HasFault {T = T} e mid now r → HasFault {T = T} e before now r
fault_then {S} {T} e before mid now x r first then = subst (λ n. HasFault {T = T} e n now r) (first.fine (λ is. cc is)) then
