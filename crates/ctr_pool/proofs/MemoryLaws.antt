-- A backing in memory.
use Rattle.std.proofs.Common.{◌≡◌, ◌≢◌, ℕ, zero, suc, ◌<◌, ◌≤◌, List, [], ◌∷◌, length, get_or, set, slice_get, Some, None, Err, refl, sym, ap, ◌∙◌, arith}
use Rattle.ctr_disk.specs.types_Faults.{HasFault, CountsFault}
use Rattle.ctr_disk.specs.declared.fault.StoreFault.TheVariants.{Fault}
use Rattle.ctr_pool.specs.declared.memory.Sheet.{Sheet}
use Rattle.ctr_pool.specs.Memory.{held_on}

pub fault_counted : {T : Type 0} (before now : ℕ) → before ≤ now → CountsFault before now → HasFault {T = T} Fault before now (Err Fault)
fault_counted before now later counts = record { later = later; failed = λ e. counts; fine = λ ne. absurd (ne refl) }

got : (l : List Sheet) (at : ℕ) (x : Sheet) → at < length l → x ≡ get_or l at x → slice_get l at ≡ Some x
got [] at x lt is = absurd (omega (arith, lt))
got (s ∷ l) zero x lt is = ap Some (sym is)
got (s ∷ l) (suc at) x lt is = got l at x (omega (arith, lt)) is

pub none : (l : List Sheet) (at : ℕ) → length l ≤ at → slice_get l at ≡ None
none [] at le = refl
none (s ∷ l) zero le = absurd (omega (arith, le))
none (s ∷ l) (suc at) le = none l at (omega (arith, le))

pub sheet_read : (l : List Sheet) (at : ℕ) (x y : Sheet) (body : List ℕ) → at < length l → x ≡ get_or l at x → y ≡ get_or l at y → body ≡ x.body → held_on (slice_get l at) ≡ record { lsn = y.lsn; body = body }
sheet_read l at x y body lt is_x is_y is_body =
    let gx = got l at x lt is_x in
    let gy = got l at y lt is_y in
    let both : Some x ≡ Some y = sym gx ∙ gy in
    let one : x ≡ y = cc in
    ap held_on gx ∙ ap (λ (s : Sheet). record { lsn = s.lsn; body = x.body }) one ∙ ap (λ (b : List ℕ). record { lsn = y.lsn; body = b }) (sym is_body)

pub set_there : (l : List Sheet) (at : ℕ) (x : Sheet) → at < length l → slice_get (set l at x) at ≡ Some x
set_there [] at x lt = absurd (omega (arith, lt))
set_there (s ∷ l) zero x lt = refl
set_there (s ∷ l) (suc at) x lt = set_there l at x (omega (arith, lt))

pub set_other : (l : List Sheet) (at q : ℕ) (x : Sheet) → q ≢ at → slice_get (set l at x) q ≡ slice_get l q
set_other [] at q x ne = refl
set_other (s ∷ l) zero zero x ne = absurd (ne refl)
set_other (s ∷ l) zero (suc q) x ne = refl
set_other (s ∷ l) (suc at) zero x ne = refl
set_other (s ∷ l) (suc at) (suc q) x ne = set_other l at q x (λ e. ne (ap suc e))
