-- What changes below a pool.
use Rattle.std.specs.Prelude.{◌≡◌, ◌≢◌, ℕ, Result, Ok, Err, ⊤}
use Rattle.ctr_disk.specs.declared.fault.StoreFault.{StoreFault}
use Rattle.ctr_disk.specs.declared.fault.StoreFault.TheVariants.{Fault, Damaged}
use Rattle.ctr_pool.specs.Pages.{PageHeld}

-- All is held as it was, and what might be saved of a page may be saved.
pub record HoldsStill {B : Type 0} (held : B → ℕ → PageHeld)
    (may_be_saved : B → ℕ → ℕ → PageHeld → Type 0) (a b : B) : Type 0 where
  pub same : (q : ℕ) → held b q ≡ held a q
  pub still : (q since : ℕ) (v : PageHeld) → may_be_saved a q since v → may_be_saved b q since v

-- One page is held as this now, and the others as they were.
pub record PutsPage {B : Type 0} (held : B → ℕ → PageHeld)
    (may_be_saved : B → ℕ → ℕ → PageHeld → Type 0) (p : ℕ) (v : PageHeld) (a b : B) : Type 0 where
  pub there : held b p ≡ v
  pub others : (q : ℕ) → q ≢ p → held b q ≡ held a q
  pub still : (q since : ℕ) (w : PageHeld) → q ≢ p → may_be_saved a q since w
      → may_be_saved b q since w

-- What a load found of a page: it was given, so that the page is well; or this is wrong with it.
-- Of a fault nothing is known.
abbrev pub IsFound : {T : Type 0} → (Result ⊤ StoreFault → Type 0) → Result T StoreFault → Type 0
IsFound P (Ok t) = P (Ok tt)
IsFound P (Err Fault) = Unit {0}
IsFound P (Err (Damaged d)) = P (Err (Damaged d))
