-- A page of a sound image is read without damage.
use Rattle.std.proofs.Common.{◌≡◌, ⊎_elim, ℕ, ◌≤◌, ◌<◌, ◌+◌, Bool, if◌then◌else◌, [], ◌∷◌, Result, Ok, Err, Option, Some, None, refl, sym, subst}
use Rattle.std.specs.Prelude.{IfErr}
use Rattle.std.proofs.lemmas.Bool.{cases_lt, lt-ltb}
use Rattle.std.proofs.lemmas.Bool.Decides.{eqb_tells}
use Rattle.ctr_types.specs.declared.file.Damage.{Damage}
use Rattle.ctr_types.specs.declared.file.File.{File}
use Rattle.ctr_disk.specs.Image.{Image}
use Rattle.ctr_redo.specs.home_Root.{Root}
use Rattle.ctr_disk.specs.declared.fault.StoreFault.{StoreFault}
use Rattle.ctr_disk.specs.declared.fault.StoreFault.TheVariants.{Fault, Damaged}
use Rattle.ctr_redo.specs.home_Block_TheVariants.{Page}
use Rattle.ctr_redo.specs.home_Blocks.{BlockValue, file_of, value_of, value_place, page_with, blank_page}
use Rattle.ctr_redo.specs.home_Checks.{check_of, judged}
use Rattle.ctr_redo.specs.home_Reading.{IsMisnumbered, IsFaultOr}
use Rattle.ctr_redo.specs.home_Writing.{IsAbove}
use Rattle.ctr_redo.specs.Images.{home_in, IsSound}

passes : (file : File) (at want got : ℕ) (e : StoreFault) → got ≡ want → judged file (check_of at want got ∷ []) ≡ Err e → ⊥
passes file at want got e same is = ⊎_elim (λ w. absurd (cc (is, w.0))) (λ w. w.1 (sym same)) (eqb_tells want got)

-- where P can't be of damage it is a fault
fault_alone : (S : Type 0) (r : Result ℕ StoreFault) (P : StoreFault → Type 0) → IfErr r (IsFaultOr P) → ((d : Damage) → S → P (Damaged d) → ⊥) → IfErr r (λ e. S → e ≡ Fault)
fault_alone S (Ok n) P is none = tt
fault_alone S (Err Fault) P is none = λ s. refl
fault_alone S (Err (Damaged d)) P is none = λ s. absurd (none d s is)

none_of : (S : Type 0) (r : Result ℕ StoreFault) → r ≡ Ok 0 → IfErr r (λ e. S → e ≡ Fault)
none_of S (Ok n) is = tt
none_of S (Err e) is = absurd (cc is)

pub read_faults : {S : Type 0} (root : Root) (p : ℕ) (image : Image) (r : Result ℕ StoreFault) → (S → IsSound root image) → IfErr r (IsFaultOr (IsMisnumbered (Page p) image)) → (root.pages ≤ p → r ≡ Ok 0)
    → IfErr r (λ e. S → e ≡ Fault)
read_faults {S} root p image r sound refused uncounted =
    ⊎_elim
    (λ inside.
    fault_alone S r (IsMisnumbered (Page p) image) refused
    (λ d s wrong. passes (file_of (Page p)) (value_place (Page p) image + 1) p wrong.0.number (Damaged d) ((sound s).numbered p wrong.0 inside wrong.1) wrong.2))
    (λ outside. none_of S r (uncounted outside))
    (cases_lt p root.pages)

-- a stamp above that of a page as it stands at home is above its value's
pub above_value : (counted p : ℕ) (image : Image) (lsn : ℕ) → p < counted → (home_in counted image p).lsn < lsn → IsAbove lsn (value_of (Page p) image)
above_value counted p image lsn inside low =
    above_of (value_of (Page p) image) (subst (λ (b : Bool). (if b then page_with (value_of (Page p) image) else blank_page).lsn < lsn) (lt-ltb p counted inside) low)
  where
    above_of : (v : Option BlockValue) → (page_with v).lsn < lsn → IsAbove lsn v
    above_of None below = tt
    above_of (Some v) below = below
