-- What was read, for an answer of another type, and without damage.
use Rattle.std.proofs.Common.{◌≡◌, ℕ, ◌<◌, List, Result, Ok, Err, refl, sym, ◌∙◌, subst}
use Rattle.std.specs.Prelude.{⊤}
use Rattle.ctr_disk.specs.declared.disk.Disk.{Ghosts}
use Rattle.ctr_disk.specs.Image.{Image}
use Rattle.ctr_disk.specs.declared.fault.StoreFault.{StoreFault}
use Rattle.ctr_disk.specs.declared.fault.StoreFault.TheVariants.{Fault, Damaged}
use Rattle.ctr_page.specs.declared.rows.Place.{Place}
use Rattle.ctr_page.specs.declared.checks.Chain.{Chain}
use Rattle.ctr_page.specs.declared.walk.BadChain.{BadChain}
use Rattle.ctr_page.specs.declared.walk.BadChain.TheVariants.{OnPage, TooLong}
use Rattle.ctr_page.specs.Damage.{chain_entry}
use Rattle.ctr_pvs.specs.redo_States.{State}
use Rattle.ctr_pvs.specs.record_effects_States.{pages_in}
use Rattle.ctr_pvs.specs.record_effects_Standing.{IsDatabaseState}
use Rattle.ctr_pvs.specs.walk_Tables.{EndsFirst}
use Rattle.ctr_pvs.specs.store_Store.{View}
use Rattle.ctr_pvs.specs.walk_Damage.{EndsTold, ReadsPages}
use Rattle.ctr_pvs.proofs.walk_Damages.{reads_err}
use Rattle.ctr_pvs.specs.Reading.{row_check_at}
use Rattle.ctr_pvs.specs.Slots.{SlotSaidAt}

-- what was read for an answer that is a fault is read for it as another call answers it
pub reads_fault : {D : Type 0} (first : Image) (g : Ghosts D) (a b : View D) (S T : Type 0) (e : StoreFault) (result : Result S StoreFault)
    → result ≡ Err e → ReadsPages {T = S} first g a b result → ReadsPages {T = T} first g a b (Err e)
reads_fault first g a b S T e result is one = reads_err first g S T e a b (subst (λ r. ReadsPages first g a b r) is one)

abbrev passing : Result ⊤ BadChain
passing = Ok tt

fails : (bad : BadChain) → passing ≡ Err bad → ⊥
fails bad is = absurd cc

-- a slot that passes its check is read without damage
pub slot_undamaged : (damage : BadChain → StoreFault) (counted : ℕ) (pages : ℕ → List ℕ) (at : Place) (e : StoreFault) → row_check_at counted pages at ≡ Ok tt
    → EndsTold damage (SlotSaidAt counted pages at) (Err e) → e ≡ Fault
slot_undamaged damage counted pages at Fault passes ends = refl
slot_undamaged damage counted pages at (Damaged d) passes (bad, ends, tells) = absurd (fails bad (sym passes ∙ ends))

-- the entry of a chain of a database isn't damaged, where its first page is asked for
pub first_undamaged : (damage : BadChain → StoreFault) (chain : Chain) (s : State) (e : StoreFault) → IsDatabaseState s → chain_entry chain < 32
    → EndsTold damage (EndsFirst s.counted (pages_in s) chain) (Err e) → e ≡ Fault
first_undamaged damage chain s Fault database few ends = refl
first_undamaged damage chain s (Damaged d) database few (OnPage q bad, ends, is) = let no = sym (database.passed.entries (chain_entry chain) few) ∙ ends.1 in absurd cc
first_undamaged damage chain s (Damaged d) database few (TooLong last most, ends, is) = absurd ends
