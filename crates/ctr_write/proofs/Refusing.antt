-- Damage that isn't there, and what is to be laid where it has its place: so an error is a fault of the disk.
use Rattle.std.proofs.Common.{◌≡◌, ℕ, ◌+◌, ◌<◌, ◌≤◌, Bool, List, Result, Ok, Err, refl, sym, ap, subst}
use Rattle.std.specs.Prelude.{IfErr, ⊤}
use Rattle.ctr_bytes.specs.Following.{◌>>=◌}
use Rattle.ctr_disk.specs.declared.fault.StoreFault.{StoreFault}
use Rattle.ctr_disk.specs.declared.fault.StoreFault.TheVariants.{Fault, Damaged}
use Rattle.ctr_page.specs.declared.rows.Place.{Place}
use Rattle.ctr_page.specs.declared.table.TheConstants.{PAGE_SIZE}
use Rattle.ctr_page.specs.Places.{slot_size, kept_size, start_of, room_for}
use Rattle.ctr_page.proofs.Searches.{lies_on_page}
use Rattle.ctr_page.specs.declared.walk.BadChain.{BadChain}
use Rattle.ctr_area.specs.Reading.{area_of}
use Rattle.ctr_extend.specs.walk_Damage.{EndsTold}
use Rattle.ctr_extend.specs.pvs_Slots.{SlotLiesAt, SlotSaidAt}
use Rattle.ctr_extend.specs.chain_Seeking.{entries_on, sought_in, sought_at, xids_found}
use Rattle.ctr_extend.specs.undamaged_Undamaged.{MeetsNoDamage}

-- a search that meets no damage is answered an error by the disk alone
pub by_disk : {T B : Type 0} (Ends : Result T B → Type 0) (told : B → StoreFault) (result : Result T StoreFault) → MeetsNoDamage Ends → EndsTold told Ends result → IfErr result (λ e. e ≡ Fault)
by_disk Ends told (Ok x) none ends = tt
by_disk Ends told (Err Fault) none ends = refl
by_disk Ends told (Err (Damaged d)) none ends = absurd (none.told told d ends)

-- the same of the fault that is told
pub fault_by_disk : {S : Type 0} (e : StoreFault) (result : Result S StoreFault) → result ≡ Err e → IfErr result (λ f. f ≡ Fault) → e ≡ Fault
fault_by_disk e result is by = subst (λ r. IfErr r (λ f. f ≡ Fault)) is by

-- where a search through the versions of the row at a place meets no damage, its slot is read without
pub slot_undamaged : (sought : ℕ → Bool) (counted : ℕ) (pages : ℕ → List ℕ) (at : Place) → MeetsNoDamage (λ r. r ≡ xids_found (sought_at sought counted pages at))
    → MeetsNoDamage (SlotSaidAt counted pages at)
slot_undamaged sought counted pages at none = record {
  ends = well;
  told = λ told d ends. well ends.0 ends.1;
}
  where
    well : (bad : BadChain) → SlotSaidAt counted pages at (Err bad) → ⊥
    well bad fails =
        none.ends bad (sym (ap xids_found (ap (λ (r : Result ⊤ BadChain). r >>= λ _. sought_in sought (entries_on counted pages at.page) at.page ((area_of pages).slot at)) fails)))

-- what is as wide as the rows of a table has its place on a page of the table
pub slot_has_place : (at : Place) (w rows : ℕ) → w ≡ rows → rows ≤ 2048 → at.slot < room_for (slot_size rows) → SlotLiesAt at w
slot_has_place at w rows is narrow low = subst (SlotLiesAt at) (sym is) (narrow, lies_on_page (slot_size rows) at.slot low)

pub entry_has_place : (at : Place) (w rows : ℕ) → w ≡ rows → rows ≤ 2048 → at.slot < room_for (kept_size rows) → (w ≤ 2048) × (start_of (kept_size w) at.slot + kept_size w ≤ PAGE_SIZE)
entry_has_place at w rows is narrow low = subst (λ n. (n ≤ 2048) × (start_of (kept_size n) at.slot + kept_size n ≤ PAGE_SIZE)) (sym is) (narrow, lies_on_page (kept_size rows) at.slot low)
