-- What is read of a slot, and what its record is to a turn.
use Rattle.std.proofs.Common.{◌≡◌, ℕ, inl, inr, Bool, true, false, List, Result, Ok, Err, refl, sym, ap}
use Rattle.std.specs.Prelude.{⊤, ◌&&◌, nat_lt}
use Rattle.ctr_bytes.specs.Following.{◌>>=◌}
use Rattle.ctr_disk.specs.declared.disk.Disk.{Ghosts}
use Rattle.ctr_disk.specs.Image.{Image}
use Rattle.ctr_disk.specs.declared.fault.StoreFault.{StoreFault}
use Rattle.ctr_page.specs.declared.walk.BadChain.{BadChain}
use Rattle.ctr_page.specs.declared.rows.Place.{Place}
use Rattle.ctr_meta.specs.Tables.{Tables}
use Rattle.ctr_area.specs.Images.{is_committed_in}
use Rattle.ctr_area.specs.Reading.{area_of}
use Rattle.ctr_area.specs.Chains.{slot_places}
use Rattle.ctr_area.specs.Sound.{IsAmong}
use Rattle.ctr_pvs.specs.redo_States.{State}
use Rattle.ctr_record_effects.specs.States.{area_in}
use Rattle.ctr_record_laws.specs.Owed.{PassCommitted, OwedByTrim}
use Rattle.ctr_pvs.specs.store_Store.{View}
use Rattle.ctr_pvs.specs.Slots.{SlotSaidAt}
use Rattle.ctr_dead.specs.chain_Seeking.{entries_on, sought_in, sought_at, xids_found}
use Rattle.ctr_dead.specs.undamaged_Undamaged.{MeetsNoDamage}
use Rattle.ctr_dead.specs.page_turns_Turns.{Turns, Reads, LogsARecord}
use Rattle.ctr_dead.specs.trim_TrimWay.{TrimWay}
use Rattle.ctr_dead.specs.trim_Trimming.{trimming_by, trim_record, TrimsSlot}
use Rattle.ctr_clean.specs.Choosing.{passes_below}
use Rattle.ctr_clean.specs.Steps.{Locks, MayTrimAt}

-- where a search through the versions of the row at a place meets no damage, its slot is read without
pub slot_undamaged : (sought : ℕ → Bool) (counted : ℕ) (pages : ℕ → List ℕ) (at : Place) → MeetsNoDamage (λ r. r ≡ xids_found (sought_at sought counted pages at)) → (bad : BadChain)
    → SlotSaidAt counted pages at (Err bad) → ⊥
slot_undamaged sought counted pages at none bad fails =
    none.ends bad (sym (ap xids_found (ap (λ (r : Result ⊤ BadChain). r >>= λ _. sought_in sought (entries_on counted pages at.page) at.page ((area_of pages).slot at)) fails)))

-- a Trim of a slot is a turn
pub trims_turn : {D : Type 0} (first : Image) (g : Ghosts D) (way : TrimWay) (at : Place) (a b : View D) (result : Result ⊤ StoreFault) → TrimsSlot first g way at a b result → Turns {T = ⊤} first g a b result
trims_turn first g way at a b (Ok t) (slot, one, there) = LogsARecord (trim_record way at slot, one)
trims_turn first g way at a b (Err e) (inl read) = Reads read
trims_turn first g way at a b (Err e) (inr (slot, one, there)) = LogsARecord (trim_record way at slot, one)

-- whom everybody sees is committed
pub pass_committed : (low : ℕ) (tables : Tables) → PassCommitted (passes_below low tables) tables
pass_committed low tables x passes = first (is_committed_in tables x) (nat_lt x low) passes
  where
    first : (a b : Bool) → (a && b) ≡ true → a ≡ true
    first true b is = refl
    first false b is = absurd cc

-- what is chosen is owed for
pub owed_by : (low : ℕ) (locks : Locks) (e : ℕ) (at : Place) (s : State) (way : TrimWay) → IsAmong at (slot_places (area_in s) e) → MayTrimAt low locks e at s way
    → OwedByTrim (passes_below low s.tables) s.tables (area_in s) e at (trimming_by way)
owed_by low locks e at s way among chosen = record { used = (among, chosen.0); old = pass_committed low s.tables; fits = chosen.2.0; some = chosen.2.1 }
