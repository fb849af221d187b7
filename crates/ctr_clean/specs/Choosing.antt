-- What is to be cleaned of a slot.
use Rattle.std.specs.Prelude.{◌≡◌, ℕ, ◌&&◌, nat_lt, ◌==◌, Bool, true, false, not, Option, Some, None, is_some}
use Rattle.std.specs.Option.{option_map}
use Rattle.ctr_meta.specs.Tables.{Tables, is_in}
use Rattle.ctr_area.specs.Areas.{RowVersion, Slot}
use Rattle.ctr_area.specs.Images.{is_committed_in}
use Rattle.ctr_record_laws.specs.Owed.{Trimming, FitsTrimming, IsCut}
use Rattle.ctr_dead.specs.trim_Trimming.{trimming_by}
use Rattle.ctr_dead.specs.trim_TrimWay.{TrimWay}
use Rattle.ctr_clean.specs.declared.choosing.SlotFacts.{SlotFacts}
use Rattle.ctr_clean.specs.declared.choosing.SlotTask.{SlotTask}
use Rattle.ctr_clean.specs.declared.choosing.SlotTask.TheVariants.{Nothing, Revert, Trim}

-- Everybody sees what a transaction did: it is committed, and below the low mark.
abbrev pub passes_below : ℕ → Tables → ℕ → Bool
passes_below low tables x = is_committed_in tables x && nat_lt x low

-- Somebody may not see yet what a transaction did, although it is committed.
abbrev pub waits_above : ℕ → Tables → ℕ → Bool
waits_above low tables x = is_committed_in tables x && not (nat_lt x low)

-- What the cleaner knows of a slot: whether it is used; and if so its key, whose its head is and
-- whether that is a tombstone, whose its previous version is, and whether a pointer leads on.
pub record TellsSlot (slot : Slot) (f : SlotFacts) : Type 0 where
  pub used : slot.used ≡ f.used
  pub key : f.used ≡ true → slot.key ≡ f.key
  pub head : f.used ≡ true → slot.head.0 ≡ f.head
  pub dead : f.used ≡ true → f.dead ≡ not (is_some slot.head.1)
  pub previous : f.used ≡ true → option_map (λ (v : RowVersion). v.0) slot.previous ≡ f.previous
  pub leads : f.used ≡ true → f.leads ≡ not (slot.pointer.page == 0)

-- a slot may be trimmed in a way, and something goes
abbrev pub MayTrim : Trimming → (ℕ → Bool) → Slot → Type 0
MayTrim way passes slot = FitsTrimming way passes slot × IsCut way slot

-- how a slot may be trimmed; or it may not, in whichever way
abbrev pub IsTrimOf : (ℕ → Bool) → Slot → Option TrimWay → Type 0
IsTrimOf passes slot (Some way) = MayTrim (trimming_by way) passes slot
IsTrimOf passes slot None = (way : Trimming) → MayTrim way passes slot → ⊥

-- What is to be done with a used slot: its head is by a transaction that is rolled back; or the
-- slot may be trimmed; or neither, in whichever way.
abbrev pub IsTask : (ℕ → Bool) → Tables → Slot → SlotTask → Type 0
IsTask passes tables slot Nothing = (is_in slot.head.0 tables.aborted ≡ false)
    × ((way : Trimming) → MayTrim way passes slot → ⊥)
IsTask passes tables slot Revert = is_in slot.head.0 tables.aborted ≡ true
IsTask passes tables slot (Trim way) = MayTrim (trimming_by way) passes slot
