-- What a step of the cleaner did in the lists of the tables.
use Rattle.std.specs.Prelude.{◌≡◌, ℕ, ◌+◌, Option, None, Some, drop, length, slice_get}
use Rattle.ctr_rec.specs.declared.record.SlogItem.TheVariants.{FreeOf}
use Rattle.ctr_meta.specs.Kept.{TablesKept}
use Rattle.ctr_meta.specs.Tables.{Tables}
use Rattle.ctr_pvs.specs.redo_States.{State}
use Rattle.ctr_area.specs.Sound.{IsAmong}
use Rattle.ctr_record_laws.specs.Owed.{OwedByForget}
use Rattle.ctr_actions.specs.Actions.{Reclaims, Forgets}
use Rattle.ctr_clean.specs.Steps.{Locks, CleansOne}
use Rattle.ctr_clean.specs.declared.steps.Step.{Step}
use Rattle.ctr_clean.specs.declared.steps.Step.TheVariants.{Cleaned, Nothing, Beyond}

-- no transaction at a place of the aborted transaction map may be forgotten
abbrev pub HasNoForget : ℕ → Tables → Type 0
HasNoForget place tables = (x heads : ℕ) → slice_get tables.aborted place ≡ Some (x, heads)
    → OwedByForget tables x → ⊥

-- The transaction at a place of the aborted transaction map is this one, and may be forgotten; or
-- none at the place may be.
abbrev pub IsWithoutHead : ℕ → Tables → Option ℕ → Type 0
IsWithoutHead place tables (Some x) =
    (slice_get tables.aborted place ≡ Some (x, 0)) × OwedByForget tables x
IsWithoutHead place tables None = HasNoForget place tables

-- What a step at a place of the map did.
abbrev pub ForgetsAt : ℕ → Locks → ℕ → State → State → Step → Type 0
ForgetsAt low locks place s t Cleaned = (one : CleansOne low locks s t)
    × ((x : ℕ) × (slice_get s.tables.aborted place ≡ Some (x, 0)) × (one.action ≡ Forgets x))
ForgetsAt low locks place s t Nothing = (t ≡ s) × HasNoForget place s.tables
ForgetsAt low locks place s t Beyond = ⊥

-- no page waits to be free again, but for those of the first items, so many
abbrev pub HasNoFree : ℕ → Tables → Type 0
HasNoFree spared tables = (p : ℕ) → IsAmong (FreeOf p) (drop spared tables.items) → ⊥

-- What a step did for pages that left their chains, but for those of the first items, so many.
abbrev pub ReclaimsOne : ℕ → Locks → ℕ → State → State → Step → Type 0
ReclaimsOne low locks spared s t Cleaned = (one : CleansOne low locks s t)
    × ((p : ℕ) × (one.action ≡ Reclaims p) × IsAmong (FreeOf p) (drop spared s.tables.items))
ReclaimsOne low locks spared s t Nothing = (t ≡ s) × HasNoFree spared s.tables
ReclaimsOne low locks spared s t Beyond = ⊥

-- an item of the secondary log is gone, where a page was given back
abbrev pub TakesItem : TablesKept → TablesKept → Step → Type 0
TakesItem k l Cleaned = length l.tables.items + 1 ≡ length k.tables.items
TakesItem k l Nothing = l ≡ k
TakesItem k l Beyond = ⊥
