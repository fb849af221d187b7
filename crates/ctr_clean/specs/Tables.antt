-- What a step of the cleaner did at an entry of the catalog.
use Rattle.std.specs.Prelude.{◌≡◌, ℕ, Bool, true, false}
use Rattle.ctr_pvs.specs.redo_States.{State}
use Rattle.ctr_record_effects.specs.States.{area_in}
use Rattle.ctr_record_laws.specs.Owed.{OwedByDying}
use Rattle.ctr_actions.specs.Actions.{MakesDead}
use Rattle.ctr_clean.specs.Choosing.{passes_below}
use Rattle.ctr_clean.specs.Steps.{Locks, CleansOne}
use Rattle.ctr_clean.specs.declared.steps.Step.{Step}
use Rattle.ctr_clean.specs.declared.steps.Step.TheVariants.{Cleaned, Nothing, Beyond}

-- what is owed for a table to be made dead, by who everybody sees
abbrev pub OwesDying : ℕ → ℕ → State → Type 0
OwesDying low e s = OwedByDying (passes_below low s.tables) s.tables (area_in s) e

-- The table of an entry may be made dead; or it may not.
abbrev pub DiesAt : ℕ → ℕ → State → Bool → Type 0
DiesAt low e s true = OwesDying low e s
DiesAt low e s false = OwesDying low e s → ⊥

-- What a step did at an entry.
abbrev pub MakesDeadAt : ℕ → Locks → ℕ → State → State → Step → Type 0
MakesDeadAt low locks e s t Cleaned = (one : CleansOne low locks s t)
    × (one.action ≡ MakesDead (passes_below low s.tables) e)
MakesDeadAt low locks e s t Nothing = (t ≡ s) × (OwesDying low e s → ⊥)
MakesDeadAt low locks e s t Beyond = ⊥
