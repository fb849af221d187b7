-- A search meets no damage.
use Rattle.std.specs.Prelude.{Result, Err}
use Rattle.ctr_types.specs.declared.file.Damage.{Damage}
use Rattle.ctr_disk.specs.declared.fault.StoreFault.{StoreFault}
use Rattle.ctr_disk.specs.declared.fault.StoreFault.TheVariants.{Damaged}
use Rattle.ctr_heap.specs.ctr_walk.Damage.{EndsTold}

-- A search ends as a rule says, and at no damage, whichever it is.
abbrev pub EndsWell : {T B : Type 0} → (Result T B → Type 0) → Type 0
EndsWell {T} {B} Ends = (bad : B) → Ends (Err bad) → ⊥

-- A search ends so, and a call of it tells no damage, however damage is told.
pub record MeetsNoDamage {T B : Type 0} (Ends : Result T B → Type 0) : Type 0 where
  pub ends : EndsWell Ends
  pub told : (told : B → StoreFault) (d : Damage) → EndsTold told Ends (Err (Damaged d)) → ⊥
