-- A session that has drawn its number, or hasn't.
use Rattle.std.proofs.Common.{◌≡◌, ◌⊎◌, inl, inr, ℕ, zero, suc, ◌<◌, List, ◌++◌, refl, arith}
use Rattle.ctr_told.specs.actions_Facts.{Fact}
use Rattle.ctr_told.specs.kept_Tables.{AreTables}
use Rattle.ctr_told.specs.Turning.{facts_idle, IdleCountsOn}

pub none_or_some : (n : ℕ) → (n ≡ 0) ⊎ (0 < n)
none_or_some n = elim n as (λ (n : ℕ). (n ≡ 0) ⊎ (0 < n)) [ zero ↦ inl refl | suc m ↦ inr (above m) ]
  where
    above : (m : ℕ) → 0 < suc m
    above m = omega arith

-- what a session with a number counts on between two statements
pub idle_in : (n me : ℕ) (more facts : List Fact) → n ≡ me → 0 < me → IdleCountsOn n more facts → AreTables more × (facts ≡ facts_idle ++ more)
idle_in n me more facts is some (inl idle) = (idle.1, idle.2)
idle_in n me more facts is some (inr none) = absurd (nothing n me is some none.0)
  where
    nothing : (n me : ℕ) → n ≡ me → 0 < me → n ≡ 0 → ⊥
    nothing n me is some none = omega (arith, is, some, none)
