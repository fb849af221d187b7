-- What the chain of a name is to the transaction that has the name.
use Rattle.std.specs.Prelude.{◌≡◌, ◌⊎◌, ◌&&◌, nat_lt, ℕ, Bool, true, List, ◌∷◌, Option}
use Rattle.std.specs.List.{AllByRecursion}
use Rattle.ctr_record_laws.specs.versions_Versions.{Made, Versions, names_at, NamesSet}
use Rattle.ctr_record_laws.specs.meta_Tables.{Tables}
use Rattle.ctr_record_laws.specs.area_Images.{is_committed_in}

-- all versions are by transactions that pass
abbrev pub AllVersionsPass : (ℕ → Bool) → List (ℕ × Option Made) → Type 0
AllVersionsPass test chain = AllByRecursion (λ (v : ℕ × Option Made). test v.0 ≡ true) chain

-- A chain is of committed versions alone, or has one version of this transaction in front of such.
abbrev pub HasOwnInFront : (ℕ → Bool) → ℕ → List (ℕ × Option Made) → Type 0
HasOwnInFront committed x chain = AllVersionsPass committed chain
    ⊎ ((v : Option Made) × (rest : List (ℕ × Option Made)) × (chain ≡ (x, v) ∷ rest)
    × AllVersionsPass committed rest)

-- A transaction's version in front of a name's chain goes, or becomes another of the transaction's.
pub record LosesOwn (x : ℕ) (old new : Versions) (name : List ℕ) : Type 0 where
  pub v : Option Made
  pub rest : List (ℕ × Option Made)
  pub was : names_at old name ≡ (x, v) ∷ rest
  pub now : NamesSet old new name rest
      ⊎ ((w : Option Made) × NamesSet old new name ((x, w) ∷ rest))

-- a transaction is committed by the tables, and below a mark
abbrev pub below_in : Tables → ℕ → ℕ → Bool
below_in tables mark x = is_committed_in tables x && nat_lt x mark
