-- What is done to one chain.
use Rattle.std.specs.Prelude.{◌≡◌, ℕ, ◌≤◌, Bool, true, List, [], ◌∷◌, Option, Some, None, is_some, if◌then◌else◌}
use Rattle.ctr_versions.specs.Chains.{Numbers}

-- A write. A head that isn't committed is replaced: it is the writer's own, or of an aborted
-- transaction or an orphan. A committed head is kept behind the new one. A key without a version
-- has its first. A write of none is a tombstone.
abbrev pub write : {V : Type 0} → Numbers → ℕ → Option V → List (ℕ × Option V) → List (ℕ × Option V)
write number x v [] = (x, v) ∷ []
write number x v (h ∷ rest) =
    if is_some (number h.0) then (x, v) ∷ h ∷ rest else (x, v) ∷ rest

-- a head that isn't committed gives way to the next version
abbrev pub revert : {V : Type 0} → Numbers → List (ℕ × Option V) → List (ℕ × Option V)
revert number [] = []
revert number (h ∷ rest) = if is_some (number h.0) then h ∷ rest else rest

-- what stands behind the first version that passes is cut off
abbrev pub cut : {V : Type 0} → (ℕ → Bool) → List (ℕ × Option V) → List (ℕ × Option V)
cut passes [] = []
cut passes (v ∷ vs) = if passes v.0 then v ∷ [] else v ∷ cut passes vs

-- a chain goes whose first version passes and is a tombstone
abbrev pub without_tombstone : {V : Type 0} → (ℕ → Bool) → List (ℕ × Option V)
    → List (ℕ × Option V)
without_tombstone passes [] = []
without_tombstone passes ((x, Some v) ∷ vs) = (x, Some v) ∷ vs
without_tombstone passes ((x, None) ∷ vs) = if passes x then [] else (x, None) ∷ vs

-- who passes is committed with a number of at most the low one: everyone sees it
abbrev pub IsOld : Numbers → ℕ → (ℕ → Bool) → Type 0
IsOld number low passes =
    (x : ℕ) → passes x ≡ true → (k : ℕ) × (number x ≡ Some k) × (k ≤ low)
