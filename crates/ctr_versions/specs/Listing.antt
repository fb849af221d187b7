-- Chains by key: what a list of them, in the order of their keys, shows.
use Rattle.std.specs.Prelude.{ℕ, Bool, List, [], ◌∷◌, Option, unwrap_or}
use Rattle.std.specs.Option.{option_map_or}
use Rattle.std.specs.declared.cmp.Ordering.{Ordering}
use Rattle.std.specs.FinMap.Entries.{find}
use Rattle.ctr_versions.specs.Chains.{value_seen}

-- the chain of a key; a key with no slot has the empty one
abbrev pub chain_at : {K V : Type 0} → (K → K → Ordering) → K → List (K × List (ℕ × Option V))
    → List (ℕ × Option V)
chain_at cmp key slots = unwrap_or (find cmp key slots) []

-- the keys whose chain shows a value to the test, with it
abbrev pub entries_seen : {K V : Type 0} → (ℕ → Bool) → List (K × List (ℕ × Option V))
    → List (K × V)
entries_seen sees [] = []
entries_seen sees (e ∷ es) =
    option_map_or (λ v. (e.0, v) ∷ entries_seen sees es) (value_seen sees e.1)
    (entries_seen sees es)
