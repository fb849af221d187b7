-- A map as the list of its entries, in the order of their keys.
use Rattle.std.specs.Prelude.{◌≡◌, zero, suc, ℕ, not, List, [], ◌∷◌}
use Rattle.std.specs.declared.cmp.Ordering.{Ordering}
use Rattle.std.specs.declared.cmp.Ordering.TheVariants.{Equal, Greater}
use Rattle.std.specs.Ordering.{eq_by_cmp}
use Rattle.std.specs.FinMap.Entries.{where_key}

-- the entries but the one of this key
abbrev pub without : {K X : Type 0} → (K → K → Ordering) → K → List (K × X) → List (K × X)
without cmp key entries = where_key cmp (λ k. not (eq_by_cmp cmp key k)) entries

-- The place of a key: the keys before it are smaller, and the one at it isn't.
abbrev pub IsKeyPlace : {K X : Type 0} → (K → K → Ordering) → K → List (K × X) → ℕ → Type 0
IsKeyPlace cmp key [] n = n ≡ 0
IsKeyPlace cmp key (e ∷ es) zero = ¬ (cmp key e.0 ≡ Greater)
IsKeyPlace cmp key (e ∷ es) (suc n) = (cmp key e.0 ≡ Greater) × IsKeyPlace cmp key es n

-- the entry at the place has the key
abbrev pub HasKeyAt : {K X : Type 0} → (K → K → Ordering) → K → List (K × X) → ℕ → Type 0
HasKeyAt cmp key [] n = ⊥
HasKeyAt cmp key (e ∷ es) zero = cmp key e.0 ≡ Equal
HasKeyAt cmp key (e ∷ es) (suc n) = HasKeyAt cmp key es n
