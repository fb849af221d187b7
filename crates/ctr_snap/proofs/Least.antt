-- The least of two lists, one after the other.
use Rattle.std.proofs.Common.{◌≡◌, ℕ, ◌≤◌, arith, List, [], ◌∷◌, ◌++◌, refl}
use Rattle.std.specs.Prelude.{min}
use Rattle.ctr_snap.specs.Seeing.{least, AreFrom}

pub least_append : (n : ℕ) (xs ys : List ℕ) → least n (xs ++ ys) ≡ least (least n xs) ys
least_append n [] ys = refl
least_append n (x ∷ xs) ys = least_append (min n x) xs ys

-- it is below each of them
pub least_below : (n : ℕ) (xs : List ℕ) → AreFrom (least n xs) (n ∷ xs)
least_below n [] = (omega arith, tt)
least_below n (x ∷ xs) = let rest = least_below (min n x) xs in (omega (arith, rest.0), (omega (arith, rest.0), rest.1))
