-- Lists that are split in two ways, and what holds of each element.
use Rattle.std.proofs.Common.{◌≡◌, ℕ, zero, suc, ◌<◌, ◌≤◌, List, [], ◌∷◌, ◌++◌, length, get_or, take, refl, sym, ap, ◌∙◌, subst, arith, ⊎_elim, length-append}
use Rattle.std.proofs.Math.ListN.{get_or-append}
use Rattle.std.proofs.lemmas.Bool.{cases_lt}
use Rattle.std.specs.List.{AllByRecursion}

-- where two fronts begin one list, the shorter one begins the other
pub split_front : (t u a b : List ℕ) → t ++ a ≡ u ++ b → length t ≤ length u → (more : List ℕ) × (u ≡ t ++ more) × (a ≡ more ++ b)
split_front [] u a b e short = (u, refl, e)
split_front (x ∷ t) [] a b e short = absurd (omega arith)
split_front (x ∷ t) (y ∷ u) a b e short =
    let tails : t ++ a ≡ u ++ b = cc in
    let heads : x ≡ y = cc in
    let found = split_front t u a b tails (omega arith) in
    let longer : u ≡ t ++ found.0 = found.1 in
    let is : y ∷ u ≡ x ∷ (t ++ found.0) = cc in
    (found.0, is, found.2)

pub All_at : (P : ℕ → Type 0) (xs : List ℕ) (i : ℕ) → AllByRecursion P xs → i < length xs → P (get_or xs i 0)
All_at P [] i all below = absurd (omega arith)
All_at P (x ∷ xs) zero all below = all.0
All_at P (x ∷ xs) (suc i) all below = All_at P xs i all.1 (omega arith)

pub All_take : (P : ℕ → Type 0) (xs : List ℕ) (n : ℕ) → n ≤ length xs → ((k : ℕ) → k < n → P (get_or xs k 0)) → AllByRecursion P (take n xs)
All_take P xs zero within all = tt
All_take P [] (suc n) within all = tt
All_take P (x ∷ xs) (suc n) within all = (all zero (omega arith), All_take P xs n (omega arith) (λ k below. all (suc k) (omega arith)))

pub All_append : (P : ℕ → Type 0) (xs ys : List ℕ) → AllByRecursion P xs → AllByRecursion P ys → AllByRecursion P (xs ++ ys)
All_append P [] ys all more = more
All_append P (x ∷ xs) ys all more = (all.0, All_append P xs ys all.1 more)

-- a front of which P holds ends where P does not hold, if not before
pub All_most : (P : ℕ → Type 0) (bytes t after : List ℕ) (n : ℕ) → bytes ≡ t ++ after → AllByRecursion P t → (n < length bytes → P (get_or bytes n 0) → ⊥) → length t ≤ n
All_most P bytes t after n is all stops =
    ⊎_elim
    (λ (below : n < length t).
    let inside : n < length bytes = omega (arith, ap length is, length-append t after) in
    let there : get_or bytes n 0 ≡ get_or t n 0 = ap (λ (l : List ℕ). get_or l n 0) is ∙ get_or-append t after 0 n below in
    absurd (stops inside (subst P (sym there) (All_at P t n all below))))
    (λ (most : length t ≤ n). most)
    (cases_lt n (length t))
