-- What is found in a list.
use Rattle.std.proofs.Common.{◌≡◌, ◌⊎◌, ⊎_elim, inl, inr, ℕ, zero, suc, ◌+◌, ◌<◌, cond, true, List, [], ◌∷◌, drop, length, get_or, Some, refl, sym, ◌∙◌, ap, arith}
use Rattle.std.specs.Prelude.{slice_get, is_some, nat_eq}
use Rattle.std.specs.List.{AllByRecursion}
use Rattle.std.proofs.lemmas.Bool.{false≢true, eq-eqb, eqb-true, cases_eq}
use Rattle.ctr_actions.proofs.versions_Keys.{known, some_is}
use Rattle.ctr_meta.specs.Tables.{heads_at, is_in}
use Rattle.ctr_meta.specs.Kept.{EachOnce}
use Rattle.ctr_area.specs.Sound.{IsAmong}

-- a member by its place, and the place of a member
pub member_at : {A : Type 0} (xs : List A) (k : ℕ) (d : A) → k < length xs → IsAmong (get_or xs k d) xs
member_at [] k d lt = absurd (omega (arith, lt))
member_at (x ∷ xs) zero d lt = inl refl
member_at (x ∷ xs) (suc k) d lt = inr (member_at xs k d (omega (arith, lt)))

pub place_of : {A : Type 0} (x d : A) (xs : List A) → IsAmong x xs → (k : ℕ) × (k < length xs) × (get_or xs k d ≡ x)
place_of x d [] in_ = absurd in_
place_of x d (y ∷ ys) (inl is) = (0, omega arith, sym is)
place_of x d (y ∷ ys) (inr in_) = let there = place_of x d ys in_ in (suc there.0, omega (arith, there.1), there.2)

-- a member of what is left behind some is one
pub among_behind : {A : Type 0} (x : A) (n : ℕ) (xs : List A) → IsAmong x (drop n xs) → IsAmong x xs
among_behind x zero xs in_ = in_
among_behind x (suc n) [] in_ = in_
among_behind x (suc n) (y ∷ ys) in_ = inr (among_behind x n ys in_)

-- what holds of all holds of what is left behind some
pub all_behind : {A : Type 0} (P : A → Type 0) (n : ℕ) (xs : List A) → AllByRecursion P xs → AllByRecursion P (drop n xs)
all_behind P zero xs all = all
all_behind P (suc n) [] all = all
all_behind P (suc n) (x ∷ xs) all = all_behind P n xs all.1

-- the heads of a transaction at a place of a list in which each comes once
pub heads_here : (ps : List (ℕ × ℕ)) (i x n : ℕ) → EachOnce ps → slice_get ps i ≡ Some (x, n) → heads_at x ps ≡ Some n
heads_here [] i x n once is = absurd cc
heads_here (p ∷ ps) zero x n once is =
    let same : p ≡ (x, n) = some_is p (x, n) is in
    ap (λ b. cond b (Some p.1) (heads_at x ps)) (eq-eqb x p.0 (sym (ap (λ (q : ℕ × ℕ). q.0) same))) ∙ ap (λ (q : ℕ × ℕ). Some q.1) same
heads_here (p ∷ ps) (suc i) x n once is =
    let there = heads_here ps i x n once.1 is in
    known (nat_eq x p.0)
    (λ same. absurd (false≢true (sym once.0 ∙ ap (λ y. is_in y ps) (sym (eqb-true x p.0 same)) ∙ ap is_some there)))
    (λ other. ap (λ b. cond b (Some p.1) (heads_at x ps)) other ∙ there)

pub at_or_below : (k n : ℕ) → k < n + 1 → (k < n) ⊎ (k ≡ n)
at_or_below k n less = ⊎_elim (λ is. inr is) (λ isnt. inl (unlike k n less isnt)) (cases_eq k n)
  where
    unlike : (k n : ℕ) → k < n + 1 → (k ≡ n → ⊥) → k < n
    unlike zero zero less isnt = absurd (isnt refl)
    unlike zero (suc n) less isnt = omega arith
    unlike (suc k) zero less isnt = absurd (omega (arith, less))
    unlike (suc k) (suc n) less isnt = let lt = unlike k n (omega (arith, less)) (λ is. isnt (ap suc is)) in omega (arith, lt)

-- where a transaction that is in a list has its place
pub place_in_map : (ps : List (ℕ × ℕ)) (x : ℕ) → is_in x ps ≡ true → (i : ℕ) × (n : ℕ) × (slice_get ps i ≡ Some (x, n))
place_in_map [] x in_ = absurd (false≢true in_)
place_in_map (p ∷ ps) x in_ = known (nat_eq x p.0)
    (λ same. (0, p.1, ap (λ y. Some (y, p.1)) (sym (eqb-true x p.0 same))))
    (λ other. let there = place_in_map ps x (sym (ap (λ b. is_some (cond b (Some p.1) (heads_at x ps))) other) ∙ in_) in (suc there.0, there.1, there.2))
