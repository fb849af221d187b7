-- What is among the members of lists that are put together.
use Rattle.std.proofs.Common.{◌≡◌, ◌⊎◌, ⊎_elim, inl, inr, ℕ, ◌+◌, ◌≤◌, zero, suc, Bool, cond, List, [], ◌∷◌, ◌++◌, map, refl, sym, ◌∙◌, ap, subst, arith}
use Rattle.std.proofs.lemmas.Bool.{false≢true, eq-eqb, eqb-true}
use Rattle.std.specs.List.{flat_map, AllByRecursion}
use Rattle.std.specs.Prelude.{◌==◌}
use Rattle.ctr_area.specs.Chains.{places_on}
use Rattle.ctr_area.specs.Sound.{IsAmong, how_many}
use Rattle.ctr_area.specs.ctr_page.declared.rows.Place.{Place}
use Rattle.ctr_area.proofs.ctr_versions.Keys.{known}

pub among_front : {A : Type 0} (x : A) (xs ys : List A) → IsAmong x xs → IsAmong x (xs ++ ys)
among_front x [] ys in_ = absurd in_
among_front x (y ∷ xs) ys (inl is) = inl is
among_front x (y ∷ xs) ys (inr in_) = inr (among_front x xs ys in_)

pub among_rest : {A : Type 0} (x : A) (xs ys : List A) → IsAmong x ys → IsAmong x (xs ++ ys)
among_rest x [] ys in_ = in_
among_rest x (y ∷ xs) ys in_ = inr (among_rest x xs ys in_)

pub among_parts : {A : Type 0} (x : A) (xs ys : List A) → IsAmong x (xs ++ ys) → IsAmong x xs ⊎ IsAmong x ys
among_parts x [] ys in_ = inr in_
among_parts x (y ∷ xs) ys (inl is) = inl (inl is)
among_parts x (y ∷ xs) ys (inr in_) = ⊎_elim (λ a. inl (inr a)) (λ b. inr b) (among_parts x xs ys in_)

pub among_flat : {A B : Type 0} (f : A → List B) (x : B) (xs : List A) → IsAmong x (flat_map f xs) → (a : A) × IsAmong a xs × IsAmong x (f a)
among_flat f x [] in_ = absurd in_
among_flat f x (a ∷ as_) in_ = ⊎_elim (λ here. (a, inl refl, here)) (λ there. let found = among_flat f x as_ there in (found.0, inr found.1, found.2)) (among_parts x (f a) (flat_map f as_) in_)

-- a place on a page is of this page
pub on_page : (q k n : ℕ) (at : Place) → IsAmong at (places_on q k n) → at.page ≡ q
on_page q k zero at in_ = absurd in_
on_page q k (suc n) at (inl is) = ap (λ (p : Place). p.page) is
on_page q k (suc n) at (inr in_) = on_page q (k + 1) n at in_

-- ---- once

-- it is among them once
abbrev pub StandsOnce : {A : Type 0} → A → List A → Type 0
StandsOnce x [] = ⊥
StandsOnce x (y ∷ ys) = ((x ≡ y) × (IsAmong x ys → ⊥)) ⊎ ((x ≡ y → ⊥) × StandsOnce x ys)

pub once_apart : {A : Type 0} (x : A) (xs ys : List A) → StandsOnce x (xs ++ ys) → IsAmong x xs → IsAmong x ys → ⊥
once_apart x [] ys once in_ too = in_
once_apart x (y ∷ xs) ys (inl here) in_ too = here.1 (among_rest x xs ys too)
once_apart x (y ∷ xs) ys (inr later) in_ too = ⊎_elim (λ is. later.0 is) (λ there. once_apart x xs ys later.1 there too) in_

pub once_rest : {A : Type 0} (x : A) (xs ys : List A) → StandsOnce x (xs ++ ys) → IsAmong x ys → StandsOnce x ys
once_rest x [] ys once in_ = once
once_rest x (y ∷ xs) ys (inl here) in_ = absurd (here.1 (among_rest x xs ys in_))
once_rest x (y ∷ xs) ys (inr later) in_ = once_rest x xs ys later.1 in_

pub once_front : {A : Type 0} (x : A) (xs ys : List A) → StandsOnce x xs → (IsAmong x ys → ⊥) → StandsOnce x (xs ++ ys)
once_front x [] ys once away = absurd once
once_front x (y ∷ xs) ys (inl here) away = inl (here.0, λ in_. ⊎_elim here.1 away (among_parts x xs ys in_))
once_front x (y ∷ xs) ys (inr later) away = inr (later.0, once_front x xs ys later.1 away)

pub once_behind : {A : Type 0} (x : A) (xs ys : List A) → (IsAmong x xs → ⊥) → StandsOnce x ys → StandsOnce x (xs ++ ys)
once_behind x [] ys away once = once
once_behind x (y ∷ xs) ys away once = inr ((λ is. away (inl is)), once_behind x xs ys (λ in_. away (inr in_)) once)

-- ---- all

pub all_each : {A : Type 0} {P Q : A → Type 0} (xs : List A) → ((x : A) → P x → Q x) → AllByRecursion P xs → AllByRecursion Q xs
all_each [] f all = tt
all_each {P = P} {Q = Q} (x ∷ xs) f all = (f x all.0, all_each {P = P} {Q = Q} xs f all.1)

pub all_map : {A B : Type 0} (f : A → B) (P : A → Type 0) (Q : B → Type 0) → ((x : A) → P x → Q (f x)) → (xs : List A) → AllByRecursion P xs → AllByRecursion Q (map f xs)
all_map f P Q step [] all = tt
all_map f P Q step (x ∷ xs) all = (step x all.0, all_map f P Q step xs all.1)

pub all_parts : {A : Type 0} (P : A → Type 0) (xs ys : List A) → AllByRecursion P (xs ++ ys) → AllByRecursion P xs × AllByRecursion P ys
all_parts P [] ys all = (tt, all)
all_parts P (x ∷ xs) ys all = ((all.0, (all_parts P xs ys all.1).0), (all_parts P xs ys all.1).1)

pub all_both : {A : Type 0} (P : A → Type 0) (xs ys : List A) → AllByRecursion P xs → AllByRecursion P ys → AllByRecursion P (xs ++ ys)
all_both P [] ys a b = b
all_both P (x ∷ xs) ys a b = (a.0, all_both P xs ys a.1 b)

pub all_and : {A : Type 0} (P Q : A → Type 0) (xs : List A) → AllByRecursion P xs → AllByRecursion Q xs → AllByRecursion (λ x. P x × Q x) xs
all_and P Q [] a b = tt
all_and P Q (x ∷ xs) a b = ((a.0, b.0), all_and P Q xs a.1 b.1)

-- ---- counts

pub count_append : {A : Type 0} (test : A → Bool) (xs ys : List A) → how_many test (xs ++ ys) ≡ how_many test xs + how_many test ys
count_append test [] ys = omega arith
count_append test (x ∷ xs) ys = turned (cond (test x) 1 0) (how_many test xs) (how_many test ys) (how_many test (xs ++ ys)) (count_append test xs ys)
  where
    turned : (b m n k : ℕ) → k ≡ m + n → b + k ≡ (b + m) + n
    turned b m n k is = omega (arith, is)

pub count_among : (p : ℕ) (xs : List ℕ) → IsAmong p xs → 1 ≤ how_many (λ q. q == p) xs
count_among p [] in_ = absurd in_
count_among p (x ∷ xs) (inl is) = subst (λ b. 1 ≤ cond b 1 0 + how_many (λ q. q == p) xs) (sym (eq-eqb x p (sym is))) (omega arith)
count_among p (x ∷ xs) (inr in_) = more (cond (x == p) 1 0) (how_many (λ q. q == p) xs) (count_among p xs in_)
  where
    more : (b n : ℕ) → 1 ≤ n → 1 ≤ b + n
    more b n le = omega (arith, le)

pub once_counted : (p : ℕ) (xs : List ℕ) → how_many (λ q. q == p) xs ≡ 1 → StandsOnce p xs
once_counted p [] is = omega (arith, is)
once_counted p (x ∷ xs) is = known (x == p)
    (λ here. inl (sym (eqb-true x p here), λ in_. too_many (how_many (λ q. q == p) xs) (count_among p xs in_) (ap (λ b. cond b 1 0 + how_many (λ q. q == p) xs) (sym here) ∙ is)))
    (λ other. inr ((λ same_. false≢true (sym other ∙ eq-eqb x p (sym same_))), once_counted p xs (none (how_many (λ q. q == p) xs) (ap (λ b. cond b 1 0 + how_many (λ q. q == p) xs) (sym other) ∙ is))))
  where
    too_many : (n : ℕ) → 1 ≤ n → 1 + n ≡ 1 → ⊥
    too_many n le is = omega (arith, le, is)

    none : (n : ℕ) → 0 + n ≡ 1 → n ≡ 1
    none n is = omega (arith, is)

abbrev pub bit : Bool → ℕ
bit b = cond b 1 0

-- a count, where the test changes at one member
module _ {A : Type 0} (old new : A → Bool) (at : A) (others : (x : A) → (at ≡ x → ⊥) → new x ≡ old x) where
  pub count_apart : (xs : List A) → (IsAmong at xs → ⊥) → how_many new xs ≡ how_many old xs
  count_apart [] apart = refl
  count_apart (x ∷ xs) apart = λ i. cond (others x (λ is. apart (inl is)) i) 1 0 + count_apart xs (λ in_. apart (inr in_)) i

  pub count_once : (xs : List A) → StandsOnce at xs → how_many new xs + bit (old at) ≡ how_many old xs + bit (new at)
  count_once [] once = absurd once
  count_once (x ∷ xs) (inl here) =
      let rest = count_apart xs here.1 in
      let one = ap (λ x. bit (new x)) here.0 in
      let two = ap (λ x. bit (old x)) here.0 in
      (λ i. (bit (new x) + rest i) + bit (old at)) ∙ turned (bit (new x)) (bit (old x)) (bit (new at)) (bit (old at)) (how_many old xs) one two
    where
      turned : (nx ox na oa c : ℕ) → na ≡ nx → oa ≡ ox → (nx + c) + oa ≡ (ox + c) + na
      turned nx ox na oa c one two = omega (arith, one, two)
  count_once (x ∷ xs) (inr later) = turned (bit (new x)) (bit (old x)) (how_many new xs) (how_many old xs) (bit (old at)) (bit (new at)) (ap bit (others x later.0)) (count_once xs later.1)
    where
      turned : (nx ox n o a b : ℕ) → nx ≡ ox → n + a ≡ o + b → (nx + n) + a ≡ (ox + o) + b
      turned nx ox n o a b one two = omega (arith, one, two)
