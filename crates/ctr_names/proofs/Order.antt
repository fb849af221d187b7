-- The order of a name's entries stays where a transaction commits that dropped later than the others.
use Rattle.std.proofs.Common.{Bool, List, [], ap, arith, cond, false, inl, inr, refl, sym, true, ℕ, ◌<◌, ◌∙◌, ◌∷◌, ◌≡◌, ◌⊎◌}
use Rattle.std.specs.List.{AllByRecursion}
use Rattle.std.specs.Prelude.{◌&&◌, ◌||◌}
use Rattle.ctr_record_laws.specs.area_Areas.{Title}
use Rattle.ctr_record_laws.specs.area_Images.{Numbered, is_dropped_later, is_newer, newest_first, placed}
use Rattle.ctr_names.proofs.Entries.{InPairs, all_sorted}
use Rattle.ctr_names.proofs.Later.{earlier_none, earlier_than, later_none, later_than}

-- ---- a transaction commits: the order is as it was

abbrev pub IsSameOrder : (ℕ → Bool) → (ℕ → Bool) → Numbered → Numbered → Type 0
IsSameOrder old new a b = is_newer new a.1 b.1 ≡ is_newer old a.1 b.1

module _ (old new : ℕ → Bool) where
  same_placed : (e : Numbered) (fs : List Numbered) → AllByRecursion (IsSameOrder old new e) fs → placed new e fs ≡ placed old e fs
  same_placed e [] all = refl
  same_placed e (f ∷ fs) all = λ i. cond (all.0 i) (e ∷ f ∷ fs) (f ∷ same_placed e fs all.1 i)

  abbrev pub AreSameOrder : List Numbered → Type 0
  AreSameOrder es = InPairs (IsSameOrder old new) es

  pub same_sorted : (es : List Numbered) → AreSameOrder es → newest_first new es ≡ newest_first old es
  same_sorted [] same_ = refl
  same_sorted (e ∷ es) same_ = ap (placed new e) (same_sorted es same_.1) ∙ same_placed e (newest_first old es) (all_sorted old (IsSameOrder old new e) es same_.0)

-- x is committed now, and each other transaction is what it was
module _ (old new : ℕ → Bool) (x : ℕ) (nonzero : x ≡ 0 → ⊥) (was_open : old x ≡ false) (is_now : new x ≡ true) (others : (y : ℕ) → (y ≡ x → ⊥) → new y ≡ old y) (nobody : old 0 ≡ false) where
  -- a dropper of the name is none, x, or an earlier one that is committed
  abbrev pub IsEarlier : Title → Type 0
  IsEarlier t = (t.dropper ≡ 0) ⊎ ((t.dropper ≡ x) ⊎ ((old t.dropper ≡ true) × (0 < t.dropper) × (t.dropper < x)))

  abbrev newer_as : (bool_a bool_b : Bool) → Title → Title → Bool
  newer_as gone_a gone_b a b = cond gone_a (gone_b && is_dropped_later a b) (gone_b || is_dropped_later a b)

  -- the test of each kind of dropper, before and after
  tests : (t : Title) → IsEarlier t → ((old t.dropper ≡ false) × (new t.dropper ≡ false) × (t.dropper ≡ 0)) ⊎ (((old t.dropper ≡ false) × (new t.dropper ≡ true) × (t.dropper ≡ x)) ⊎ ((old t.dropper ≡ true) × (new t.dropper ≡ true) × (0 < t.dropper) × (t.dropper < x)))
  tests t (inl z) = inl (ap old z ∙ nobody, ap new z ∙ others 0 (λ is. nonzero (sym is)) ∙ nobody, z)
  tests t (inr (inl is)) = inr (inl (ap old is ∙ was_open, ap new is ∙ is_now, is))
  tests t (inr (inr early)) = inr (inr (early.0, others t.dropper (λ is. omega (arith, early.2, is)) ∙ early.0, early.1, early.2))

  pub commit_order : (a b : Title) → IsEarlier a → IsEarlier b → is_newer new a b ≡ is_newer old a b
  commit_order a b early_a early_b = by_tests (tests a early_a) (tests b early_b)
    where
      step : (oa na ob nb : Bool) → old a.dropper ≡ oa → new a.dropper ≡ na → old b.dropper ≡ ob → new b.dropper ≡ nb → newer_as na nb a b ≡ newer_as oa ob a b → is_newer new a b ≡ is_newer old a b
      step oa na ob nb w x y z same_ = (λ i. newer_as (x i) (z i) a b) ∙ same_ ∙ (λ i. newer_as (sym w i) (sym y i) a b)

      by_tests : ((old a.dropper ≡ false) × (new a.dropper ≡ false) × (a.dropper ≡ 0)) ⊎ (((old a.dropper ≡ false) × (new a.dropper ≡ true) × (a.dropper ≡ x)) ⊎ ((old a.dropper ≡ true) × (new a.dropper ≡ true) × (0 < a.dropper) × (a.dropper < x)))
          → ((old b.dropper ≡ false) × (new b.dropper ≡ false) × (b.dropper ≡ 0)) ⊎ (((old b.dropper ≡ false) × (new b.dropper ≡ true) × (b.dropper ≡ x)) ⊎ ((old b.dropper ≡ true) × (new b.dropper ≡ true) × (0 < b.dropper) × (b.dropper < x)))
          → is_newer new a b ≡ is_newer old a b
      by_tests (inl p) (inl q) = step false false false false p.0 p.1 q.0 q.1 refl
      by_tests (inl p) (inr (inl q)) = step false false false true p.0 p.1 q.0 q.1 (sym (later_none a b p.2))
      by_tests (inl p) (inr (inr q)) = step false false true true p.0 p.1 q.0 q.1 refl
      by_tests (inr (inl p)) (inl q) = step false true false false p.0 p.1 q.0 q.1 (sym (earlier_none a b (λ z. nonzero (sym p.2 ∙ z)) q.2))
      by_tests (inr (inl p)) (inr (inl q)) = step false true false true p.0 p.1 q.0 q.1 refl
      by_tests (inr (inl p)) (inr (inr q)) = step false true true true p.0 p.1 q.0 q.1 (later_than a b (λ z. omega (arith, q.2, z)) (omega (arith, q.3, p.2)))
      by_tests (inr (inr p)) (inl q) = step true true false false p.0 p.1 q.0 q.1 refl
      by_tests (inr (inr p)) (inr (inl q)) = step true true false true p.0 p.1 q.0 q.1 (earlier_than a b (λ z. omega (arith, p.2, z)) (omega (arith, p.3, q.2)))
      by_tests (inr (inr p)) (inr (inr q)) = step true true true true p.0 p.1 q.0 q.1 refl
