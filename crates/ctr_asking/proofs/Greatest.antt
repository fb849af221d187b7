-- The last of the commits that changed an entry.
use Rattle.std.proofs.Common.{◌≡◌, ◌⊎◌, inl, inr, ⊎_elim, ℕ, zero, suc, ◌+◌, ◌-◌, ◌<◌, ◌≤◌, cond, List, Option, Some, None, refl, sym, ◌∙◌, ap, arith}
use Rattle.std.specs.Prelude.{is_some, nat_lt}
use Rattle.std.proofs.lemmas.Bool.{cases_eq, false≢true, ltb-true, ltb-false}
use Rattle.ctr_snap.specs.Seeing.{SnapshotTaken}
use Rattle.ctr_versions.proofs.Keys.{known}
use Rattle.ctr_wishes.specs.actions_Sites.{Site}
use Rattle.ctr_asking.specs.Causes.{later, change_number, last_change}

later_cases : (a b : Option ℕ) (k : ℕ) → later a b ≡ Some k → (a ≡ Some k) ⊎ (b ≡ Some k)
later_cases None b k is = inr is
later_cases (Some i) None k is = inl is
later_cases (Some i) (Some j) k is = known (nat_lt i j)
    (λ lt. inr (sym (ap (λ b. cond b (Some j) (Some i)) lt) ∙ is))
    (λ ge. inl (sym (ap (λ b. cond b (Some j) (Some i)) ge) ∙ is))

later_none : (a : Option ℕ) → later a None ≡ a
later_none None = refl
later_none (Some i) = refl

-- it is no earlier than either
abbrev IsFrom : ℕ → Option ℕ → Type 0
IsFrom i o = (k : ℕ) × (o ≡ Some k) × (i ≤ k)

left_in : (i : ℕ) (b : Option ℕ) → IsFrom i (later (Some i) b)
left_in i None = (i, refl, omega arith)
left_in i (Some j) = known (nat_lt i j)
    (λ lt. (j, ap (λ b. cond b (Some j) (Some i)) lt, let le = ltb-true i j lt in omega (arith, le)))
    (λ ge. (i, ap (λ b. cond b (Some j) (Some i)) ge, omega arith))

right_in : (a : Option ℕ) (j : ℕ) → IsFrom j (later a (Some j))
right_in None j = (j, refl, omega arith)
right_in (Some i) j = known (nat_lt i j)
    (λ lt. (j, ap (λ b. cond b (Some j) (Some i)) lt, omega arith))
    (λ ge. (i, ap (λ b. cond b (Some j) (Some i)) ge, ltb-false i j ge))

module _ (commits : List ℕ) (site : Site) (snapshot : SnapshotTaken) (name : List ℕ) where
  abbrev last : ℕ → Option ℕ
  last n = last_change commits site snapshot name n

  abbrev number : ℕ → Option ℕ
  number e = change_number commits site snapshot name e

  pub last_zero : last 0 ≡ None
  unfolding last_change
  last_zero = refl

  pub last_suc : (n : ℕ) → last (suc n) ≡ later (last n) (number n)
  unfolding last_change
  last_suc n = refl

  -- with one entry more
  pub last_next : (n : ℕ) → last (n + 1) ≡ later (last n) (number n)
  last_next n = ap last (let z : n + 1 ≡ suc n = omega arith in z) ∙ last_suc n

  -- over entries that nobody changed it is as before them
  last_over : (from k : ℕ) → ((m : ℕ) → from ≤ m → m < from + k → number m ≡ None) → last (from + k) ≡ last from
  last_over from zero none = ap last (let z : from + zero ≡ from = omega arith in z)
  last_over from (suc k) none =
      ap last (let z : from + suc k ≡ suc (from + k) = omega arith in z) ∙ last_suc (from + k)
      ∙ ap (λ o. later o (number (from + k))) (last_over from k (λ m on lt. none m on (let z : m < from + suc k = omega (arith, lt) in z)))
      ∙ ap (later (last from)) (none (from + k) (omega arith) (omega arith)) ∙ later_none (last from)

  -- and with one entry more behind them
  pub last_behind : (from e : ℕ) → from ≤ e → ((m : ℕ) → from ≤ m → m < e → number m ≡ None) → last (e + 1) ≡ later (last from) (number e)
  last_behind from e le none =
      last_next e
      ∙ ap (λ o. later o (number e))
      (ap last (let z : e ≡ from + (e - from) = omega (arith, le) in z)
      ∙ last_over from (e - from) (λ m on lt. none m on (let z : m < e = omega (arith, le, lt) in z)))

  -- it is that of an entry
  pub last_is : (n k : ℕ) → last n ≡ Some k → (e : ℕ) × (e < n) × (number e ≡ Some k)
  last_is zero k is = absurd (false≢true (ap is_some (sym last_zero ∙ is)))
  last_is (suc n) k is = ⊎_elim
      (λ old. let its = last_is n k old in (its.0, (let lt = its.1 in omega (arith, lt)), its.2))
      (λ new. (n, omega arith, new))
      (later_cases (last n) (number n) k (sym (last_suc n) ∙ is))

  -- and none of an entry is later
  pub last_most : (n e j : ℕ) → e < n → number e ≡ Some j → IsFrom j (last n)
  last_most zero e j lt is = absurd (omega (arith, lt))
  last_most (suc n) e j lt is = ⊎_elim
      (λ same.
      let its = right_in (last n) j in
      (its.0, last_suc n ∙ ap (later (last n)) (sym (ap number same) ∙ is) ∙ its.1, its.2))
      (λ other.
      let before = last_most n e j (let z : e < n = by_less n e lt other in z) is in
      let its = left_in before.0 (number n) in
      (its.0, last_suc n ∙ ap (λ o. later o (number n)) before.1 ∙ its.1, (let one = before.2 in let two = its.2 in omega (arith, one, two))))
      (cases_eq e n)
    where
      by_less : (n e : ℕ) → e < suc n → (e ≡ n → ⊥) → e < n
      by_less n e lt other = omega (arith, lt, other)
