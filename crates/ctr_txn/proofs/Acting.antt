-- A session that acts, as a call finds it.
use Rattle.std.proofs.Common.{◌≡◌, ℕ, ◌-◌, ◌<◌, Option, Some, None, refl, sym, ◌∙◌, ap, subst, arith, length}
use Rattle.std.specs.Prelude.{get_or}
use Rattle.ctr_versions.proofs.Keys.{some_is}
use Rattle.ctr_txn.specs.Held.{TxnHeld, TxnsHeld, txn_of, IsOneOfEight, IsAt, IsReading, IsWriting, AreTxns}
use Rattle.ctr_txn.proofs.Slots.{found_at}

module _ (a b : TxnsHeld) (view_is : a ≡ b) (inv : AreTxns a) (s : ℕ) (one : IsOneOfEight s) where
  pub below : s - 1 < 8
  below = let from = one.from in let to = one.to in omega (arith, from, to)

  pub there : (d v : Option TxnHeld) (t : TxnHeld) → v ≡ get_or a.sessions (s - 1) d → v ≡ Some t → IsAt a.sessions (s - 1) t
  there d v t value is = found_at a.sessions (s - 1) d v (subst (λ n. s - 1 < n) (sym inv.eight) below) value ∙ is

  pub none_there : (d v : Option TxnHeld) → v ≡ get_or a.sessions (s - 1) d → v ≡ None → txn_of s b ≡ None
  none_there d v value is = ap (txn_of s) (sym view_is) ∙ found_at a.sessions (s - 1) d v (subst (λ n. s - 1 < n) (sym inv.eight) below) value ∙ is

  pub within : s - 1 < length a.sessions
  within = subst (λ n. s - 1 < n) (sym inv.eight) below

  pub same : (t u : TxnHeld) → IsAt a.sessions (s - 1) t → txn_of s b ≡ Some u → u ≡ t
  same t u at is = some_is u t (sym is ∙ ap (txn_of s) (sym view_is) ∙ at)

  pub reads : (t : TxnHeld) → IsAt a.sessions (s - 1) t → IsReading s b → t.session.me ≡ 0
  reads t at r = ap (λ (z : TxnHeld). z.session.me) (sym (same t r.t at r.there)) ∙ r.none

  pub unasked : (t : TxnHeld) → IsAt a.sessions (s - 1) t → IsReading s b → t.asked ≡ None
  unasked t at r = none t.asked (λ q is. positive t.session.me ((inv.each (s - 1) t at).asked q is).1 (reads t at r))
    where
      positive : (n : ℕ) → 0 < n → n ≡ 0 → ⊥
      positive n some zero_ = omega (arith, some, zero_)

      none : {A : Type 0} (o : Option A) → ((x : A) → o ≡ Some x → ⊥) → o ≡ None
      none None never = refl
      none (Some x) never = absurd (never x refl)

  pub writes : (t : TxnHeld) → IsAt a.sessions (s - 1) t → IsWriting s b → (0 < t.session.me) × (t.asked ≡ None)
  writes t at w =
      let is = same t w.t at w.there in
      (subst (λ (z : TxnHeld). 0 < z.session.me) is w.some, ap (λ (z : TxnHeld). z.asked) (sym is) ∙ w.unasked)
