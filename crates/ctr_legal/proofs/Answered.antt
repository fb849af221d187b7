-- How many commits a tape answers by a moment.
use Rattle.std.proofs.Common.{◌≡◌, ◌⊎◌, inl, inr, ⊎_elim, ℕ, zero, suc, ◌+◌, ◌<◌, ◌≤◌, nat_le, ◌&&◌, Bool, true, false, cond, List, [], ◌∷◌, ◌++◌, refl, ap, arith}
use Rattle.std.specs.List.{AllByRecursion}
use Rattle.std.proofs.lemmas.Bool.Decides.{nat_tests}
use Rattle.ctr_types.specs.declared.tape.Entry.{Entry}
use Rattle.ctr_model.specs.Tape.{is_answer, answered_by}
use Rattle.ctr_model.specs.Texts.{answers}

pub order : (a b : ℕ) → (a ≤ b) ⊎ (b < a)
order zero b = inl (omega arith)
order (suc a) zero = inr (omega arith)
order (suc a) (suc b) = ⊎_elim (λ h. inl (omega (arith, h))) (λ h. inr (omega (arith, h))) (order a b)

-- ---- answered by a moment

early : (b : Bool) (m t : ℕ) → t < m → ◌≡◌ {A = ℕ} (cond (b && nat_le m t) 1 0) 0
early true m t lt = grind (arith, nat_tests, lt)
early false m t lt = refl

none_by : (t m : ℕ) (more : List Entry) → t < m → AllByRecursion (λ (e : Entry). e.moment ≡ m) more → answered_by t more ≡ 0
none_by t m [] lt all = refl
none_by t m (e ∷ more) lt all = let at = all.0 in omega (arith, early (is_answer e.reply) e.moment t (omega (arith, lt, at)), none_by t m more lt all.1)

pub answered_before : (t m : ℕ) (es more : List Entry) → t < m → AllByRecursion (λ (e : Entry). e.moment ≡ m) more → answered_by t (es ++ more) ≡ answered_by t es
answered_before t m [] more lt all = none_by t m more lt all
answered_before t m (d ∷ es) more lt all = ap (λ (n : ℕ). cond (is_answer d.reply && nat_le d.moment t) 1 0 + n) (answered_before t m es more lt all)

one_or_none : (a b : Bool) → cond (a && b) 1 0 ≤ cond a 1 0
one_or_none true true = omega arith
one_or_none true false = omega arith
one_or_none false b = omega arith

pub answered_at_most : (t : ℕ) (es : List Entry) → answered_by t es ≤ answers es
answered_at_most t [] = omega arith
answered_at_most t (e ∷ es) = omega (arith, one_or_none (is_answer e.reply) (nat_le e.moment t), answered_at_most t es)
