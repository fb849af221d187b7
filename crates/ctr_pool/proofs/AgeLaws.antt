-- Pages by the LSNs of their first changes.
use Rattle.std.proofs.Common.{◌≡◌, ◌≢◌, ⊎_elim, ℕ, zero, suc, ◌+◌, ◌<◌, ◌≤◌, eqb, cond, List, [], ◌∷◌, length, get_or, Option, Some, None, sym, ◌∙◌, ap, subst, arith}
use Rattle.std.specs.Prelude.{insert}
use Rattle.std.proofs.lemmas.List.{get_or_default}
use Rattle.ctr_pool.specs.Kept.{age_of, AllSince, AreByAge}
use Rattle.ctr_pool.proofs.FrameLaws.{yes, no, is, isnt, same_or}

pub first : (p : ℕ) (e : ℕ × ℕ) (es : List (ℕ × ℕ)) → p ≡ e.0 → age_of p (e ∷ es) ≡ Some e.1
first p e es same = yes (eqb p e.0) (Some e.1) (age_of p es) (is p e.0 same)

pub rest : (p : ℕ) (e : ℕ × ℕ) (es : List (ℕ × ℕ)) → p ≢ e.0 → age_of p (e ∷ es) ≡ age_of p es
rest p e es ne = no (eqb p e.0) (Some e.1) (age_of p es) (isnt p e.0 ne)

since_at : (s : ℕ) (es : List (ℕ × ℕ)) (k : ℕ) (d : ℕ × ℕ) → AllSince s es → k < length es → s ≤ (get_or es k d).1
since_at s [] k d all lt = absurd (omega (arith, lt))
since_at s (e ∷ es) zero d all lt = all.0
since_at s (e ∷ es) (suc k) d all lt = since_at s es k d all.1 (omega (arith, lt))

all_since : (s : ℕ) (es : List (ℕ × ℕ)) → ((k : ℕ) (d : ℕ × ℕ) → k < length es → s ≤ (get_or es k d).1) → AllSince s es
all_since s [] h = tt
all_since s (e ∷ es) h = (h 0 e (omega arith), all_since s es (λ k d lt. h (suc k) d (omega (arith, lt))))

-- an earlier one isn't younger
pub by_age_at : (es : List (ℕ × ℕ)) (i j : ℕ) (d e : ℕ × ℕ) → AreByAge es → i < j → j < length es → (get_or es i d).1 ≤ (get_or es j e).1
by_age_at [] i j d e by lt inside = absurd (omega (arith, inside))
by_age_at (a ∷ es) i zero d e by lt inside = absurd (omega (arith, lt))
by_age_at (a ∷ es) zero (suc j) d e by lt inside = since_at a.1 es j e by.0 (omega (arith, inside))
by_age_at (a ∷ es) (suc i) (suc j) d e by lt inside = by_age_at es i j d e by.2 (omega (arith, lt)) (omega (arith, inside))

age_since : (s t p : ℕ) (es : List (ℕ × ℕ)) → AllSince s es → age_of p es ≡ Some t → s ≤ t
age_since s t p [] all is_t = absurd cc
age_since s t p (e ∷ es) all is_t =
    ⊎_elim (λ same. let both : Some e.1 ≡ Some t = sym (first p e es same) ∙ is_t in let one : e.1 ≡ t = cc in let le = all.0 in omega (arith, one, le))
    (λ apart. age_since s t p es all.1 (sym (rest p e es apart) ∙ is_t))
    (same_or p e.0)

-- the first is the oldest
pub age_least : (e : ℕ × ℕ) (es : List (ℕ × ℕ)) (p s : ℕ) → AreByAge (e ∷ es) → age_of p (e ∷ es) ≡ Some s → e.1 ≤ s
age_least e es p s by is_s =
    ⊎_elim (λ same. let both : Some e.1 ≡ Some s = sym (first p e es same) ∙ is_s in let one : e.1 ≡ s = cc in omega (arith, one))
    (λ apart. age_since e.1 s p es by.0 (sym (rest p e es apart) ∙ is_s))
    (same_or p e.0)

pub first_least : (es : List (ℕ × ℕ)) (x : ℕ × ℕ) (p s : ℕ) → AreByAge es → 0 < length es → x ≡ get_or es 0 x → age_of p es ≡ Some s → x.1 ≤ s
first_least [] x p s by lt is_x is_s = absurd (omega (arith, lt))
first_least (e ∷ es) x p s by lt is_x is_s = let le = age_least e es p s by is_s in omega (arith, le, ap (λ (y : ℕ × ℕ). y.1) is_x)

other_first : (p : ℕ) (e : ℕ × ℕ) (es : List (ℕ × ℕ)) → age_of p (e ∷ es) ≡ None → p ≢ e.0
other_first p e es none same = let there = first p e es same in absurd cc

pub age_insert : (es : List (ℕ × ℕ)) (at p s : ℕ) → age_of p es ≡ None → at ≤ length es → (q : ℕ) → age_of q (insert es at (p, s)) ≡ cond (eqb p q) (Some s) (age_of q es)
age_insert es zero p s none le q =
    ⊎_elim (λ same. first q (p, s) es (sym same) ∙ sym (yes (eqb p q) (Some s) (age_of q es) (is p q same)))
    (λ apart. rest q (p, s) es (λ e. apart (sym e)) ∙ sym (no (eqb p q) (Some s) (age_of q es) (isnt p q apart)))
    (same_or p q)
age_insert [] (suc at) p s none le q = absurd (omega (arith, le))
age_insert (e ∷ es) (suc at) p s none le q =
    let other = other_first p e es none in
    let hyp = age_insert es at p s (sym (rest p e es other) ∙ none) (omega (arith, le)) q in
    ⊎_elim (λ same. first q e (insert es at (p, s)) same ∙ sym (no (eqb p q) (Some s) (age_of q (e ∷ es)) (isnt p q (λ x. other (x ∙ same))) ∙ first q e es same))
    (λ apart. rest q e (insert es at (p, s)) apart ∙ hyp ∙ ap (λ (o : Option ℕ). cond (eqb p q) (Some s) o) (sym (rest q e es apart)))
    (same_or q e.0)

since_insert : (a : ℕ) (es : List (ℕ × ℕ)) (at p s : ℕ) → at ≤ length es → AllSince a es → a ≤ s → AllSince a (insert es at (p, s))
since_insert a es zero p s le all low = (low, all)
since_insert a [] (suc at) p s le all low = absurd (omega (arith, le))
since_insert a (e ∷ es) (suc at) p s le all low = (all.0, since_insert a es at p s (omega (arith, le)) all.1 low)

pub by_age_insert : (es : List (ℕ × ℕ)) (at p s : ℕ) → AreByAge es → age_of p es ≡ None → at ≤ length es → ((k : ℕ) (d : ℕ × ℕ) → k < at → (get_or es k d).1 ≤ s) → ((k : ℕ) (d : ℕ × ℕ) → at ≤ k → k < length es → s ≤ (get_or es k d).1) → AreByAge (insert es at (p, s))
by_age_insert es zero p s by none le below above = (all_since s es (λ k d lt. above k d (omega arith) lt), none, by)
by_age_insert [] (suc at) p s by none le below above = absurd (omega (arith, le))
by_age_insert (e ∷ es) (suc at) p s by none le below above =
    let other = other_first p e es none in
    let none_rest = sym (rest p e es other) ∙ none in (
      since_insert e.1 es at p s (omega (arith, le)) by.0 (below 0 e (omega arith)),
      age_insert es at p s none_rest (omega (arith, le)) e.0 ∙ no (eqb p e.0) (Some s) (age_of e.0 es) (isnt p e.0 other) ∙ by.1,
      by_age_insert es at p s by.2 none_rest (omega (arith, le)) (λ k d lt. below (suc k) d (omega (arith, lt))) (λ k d at_most lt. above (suc k) d (omega (arith, at_most)) (omega (arith, lt))),
    )

-- those up to one aren't younger
pub below_at : (es : List (ℕ × ℕ)) (m s : ℕ) (x : ℕ × ℕ) → AreByAge es → m < length es → (get_or es m x).1 ≤ s → (k : ℕ) (d : ℕ × ℕ) → k < m + 1 → (get_or es k d).1 ≤ s
below_at es m s x by inside le k d lt =
    ⊎_elim (λ same. subst (λ (n : ℕ). (get_or es n d).1 ≤ s) (sym same) (subst (λ (e : ℕ × ℕ). e.1 ≤ s) (get_or_default es m x d inside) le))
    (λ apart. let o = by_age_at es k m d x by (omega (arith, lt, apart)) inside in omega (arith, o, le))
    (same_or k m)

-- those from one on aren't older
pub above_at : (es : List (ℕ × ℕ)) (m s : ℕ) (x : ℕ × ℕ) → AreByAge es → m < length es → s < (get_or es m x).1 → (k : ℕ) (d : ℕ × ℕ) → m ≤ k → k < length es → s ≤ (get_or es k d).1
above_at es m s x by inside lt k d le less =
    ⊎_elim (λ same. subst (λ (n : ℕ). s ≤ (get_or es n d).1) (sym same) (subst (λ (e : ℕ × ℕ). s ≤ e.1) (get_or_default es m x d inside) (omega (arith, lt))))
    (λ apart. let o = by_age_at es m k x d by (omega (arith, le, apart)) less in omega (arith, o, lt))
    (same_or k m)

-- of a page that isn't there nothing changes
pub stays_out : (p q : ℕ) (es : List (ℕ × ℕ)) → age_of p es ≡ None → age_of q es ≡ cond (eqb p q) None (age_of q es)
stays_out p q es none =
    ⊎_elim (λ same. subst (λ (k : ℕ). age_of k es ≡ None) same none ∙ sym (yes (eqb p q) None (age_of q es) (is p q same)))
    (λ apart. sym (no (eqb p q) None (age_of q es) (isnt p q apart)))
    (same_or p q)
