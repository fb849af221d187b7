-- Lists of transactions: what is in them after a change, and that each comes once.
use Rattle.std.proofs.Common.{◌≡◌, ◌≢◌, ◌⊎◌, inl, inr, ⊎_elim, ℕ, ◌<◌, Bool, true, false, cond, eqb, List, [], ◌∷◌, ◌++◌, Option, None, Some, is_some, refl, sym, ap, subst, ◌∙◌, arith}
use Rattle.std.specs.Prelude.{unwrap_or}
use Rattle.std.proofs.lemmas.Bool.Decides.{eqb_tells}
use Rattle.ctr_meta.specs.Tables.{heads_at, is_in, without_xid, with_heads}
use Rattle.ctr_meta.specs.Kept.{EachOnce}

-- the test of one entry decides
if_true : {A : Type 0} (b : Bool) (x y : A) → b ≡ true → cond b x y ≡ x
if_true true x y e = refl
if_true false x y e = absurd cc

if_false : {A : Type 0} (b : Bool) (x y : A) → b ≡ false → cond b x y ≡ y
if_false true x y e = absurd cc
if_false false x y e = refl

not_in_none : (x : ℕ) (ps : List (ℕ × ℕ)) → is_in x ps ≡ false → heads_at x ps ≡ None
not_in_none x ps e = by (heads_at x ps) e
  where
    by : (o : Option ℕ) → is_some o ≡ false → o ≡ None
    by None e = refl
    by (Some h) e = absurd cc

pub absent : (x : ℕ) (ps : List (ℕ × ℕ)) → is_in x ps ≡ false → heads_at x ps ≡ None
absent x ps e = not_in_none x ps e

-- one of the first entry or of the others
pub in_first : (y : ℕ) (p : ℕ × ℕ) (ps : List (ℕ × ℕ)) → is_in y (p ∷ ps) ≡ true → (y ≡ p.0) ⊎ (is_in y ps ≡ true)
in_first y p ps e =
    ⊎_elim (λ w. inl w.1) (λ w. inr (sym (ap is_some (if_false (eqb y p.0) (Some p.1) (heads_at y ps) w.0)) ∙ e)) (eqb_tells y p.0)

pub in_head : (y : ℕ) (p : ℕ × ℕ) (ps : List (ℕ × ℕ)) → y ≡ p.0 → is_in y (p ∷ ps) ≡ true
in_head y p ps e = ⊎_elim (λ w. ap is_some (if_true (eqb y p.0) (Some p.1) (heads_at y ps) w.0)) (λ w. absurd (w.1 e)) (eqb_tells y p.0)

pub in_rest : (y : ℕ) (p : ℕ × ℕ) (ps : List (ℕ × ℕ)) → is_in y ps ≡ true → is_in y (p ∷ ps) ≡ true
in_rest y p ps e =
    ⊎_elim (λ w. ap is_some (if_true (eqb y p.0) (Some p.1) (heads_at y ps) w.0)) (λ w. ap is_some (if_false (eqb y p.0) (Some p.1) (heads_at y ps) w.0) ∙ e) (eqb_tells y p.0)

-- true or false
or_not : (b : Bool) → (b ≡ true) ⊎ (b ≡ false)
or_not true = inl refl
or_not false = inr refl

-- what follows from being in a list follows the other way from not being in it
pub still_out : (a b : Bool) → (a ≡ true → b ≡ true) → b ≡ false → a ≡ false
still_out true b h e = absurd (let t = h refl in cc)
still_out false b h e = refl

-- ---- without one

without_first : (x : ℕ) (p : ℕ × ℕ) (ps : List (ℕ × ℕ)) → x ≡ p.0 → without_xid x (p ∷ ps) ≡ ps
without_first x p ps e = ⊎_elim (λ w. if_true (eqb x p.0) ps (p ∷ without_xid x ps) w.0) (λ w. absurd (w.1 e)) (eqb_tells x p.0)

without_rest : (x : ℕ) (p : ℕ × ℕ) (ps : List (ℕ × ℕ)) → x ≢ p.0 → without_xid x (p ∷ ps) ≡ p ∷ without_xid x ps
without_rest x p ps ne = ⊎_elim (λ w. absurd (ne w.1)) (λ w. if_false (eqb x p.0) ps (p ∷ without_xid x ps) w.0) (eqb_tells x p.0)

pub in_without : (x y : ℕ) (ps : List (ℕ × ℕ)) → is_in y (without_xid x ps) ≡ true → is_in y ps ≡ true
in_without x y [] e = e
in_without x y (p ∷ ps) e =
    ⊎_elim (λ w. in_rest y p ps (sym (ap (is_in y) (without_first x p ps w.1)) ∙ e))
    (λ w. ⊎_elim (λ same. in_head y p ps same) (λ rest. in_rest y p ps (in_without x y ps rest))
    (in_first y p (without_xid x ps) (sym (ap (is_in y) (without_rest x p ps w.1)) ∙ e)))
    (eqb_tells x p.0)

pub once_without : (x : ℕ) (ps : List (ℕ × ℕ)) → EachOnce ps → EachOnce (without_xid x ps)
once_without x [] once = tt
once_without x (p ∷ ps) once =
    ⊎_elim (λ w. subst EachOnce (sym (without_first x p ps w.1)) once.1)
    (λ w. subst EachOnce (sym (without_rest x p ps w.1)) (still_out _ _ (in_without x p.0 ps) once.0, once_without x ps once.1))
    (eqb_tells x p.0)

-- it isn't there any more
pub gone : (x : ℕ) (ps : List (ℕ × ℕ)) → EachOnce ps → is_in x (without_xid x ps) ≡ false
gone x [] once = refl
gone x (p ∷ ps) once =
    ⊎_elim (λ w. ap (is_in x) (without_first x p ps w.1) ∙ ap (λ (k : ℕ). is_in k ps) w.1 ∙ once.0)
    (λ w. ap (is_in x) (without_rest x p ps w.1) ∙ ap is_some (if_false (eqb x p.0) (Some p.1) (heads_at x (without_xid x ps)) w.0) ∙ gone x ps once.1)
    (eqb_tells x p.0)

-- ---- with one more

more_in : (x h y : ℕ) (ps : List (ℕ × ℕ)) → is_in y (ps ++ (x, h) ∷ []) ≡ true → (is_in y ps ≡ true) ⊎ (y ≡ x)
more_in x h y [] e = ⊎_elim (λ same. inr same) (λ none. inl none) (in_first y (x, h) [] e)
more_in x h y (p ∷ ps) e =
    ⊎_elim (λ same. inl (in_head y p ps same))
    (λ rest. ⊎_elim (λ there. inl (in_rest y p ps there)) (λ same. inr same) (more_in x h y ps rest))
    (in_first y p (ps ++ (x, h) ∷ []) e)

pub in_more : (x h y : ℕ) (ps : List (ℕ × ℕ)) → is_in y (ps ++ (x, h) ∷ []) ≡ true → (is_in y ps ≡ true) ⊎ (y ≡ x)
in_more x h y ps e = more_in x h y ps e

out_of_both : (y : ℕ) (b : Bool) (A : Type 0) → (b ≡ true → A) → (A → ⊥) → b ≡ false
out_of_both y b A h nay = elim b as (λ v. (v ≡ true → A) → v ≡ false) [ true ↦ λ f. absurd (nay (f refl)) | false ↦ λ f. refl ] h

pub once_more : (x h : ℕ) (ps : List (ℕ × ℕ)) → EachOnce ps → is_in x ps ≡ false → EachOnce (ps ++ (x, h) ∷ [])
once_more x h [] once out = (refl, tt)
once_more x h (p ∷ ps) once out =
    let other : p.0 ≢ x = λ same. let there = in_head x p ps (sym same) in cc in (
      out_of_both p.0 (is_in p.0 (ps ++ (x, h) ∷ [])) ((is_in p.0 ps ≡ true) ⊎ (p.0 ≡ x)) (more_in x h p.0 ps) (λ w. ⊎_elim (λ there. let no = once.0 in cc) (λ same. other same) w),
      once_more x h ps once.1 (still_out _ _ (in_rest x p ps) out),
    )

-- ---- with other heads

set_first : (x h : ℕ) (p : ℕ × ℕ) (ps : List (ℕ × ℕ)) → x ≡ p.0 → with_heads x h (p ∷ ps) ≡ (p.0, h) ∷ ps
set_first x h p ps e = ⊎_elim (λ w. if_true (eqb x p.0) ((p.0, h) ∷ ps) (p ∷ with_heads x h ps) w.0) (λ w. absurd (w.1 e)) (eqb_tells x p.0)

set_rest : (x h : ℕ) (p : ℕ × ℕ) (ps : List (ℕ × ℕ)) → x ≢ p.0 → with_heads x h (p ∷ ps) ≡ p ∷ with_heads x h ps
set_rest x h p ps ne = ⊎_elim (λ w. absurd (ne w.1)) (λ w. if_false (eqb x p.0) ((p.0, h) ∷ ps) (p ∷ with_heads x h ps) w.0) (eqb_tells x p.0)

-- whether another is in a list is by the first key, or by the others
in_key : (y : ℕ) (p q : ℕ × ℕ) (ps qs : List (ℕ × ℕ)) → p.0 ≡ q.0 → is_in y ps ≡ is_in y qs → is_in y (p ∷ ps) ≡ is_in y (q ∷ qs)
in_key y p q ps qs same rest =
    ⊎_elim (λ w. in_head y p ps w.1 ∙ sym (in_head y q qs (w.1 ∙ same)))
    (λ w. ap is_some (if_false (eqb y p.0) (Some p.1) (heads_at y ps) w.0) ∙ rest ∙ sym (ap is_some (if_false (eqb y q.0) (Some q.1) (heads_at y qs) (sym (ap (eqb y) same) ∙ w.0))))
    (eqb_tells y p.0)

pub in_set : (x h y : ℕ) (ps : List (ℕ × ℕ)) → is_in y (with_heads x h ps) ≡ is_in y ps
in_set x h y [] = refl
in_set x h y (p ∷ ps) =
    ⊎_elim (λ w. ap (is_in y) (set_first x h p ps w.1) ∙ in_key y (p.0, h) p ps ps refl refl)
    (λ w. ap (is_in y) (set_rest x h p ps w.1) ∙ in_key y p p (with_heads x h ps) ps refl (in_set x h y ps))
    (eqb_tells x p.0)

pub once_set : (x h : ℕ) (ps : List (ℕ × ℕ)) → EachOnce ps → EachOnce (with_heads x h ps)
once_set x h [] once = tt
once_set x h (p ∷ ps) once =
    ⊎_elim (λ w. subst EachOnce (sym (set_first x h p ps w.1)) once)
    (λ w. subst EachOnce (sym (set_rest x h p ps w.1)) (in_set x h p.0 ps ∙ once.0, once_set x h ps once.1))
    (eqb_tells x p.0)

-- the heads of a transaction after those of one were set
pub heads_set : (x h : ℕ) (ps : List (ℕ × ℕ)) → is_in x ps ≡ true → heads_at x (with_heads x h ps) ≡ Some h
heads_set x h [] e = absurd cc
heads_set x h (p ∷ ps) e =
    ⊎_elim (λ w. ap (heads_at x) (set_first x h p ps w.1) ∙ if_true (eqb x p.0) (Some h) (heads_at x ps) w.0)
    (λ w. ap (heads_at x) (set_rest x h p ps w.1) ∙ if_false (eqb x p.0) (Some p.1) (heads_at x (with_heads x h ps)) w.0
    ∙ heads_set x h ps (⊎_elim (λ same. absurd (w.1 same)) (λ rest. rest) (in_first x p ps e)))
    (eqb_tells x p.0)

pub heads_other : (x h y : ℕ) (ps : List (ℕ × ℕ)) → x ≢ y → heads_at y (with_heads x h ps) ≡ heads_at y ps
heads_other x h y [] ne = refl
heads_other x h y (p ∷ ps) ne =
    ⊎_elim (λ w. let other : eqb y p.0 ≡ false = ⊎_elim (λ v. absurd (ne (w.1 ∙ sym v.1))) (λ v. v.0) (eqb_tells y p.0) in
    ap (heads_at y) (set_first x h p ps w.1) ∙ if_false (eqb y p.0) (Some h) (heads_at y ps) other ∙ sym (if_false (eqb y p.0) (Some p.1) (heads_at y ps) other))
    (λ w. ap (heads_at y) (set_rest x h p ps w.1) ∙ ap (λ (o : Option ℕ). cond (eqb y p.0) (Some p.1) o) (heads_other x h y ps ne))
    (eqb_tells x p.0)

-- of one that isn't there nothing is set
pub set_absent : (x h : ℕ) (ps : List (ℕ × ℕ)) → heads_at x ps ≡ None → with_heads x h ps ≡ ps
set_absent x h [] e = refl
set_absent x h (p ∷ ps) e =
    ⊎_elim (λ w. let there = sym (if_true (eqb x p.0) (Some p.1) (heads_at x ps) w.0) in cc)
    (λ w. set_rest x h p ps w.1 ∙ ap (λ (l : List (ℕ × ℕ)). p ∷ l) (set_absent x h ps (sym (if_false (eqb x p.0) (Some p.1) (heads_at x ps) w.0) ∙ e)))
    (eqb_tells x p.0)

-- one behind others isn't among them
pub once_before : (q : ℕ × ℕ) (ps qs : List (ℕ × ℕ)) → EachOnce (ps ++ q ∷ qs) → is_in q.0 ps ≡ false
once_before q [] qs once = refl
once_before q (p ∷ ps) qs once =
    let rest = once_before q ps qs once.1 in
    ⊎_elim (λ w. let no = once.0 in let there = ap (λ (k : ℕ). is_in k (ps ++ q ∷ qs)) w.1 ∙ no in let is = in_later q ps qs in cc)
    (λ w. ap is_some (if_false (eqb q.0 p.0) (Some p.1) (heads_at q.0 ps) w.0) ∙ rest)
    (eqb_tells q.0 p.0)
  where
    in_later : (q : ℕ × ℕ) (ps qs : List (ℕ × ℕ)) → is_in q.0 (ps ++ q ∷ qs) ≡ true
    in_later q [] qs = in_head q.0 q qs refl
    in_later q (p ∷ ps) qs = in_rest q.0 p (ps ++ q ∷ qs) (in_later q ps qs)

-- what has heads is there
pub some_there : (o : Option ℕ) → 0 < unwrap_or o 0 → is_some o ≡ true
some_there None lt = absurd (omega (arith, lt))
some_there (Some h) lt = refl
