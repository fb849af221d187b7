-- The sessions of a state, after one of them changes.
use Rattle.std.proofs.Common.{◌≡◌, ℕ, ◌==◌, Bool, true, false, cond, not, List, Some, None, refl, sym, ◌∙◌, ap}
use Rattle.std.specs.declared.cmp.Ordering.TheVariants.{Equal}
use Rattle.std.specs.Ordering.{nat_cmp, eq_by_cmp, is_eq}
use Rattle.std.specs.Cmp.{nat_cmp_total, unsigned_tied}
use Rattle.std.proofs.lemmas.Cmp.{tied_itself, nat_eq_equiv}
use Rattle.std.proofs.lemmas.Map.Lookups.{exact_unsigned}
use Rattle.std.specs.FinMap.Entries.{put, find, find-put, find-where_key}
use Rattle.ctr_model.specs.Maps.{without}

pub find-put-other : {X : Type 0} (s t : ℕ) (x : X) (es : List (ℕ × X)) → (s == t) ≡ false → find nat_cmp s (put nat_cmp t x es) ≡ find nat_cmp s es
find-put-other s t x es other = find-put nat_cmp nat_cmp_total s t x es ∙ ap (λ b. cond b (Some x) (find nat_cmp s es)) (unsigned_tied s t ∙ other)

pub find-put-same : {X : Type 0} (s : ℕ) (x : X) (es : List (ℕ × X)) → find nat_cmp s (put nat_cmp s x es) ≡ Some x
find-put-same s x es = find-put nat_cmp nat_cmp_total s s x es ∙ ap (λ o. cond (is_eq o) (Some x) (find nat_cmp s es)) (tied_itself nat_cmp_total s)

alike : (s q x : ℕ) → nat_cmp q x ≡ Equal → not (eq_by_cmp nat_cmp s x) ≡ not (eq_by_cmp nat_cmp s q)
alike s q x tie = ap (λ k. not (eq_by_cmp nat_cmp s k)) (sym (exact_unsigned q x tie))

swap : (s t : ℕ) → (t == s) ≡ (s == t)
swap s t = nat_eq_equiv.symm t s

pub find-without-other : {X : Type 0} (s t : ℕ) (es : List (ℕ × X)) → (s == t) ≡ false → find nat_cmp s (without nat_cmp t es) ≡ find nat_cmp s es
find-without-other s t es other =
    find-where_key nat_cmp (λ k. not (eq_by_cmp nat_cmp t k)) s (alike t s) es
    ∙ ap (λ b. cond (not b) (find nat_cmp s es) None) (unsigned_tied t s ∙ swap s t ∙ other)

pub find-without-same : {X : Type 0} (s : ℕ) (es : List (ℕ × X)) → find nat_cmp s (without nat_cmp s es) ≡ None
find-without-same s es =
    find-where_key nat_cmp (λ k. not (eq_by_cmp nat_cmp s k)) s (alike s s) es
    ∙ ap (λ o. cond (not (is_eq o)) (find nat_cmp s es) None) (tied_itself nat_cmp_total s)

-- the values of a key stay alike, whatever key is put in both or taken from both
pub find-put-alike : {X : Type 0} (s t : ℕ) (x : X) (es fs : List (ℕ × X)) → find nat_cmp s es ≡ find nat_cmp s fs → find nat_cmp s (put nat_cmp t x es) ≡ find nat_cmp s (put nat_cmp t x fs)
find-put-alike s t x es fs same =
    find-put nat_cmp nat_cmp_total s t x es ∙ ap (λ f. cond (is_eq (nat_cmp s t)) (Some x) f) same ∙ sym (find-put nat_cmp nat_cmp_total s t x fs)

pub find-without-alike : {X : Type 0} (s t : ℕ) (es fs : List (ℕ × X)) → find nat_cmp s es ≡ find nat_cmp s fs → find nat_cmp s (without nat_cmp t es) ≡ find nat_cmp s (without nat_cmp t fs)
find-without-alike s t es fs same =
    find-where_key nat_cmp (λ k. not (eq_by_cmp nat_cmp t k)) s (alike t s) es
    ∙ ap (λ f. cond (not (eq_by_cmp nat_cmp t s)) f None) same
    ∙ sym (find-where_key nat_cmp (λ k. not (eq_by_cmp nat_cmp t k)) s (alike t s) fs)

-- a case for each answer of a test
pub known : {A : Type 0} (b : Bool) → (b ≡ true → A) → (b ≡ false → A) → A
known true at_true at_false = at_true refl
known false at_true at_false = at_false refl
