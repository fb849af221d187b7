-- The first cause of two lists.
use Rattle.std.proofs.Common.{◌≡◌, List, [], ◌∷◌, ◌++◌, Option, Some, None, refl, sym, ◌∙◌, ap, append_assoc}
use Rattle.ctr_types.specs.declared.tape.Refusal.{Refusal}
use Rattle.ctr_model.specs.Refusals.{first_of}

-- the first of two
abbrev pub either : Option Refusal → Option Refusal → Option Refusal
either early late = first_of (early ∷ late ∷ [])

first_of-one : (x : Option Refusal) → first_of (x ∷ []) ≡ x
first_of-one None = refl
first_of-one (Some r) = refl

pub first_of-append : (early late : List (Option Refusal)) → first_of (early ++ late) ≡ either (first_of early) (first_of late)
first_of-append [] late = sym (first_of-one (first_of late))
first_of-append (None ∷ rs) late = first_of-append rs late
first_of-append (Some r ∷ rs) late = refl

-- the first cause of four lists, by the first of each
pub first_of_four : (a b c d : List (Option Refusal)) {x y z w : Option Refusal} → x ≡ first_of a → y ≡ first_of b → z ≡ first_of c → w ≡ first_of d
    → either x (either y (either z w)) ≡ first_of (a ++ b ++ c ++ d)
first_of_four a b c d {x} {y} {z} {w} p q r s =
    (λ i. either (p i) (either (q i) (either (r i) (s i))))
    ∙ ap (λ o. either (first_of a) (either (first_of b) o)) (sym (first_of-append c d))
    ∙ ap (λ o. either (first_of a) o) (sym (first_of-append b (c ++ d)))
    ∙ sym (first_of-append a (b ++ (c ++ d)))
    ∙ ap first_of (sym (append_assoc a b (c ++ d)) ∙ sym (append_assoc (a ++ b) c d))
