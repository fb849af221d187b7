-- Lists of refusals whose first is the same.
use Rattle.std.proofs.Common.{◌≡◌, List, [], ◌∷◌, Option, Some, None, refl, ◌∙◌, ap}
use Rattle.std.specs.Prelude.{is_some}
use Rattle.std.specs.Option.{option_map}
use Rattle.std.proofs.lemmas.Bool.{true≢false}
use Rattle.ctr_types.specs.declared.tape.Refusal.{Refusal}
use Rattle.ctr_model.specs.Refusals.{first_of}

-- equal up to the first that isn't none
abbrev pub AreAlike : List (Option Refusal) → List (Option Refusal) → Type 0
AreAlike [] [] = Unit {0}
AreAlike [] (b ∷ bs) = ⊥
AreAlike (a ∷ as_) [] = ⊥
AreAlike (a ∷ as_) (b ∷ bs) = (a ≡ b) × (a ≡ None → AreAlike as_ bs)

pub first_alike : (rs us : List (Option Refusal)) → AreAlike rs us → first_of rs ≡ first_of us
first_alike [] [] alike = refl
first_alike [] (u ∷ us) alike = absurd alike
first_alike (r ∷ rs) [] alike = absurd alike
first_alike (None ∷ rs) (u ∷ us) alike = first_alike rs us (alike.1 refl) ∙ ap (λ o. first_of (o ∷ us)) alike.0
first_alike (Some why ∷ rs) (u ∷ us) alike = ap (λ o. first_of (o ∷ us)) alike.0

pub unmapped : {A B : Type 0} (f : A → B) (o : Option A) → option_map f o ≡ None → o ≡ None
unmapped f None is = refl
unmapped f (Some x) is = absurd (true≢false (ap is_some is))
