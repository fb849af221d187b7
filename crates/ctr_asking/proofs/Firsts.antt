-- The first of refusals in their order.
use Rattle.std.proofs.Common.{◌≡◌, ℕ, List, [], ◌∷◌, ◌++◌, Option, Some, None, refl, sym, ◌∙◌, ap}
use Rattle.std.specs.Prelude.{is_some}
use Rattle.std.specs.Option.{option_map}
use Rattle.std.proofs.lemmas.Bool.{false≢true}
use Rattle.ctr_types.specs.declared.tape.Refusal.{Refusal}
use Rattle.ctr_model.specs.Refusals.{first_of}

none_is : (x : Refusal) → None ≡ Some x → ⊥
none_is x is = false≢true (ap is_some is)

-- one of the first list is the first of both
pub found_first : (xs ys : List (Option Refusal)) (why : Refusal) → Some why ≡ first_of xs → Some why ≡ first_of (xs ++ ys)
found_first [] ys why is = absurd (none_is why (sym is))
found_first (None ∷ xs) ys why is = found_first xs ys why is
found_first (Some x ∷ xs) ys why is = is

-- where there is none, the first of both is one of the second
pub passed_first : (xs ys : List (Option Refusal)) → None ≡ first_of xs → first_of ys ≡ first_of (xs ++ ys)
passed_first [] ys is = refl
passed_first (None ∷ xs) ys is = passed_first xs ys is
passed_first (Some x ∷ xs) ys is = absurd (none_is x is)

pub one_first : (o : Option Refusal) → first_of (o ∷ []) ≡ o
one_first None = refl
one_first (Some x) = refl

module _ (f g : ℕ → Refusal) (a b : Option ℕ) where
  -- of two
  pub first_of_two : (x : ℕ) → Some x ≡ a → Some (f x) ≡ first_of (option_map f a ∷ option_map g b ∷ [])
  first_of_two x is = ap (λ o. first_of (option_map f o ∷ option_map g b ∷ [])) is

  pub second_of_two : None ≡ a → option_map g b ≡ first_of (option_map f a ∷ option_map g b ∷ [])
  second_of_two none = sym (one_first (option_map g b)) ∙ ap (λ o. first_of (option_map f o ∷ option_map g b ∷ [])) none

-- of two lists whose first is none, both have none
pub parts_none : (xs ys : List (Option Refusal)) → first_of (xs ++ ys) ≡ None → (None ≡ first_of xs) × (first_of ys ≡ None)
parts_none [] ys is = (refl, is)
parts_none (None ∷ xs) ys is = parts_none xs ys is
parts_none (Some x ∷ xs) ys is = absurd (none_is x (sym is))
