-- The kinds of tokens, by their first byte.
use Rattle.std.proofs.Common.{◌≡◌, ℕ, zero, suc, ℤ, pos, negsuc, List, [], ◌∷◌, ◌++◌, refl, sym, subst, inl, inr, arith}
use Rattle.std.specs.List.{AllByRecursion, flat_map}
use Rattle.std.specs.Str.Parse.{digits_value}
use Rattle.ctr_model.specs.Texts.{doubled}
use Rattle.ctr_model.specs.Grammar.{IsBlank, IsPrintable, IsDigit, IsLetter, IsWordByte, IsSign, IsNumeral, IsInteger, IsToken}

-- what stands behind the first byte of a token, by that byte
pub data Kind (c : ℕ) (cs : List ℕ) : Type 0 where
  word : IsLetter c → AllByRecursion IsWordByte cs → Kind c cs
  numeral : IsDigit c → AllByRecursion IsDigit cs → Kind c cs
  minus : c ≡ 45 → IsNumeral cs → Kind c cs
  text : c ≡ 39 → (inner : List ℕ) → cs ≡ flat_map doubled inner ++ 39 ∷ [] → AllByRecursion IsPrintable inner → Kind c cs
  sign : IsSign c → cs ≡ [] → Kind c cs

integer_kind : (c : ℕ) (cs : List ℕ) (z : ℤ) → IsInteger (c ∷ cs) z → Kind c cs
integer_kind c cs (pos n) is =
    elim is [
      | inl w ↦ numeral w.0.1.0 w.0.1.1
      | inr w ↦ let first : c ≡ 45 = cc (w.1) in let rest : w.0 ≡ cs = cc (w.1) in minus first (subst IsNumeral rest w.2)
    ]
integer_kind c cs (negsuc n) w =
    let first : c ≡ 45 = cc (w.1) in
    let rest : w.0 ≡ cs = cc (w.1) in
    minus first (subst IsNumeral rest w.2)

pub kind_of : (c : ℕ) (cs : List ℕ) → IsToken (c ∷ cs) → Kind c cs
kind_of c cs is =
    elim is [
      | inl w ↦ word w.0 w.1
      | inr other ↦ elim other [
        | inl w ↦ integer_kind c cs w.0 w.1
        | inr more ↦ elim more [
          | inl w ↦ let first : c ≡ 39 = cc (w.1.0) in let rest : cs ≡ flat_map doubled w.0 ++ 39 ∷ [] = cc (w.1.0) in text first w.0 rest w.1.1
          | inr w ↦ let first : w.0 ≡ c = cc (w.2) in let rest : cs ≡ [] = cc (w.2) in sign (subst IsSign first w.1) rest
        ]
      ]
    ]

empty_integer : (z : ℤ) → IsInteger [] z → ⊥
empty_integer (pos n) is = elim is [ inl w ↦ omega (arith, w.0.0) | inr w ↦ cc (w.1) ]
empty_integer (negsuc n) w = cc (w.1)

pub no_empty_token : IsToken [] → ⊥
no_empty_token is =
    elim is [
      | inl w ↦ w
      | inr other ↦ elim other [ inl w ↦ empty_integer w.0 w.1 | inr more ↦ elim more [ inl w ↦ cc (w.1.0) | inr w ↦ cc (w.2) ] ]
    ]

minus_integer : (ds : List ℕ) (n : ℕ) → digits_value 10 ds ≡ n → IsNumeral ds → (z : ℤ) × IsInteger (45 ∷ ds) z
minus_integer ds zero value is = (pos zero, inr (ds, refl, is, value, refl))
minus_integer ds (suc n) value is = (negsuc n, (ds, refl, is, omega (arith, value)))

pub is_token : (c : ℕ) (cs : List ℕ) → Kind c cs → IsToken (c ∷ cs)
is_token c cs (word first rest) = inl (first, rest)
is_token c cs (numeral first rest) = inr (inl (pos (digits_value 10 (c ∷ cs)), inl ((omega arith, (first, rest)), refl)))
is_token c cs (minus first rest) = subst (λ (d : ℕ). IsToken (d ∷ cs)) (sym first) (inr (inl (minus_integer cs (digits_value 10 cs) refl rest)))
is_token c cs (text first inner rest all) =
    let is : c ∷ cs ≡ 39 ∷ (flat_map doubled inner ++ 39 ∷ []) = cc in
    inr (inr (inl (inner, (is, all))))
is_token c cs (sign first rest) = let is : c ∷ cs ≡ c ∷ [] = cc in inr (inr (inr (c, first, is)))

-- no token begins with a blank
pub no_blank_first : (c : ℕ) (cs : List ℕ) → Kind c cs → IsBlank c → ⊥
no_blank_first c cs (word first rest) blank = grind arith
no_blank_first c cs (numeral first rest) blank = grind arith
no_blank_first c cs (minus first rest) blank = grind arith
no_blank_first c cs (text first inner rest all) blank = grind arith
no_blank_first c cs (sign first rest) blank = grind arith
