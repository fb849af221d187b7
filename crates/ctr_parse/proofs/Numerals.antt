-- What a numeral is, by tests and by std's words.
use Rattle.std.proofs.Common.{◌≡◌, ◌≢◌, ℕ, zero, suc, ◌<◌, ◌^◌, ℤ, pos, neg_ℤ, Bool, true, false, List, [], ◌∷◌, length, get_or, Some, None, Result, Ok, Err, w64, refl, sym, ap, ◌∙◌, subst, rules, arith, nat_lt, nat_le}
use Rattle.std.specs.Prelude.{◌&&◌, ◌==◌, if◌then◌else◌}
use Rattle.std.specs.List.{list_all}
use Rattle.std.specs.Result.{OkIff, result_ok}
use Rattle.std.specs.Str.{IsAscii, IsUtf8}
use Rattle.std.specs.Str.Parse.{digits_value, ParsesSigned}
use Rattle.std.proofs.lemmas.Bool.{and_parts, and_from, eqb-true, eqb-false}
use Rattle.std.proofs.lemmas.Bool.Decides.{nat_tests}
use Rattle.std.proofs.lemmas.Fmt.{IsAscii-from_digits}
use Rattle.std.proofs.lemmas.Str.{IsUtf8-from_ascii}
use Rattle.std.proofs.lemmas.Str.Parse.{IsNumeralModel, numerals_by_value, parse_signed_plain, parse_signed_minus}
use Rattle.ctr_parse.specs.Spelled.{is_digit, is_numeral, below_zero, negative_of, positive_of, int_of}

pub are_digits : IsNumeralModel (λ ds. list_all is_digit ds ≡ true) (digits_value 10)
are_digits = numerals_by_value _ (search rules)

pub numeral_is : (ds : List ℕ) → is_numeral ds ≡ true → (list_all is_digit ds ≡ true) × (0 < length ds)
numeral_is [] h = cc
numeral_is (d ∷ ds) h = (h, omega arith)

pub numeral_from : (ds : List ℕ) → list_all is_digit ds ≡ true → 0 < length ds → is_numeral ds ≡ true
numeral_from [] h more = absurd (omega arith)
numeral_from (d ∷ ds) h more = h

minus_of : (n : ℕ) → neg_ℤ (pos n) ≡ below_zero n
minus_of zero = refl
minus_of (suc n) = refl

-- a result that is there exactly where a test passes
by_test : {E : Type 0} (r : Result ℤ E) (P : Type 0) (x : ℤ) (b : Bool) → OkIff r P x → (b ≡ true → P) → (P → b ≡ true) → result_ok r ≡ (if b then Some x else None)
by_test (Ok y) P x true h to from = ap (λ v. Some v) h.1
by_test (Ok y) P x false h to from = let e = from h.0 in cc
by_test (Err e) P x true h to from = absurd (h (to refl))
by_test (Err e) P x false h to from = refl

negative : {E : Type 0} (cs : List ℕ) (r : Result ℤ E) → ParsesSigned w64 10 (45 ∷ cs) r → result_ok r ≡ negative_of cs
negative cs r h =
    let n = digits_value 10 cs in
    by_test r _ (neg_ℤ (pos n)) (is_numeral cs && nat_le n (2 ^ 63)) (parse_signed_minus are_digits w64 (45 ∷ cs) r h refl)
    (λ e. let p = and_parts _ _ e in let q = numeral_is cs p.0 in (q.0, q.1, grind (arith, nat_tests)))
    (λ q. and_from _ _ (numeral_from cs q.0 q.1) (grind (arith, nat_tests)))
    ∙ ap (λ v. if is_numeral cs && nat_le n (2 ^ 63) then Some v else None) (minus_of n)

positive : {E : Type 0} (text : List ℕ) (r : Result ℤ E) → ParsesSigned w64 10 text r → get_or text 0 0 ≢ 43 → get_or text 0 0 ≢ 45 → result_ok r ≡ positive_of text
positive text r h plus minus =
    let n = digits_value 10 text in
    by_test r _ (pos n) (is_numeral text && nat_lt n (2 ^ 63)) (parse_signed_plain are_digits w64 text r h plus minus)
    (λ e. let p = and_parts _ _ e in let q = numeral_is text p.0 in (q.0, q.1, grind (arith, nat_tests)))
    (λ q. and_from _ _ (numeral_from text q.0 q.1) (grind (arith, nat_tests)))

by_sign : {E : Type 0} (c : ℕ) (cs : List ℕ) (r : Result ℤ E) (b : Bool) → (c == 45) ≡ b → ParsesSigned w64 10 (c ∷ cs) r → c ≢ 43 → result_ok r ≡ (if b then negative_of cs else positive_of (c ∷ cs))
by_sign c cs r true e h plus = negative cs r (subst (λ x. ParsesSigned w64 10 (x ∷ cs) r) (eqb-true c 45 e) h)
by_sign c cs r false e h plus = positive (c ∷ cs) r h plus (eqb-false c 45 e)

-- what std reads is the number
pub parsed_is : {E : Type 0} (text : List ℕ) (r : Result ℤ E) → ParsesSigned w64 10 text r → get_or text 0 0 ≢ 43 → result_ok r ≡ int_of text
unfolding int_of
parsed_is [] r h plus = positive [] r h plus (λ e. cc)
parsed_is (c ∷ cs) r h plus = by_sign c cs r (c == 45) refl h plus

no_numeral : (ds : List ℕ) (b : Bool) → is_numeral ds ≡ b → (IsAscii ds → ⊥) → b ≡ false
no_numeral ds true h other = absurd (other (IsAscii-from_digits ds (are_digits.to ds (numeral_is ds h).0)))
no_numeral ds false h other = refl

behind_minus : (cs : List ℕ) → IsAscii cs → IsAscii (45 ∷ cs)
behind_minus cs h zero = omega arith
behind_minus cs h (suc i) = h i

other_sign : (c : ℕ) (cs : List ℕ) (b : Bool) → (c == 45) ≡ b → (IsAscii (c ∷ cs) → ⊥) → (if b then negative_of cs else positive_of (c ∷ cs)) ≡ None
other_sign c cs true e other = let no_digits = no_numeral cs (is_numeral cs) refl (λ h. other (subst (λ x. IsAscii (x ∷ cs)) (sym (eqb-true c 45 e)) (behind_minus cs h))) in rw no_digits refl
other_sign c cs false e other = let no_digits = no_numeral (c ∷ cs) (is_numeral (c ∷ cs)) refl other in rw no_digits refl

-- a number's bytes are ASCII
pub none_beyond : (text : List ℕ) → (IsUtf8 text → ⊥) → int_of text ≡ None
unfolding int_of
none_beyond [] other = refl
none_beyond (c ∷ cs) other = other_sign c cs (c == 45) refl (λ h. other (IsUtf8-from_ascii (c ∷ cs) h))
