-- The longest token at the front, by the first byte.
use Rattle.std.proofs.Common.{◌≡◌, ℕ, suc, ◌+◌, ◌<◌, ◌≤◌, false, List, [], ◌∷◌, ◌++◌, length, get_or, take, drop, None, Some, refl, sym, ap, ◌∙◌, subst, append_assoc, arith, length-append, length-drop, take-append-drop, length-take-le}
use Rattle.std.proofs.lemmas.List.{append_cancel_right}
use Rattle.std.specs.Prelude.{Option, IfSome, MatchOption}
use Rattle.std.specs.List.{AllByRecursion, flat_map}
use Rattle.ctr_model.specs.Texts.{doubled}
use Rattle.ctr_model.specs.Grammar.{IsPrintable, IsDigit, IsLetter, IsWordByte, IsSign, IsToken}
use Rattle.ctr_model.specs.Places.{NoneBegins}
use Rattle.ctr_lex.specs.One.{IsLongestToken}
use Rattle.ctr_lex.proofs.Lists.{All_take, All_most}
use Rattle.ctr_lex.proofs.ByFirst.{Kind, word, numeral, minus, text, sign, kind_of, no_empty_token, is_token}
use Rattle.ctr_lex.proofs.Texts.{behind, text_rest, text_closes, text_most, text_none}

-- a token at the front has the first byte
begun : (c : ℕ) (rest t after : List ℕ) → c ∷ rest ≡ t ++ after → IsToken t → (cs : List ℕ) × (t ≡ c ∷ cs) × Kind c cs × (rest ≡ cs ++ after)
begun c rest [] after e is = absurd (no_empty_token is)
begun c rest (d ∷ cs) after e is =
    let first : d ≡ c = cc in
    let behind : rest ≡ cs ++ after = cc in
    (cs, ap (λ (x : ℕ). x ∷ cs) first, subst (λ (x : ℕ). Kind x cs) first (kind_of d cs is), behind)

one_of : (c : ℕ) (rest : List ℕ) (n : ℕ) → n ≤ length rest → Kind c (take n rest) → ((cs after : List ℕ) → rest ≡ cs ++ after → Kind c cs → length cs ≤ n) → IsLongestToken (c ∷ rest) (suc n)
one_of c rest n within kind most = record {
  within = omega arith;
  token = is_token c (take n rest) kind;
  most = λ t after e is.
      let b = begun c rest t after e is in
      let fits = most b.0 after b.3 b.2 in
      omega (arith, ap length b.1, fits);
}

made : (c : ℕ) (rest : List ℕ) (n : ℕ) → n ≤ length rest → Kind c (take n rest) → ((cs after : List ℕ) → rest ≡ cs ++ after → Kind c cs → length cs ≤ n) → IsLongestToken (c ∷ rest) (1 + n)
made c rest n within kind most = let same : suc n ≡ 1 + n = omega arith in subst (IsLongestToken (c ∷ rest)) same (one_of c rest n within kind most)

none_begins : (c : ℕ) (rest : List ℕ) → ((cs after : List ℕ) → rest ≡ cs ++ after → Kind c cs → ⊥) → NoneBegins (c ∷ rest)
none_begins c rest none t after e is = let b = begun c rest t after e is in none b.0 after b.3 b.2

-- ---- a word

word_most : (c : ℕ) (rest cs after : List ℕ) (n : ℕ) → IsLetter c → (n < length rest → IsWordByte (get_or rest n 0) → ⊥) → rest ≡ cs ++ after → Kind c cs → length cs ≤ n
word_most c rest cs after n letter stops e (word first all) = All_most IsWordByte rest cs after n e all stops
word_most c rest cs after n letter stops e (numeral first all) = grind arith
word_most c rest cs after n letter stops e (minus first is) = grind arith
word_most c rest cs after n letter stops e (text first inner is all) = grind arith
word_most c rest cs after n letter stops e (sign first is) = grind arith

pub word_one : (c : ℕ) (rest : List ℕ) (n : ℕ) → IsLetter c → n ≤ length rest → ((k : ℕ) → k < n → IsWordByte (get_or rest k 0)) → (n < length rest → IsWordByte (get_or rest n 0) → ⊥) → IsLongestToken (c ∷ rest) (1 + n)
word_one c rest n letter within all stops = made c rest n within (word letter (All_take IsWordByte rest n within all)) (λ cs after e kind. word_most c rest cs after n letter stops e kind)

-- ---- an integer

numeral_most : (c : ℕ) (rest cs after : List ℕ) (n : ℕ) → IsDigit c → (n < length rest → IsDigit (get_or rest n 0) → ⊥) → rest ≡ cs ++ after → Kind c cs → length cs ≤ n
numeral_most c rest cs after n digit stops e (word first all) = grind arith
numeral_most c rest cs after n digit stops e (numeral first all) = All_most IsDigit rest cs after n e all stops
numeral_most c rest cs after n digit stops e (minus first is) = grind arith
numeral_most c rest cs after n digit stops e (text first inner is all) = grind arith
numeral_most c rest cs after n digit stops e (sign first is) = grind arith

pub numeral_one : (c : ℕ) (rest : List ℕ) (n : ℕ) → IsDigit c → n ≤ length rest → ((k : ℕ) → k < n → IsDigit (get_or rest k 0)) → (n < length rest → IsDigit (get_or rest n 0) → ⊥) → IsLongestToken (c ∷ rest) (1 + n)
numeral_one c rest n digit within all stops = made c rest n within (numeral digit (All_take IsDigit rest n within all)) (λ cs after e kind. numeral_most c rest cs after n digit stops e kind)

-- what follows a - in a token is digits, of which there is one
after_minus : (c : ℕ) (cs : List ℕ) → c ≡ 45 → Kind c cs → (0 < length cs) × AllByRecursion IsDigit cs
after_minus c cs at (word first all) = absurd (grind arith)
after_minus c cs at (numeral first all) = absurd (grind arith)
after_minus c cs at (minus first is) = is
after_minus c cs at (text first inner is all) = absurd (grind arith)
after_minus c cs at (sign first is) = absurd (grind arith)

pub minus_one : (c : ℕ) (rest : List ℕ) (n : ℕ) → c ≡ 45 → 0 < n → n ≤ length rest → ((k : ℕ) → k < n → IsDigit (get_or rest k 0)) → (n < length rest → IsDigit (get_or rest n 0) → ⊥) → IsLongestToken (c ∷ rest) (1 + n)
minus_one c rest n at more within all stops =
    let some : 0 < length (take n rest) = omega (arith, length-take-le n rest within) in
    made c rest n within (minus at (some, All_take IsDigit rest n within all)) (λ cs after e kind. All_most IsDigit rest cs after n e (after_minus c cs at kind).1 stops)

pub minus_none : (c : ℕ) (rest : List ℕ) → c ≡ 45 → (0 < length rest → IsDigit (get_or rest 0 0) → ⊥) → NoneBegins (c ∷ rest)
minus_none c rest at stops =
    none_begins c rest (λ cs after e kind.
    let is = after_minus c cs at kind in
    let most : length cs ≤ 0 = All_most IsDigit rest cs after 0 e is.1 stops in
    omega (arith, is.0, most))

-- ---- a text

after_quote : (c : ℕ) (cs : List ℕ) → c ≡ 39 → Kind c cs → (inner : List ℕ) × (cs ≡ flat_map doubled inner ++ 39 ∷ []) × AllByRecursion IsPrintable inner
after_quote c cs at (word first all) = absurd (grind arith)
after_quote c cs at (numeral first all) = absurd (grind arith)
after_quote c cs at (minus first is) = absurd (grind arith)
after_quote c cs at (text first inner is all) = (inner, is, all)
after_quote c cs at (sign first is) = absurd (grind arith)

-- the quote behind a text, before what follows
quote_first : (rest cs after inner : List ℕ) → rest ≡ cs ++ after → cs ≡ flat_map doubled inner ++ 39 ∷ [] → rest ≡ flat_map doubled inner ++ 39 ∷ after
quote_first rest cs after inner e is = e ∙ ap (λ (l : List ℕ). l ++ after) is ∙ append_assoc (flat_map doubled inner) (39 ∷ []) after

text_one : (c : ℕ) (rest : List ℕ) (n : ℕ) → c ≡ 39 → n ≤ length rest → text_rest false None rest ≡ Some (drop n rest) → IsLongestToken (c ∷ rest) (1 + n)
text_one c rest n at within found =
    let closes = text_closes rest (drop n rest) found in
    let inner = closes.0 in
    let regrouped : take n rest ++ drop n rest ≡ (flat_map doubled inner ++ 39 ∷ []) ++ drop n rest = take-append-drop n rest ∙ closes.1 ∙ sym (append_assoc (flat_map doubled inner) (39 ∷ []) (drop n rest)) in
    let front : take n rest ≡ flat_map doubled inner ++ 39 ∷ [] = append_cancel_right (take n rest) (flat_map doubled inner ++ 39 ∷ []) (drop n rest) regrouped in
    made c rest n within (text at inner front closes.2)
    (λ cs after e kind.
    let w = after_quote c cs at kind in
    let short : length (drop n rest) ≤ length after = text_most rest (drop n rest) w.0 after found (quote_first rest cs after w.0 e w.1) w.2 in
    omega (arith, short, length-drop n rest, ap length e, length-append cs after))

text_none_begins : (c : ℕ) (rest : List ℕ) → c ≡ 39 → text_rest false None rest ≡ None → NoneBegins (c ∷ rest)
text_none_begins c rest at found =
    none_begins c rest (λ cs after e kind.
    let w = after_quote c cs at kind in
    text_none rest w.0 after found (quote_first rest cs after w.0 e w.1) w.2)

-- the answer for what stands behind a quote
pub text_answer : (rest : List ℕ) (end : Option ℕ) → IfSome end (λ n. n ≤ length rest) → text_rest false None rest ≡ behind rest end → MatchOption end (NoneBegins (39 ∷ rest)) (λ n. IsLongestToken (39 ∷ rest) (1 + n))
text_answer rest None within found = text_none_begins 39 rest refl found
text_answer rest (Some n) within found = text_one 39 rest n refl within found

-- ---- a sign, and no token

after_sign : (c : ℕ) (cs : List ℕ) → IsSign c → Kind c cs → cs ≡ []
after_sign c cs at (word first all) = absurd (grind arith)
after_sign c cs at (numeral first all) = absurd (grind arith)
after_sign c cs at (minus first is) = absurd (grind arith)
after_sign c cs at (text first inner is all) = absurd (grind arith)
after_sign c cs at (sign first is) = is

pub sign_one : (c : ℕ) (rest : List ℕ) → IsSign c → IsLongestToken (c ∷ rest) 1
sign_one c rest at = one_of c rest 0 (omega arith) (sign at refl) (λ cs after e kind. omega (arith, ap length (after_sign c cs at kind)))

no_kind : (c : ℕ) (cs : List ℕ) → (IsLetter c → ⊥) → (IsDigit c → ⊥) → (c ≡ 45 → ⊥) → (c ≡ 39 → ⊥) → (IsSign c → ⊥) → Kind c cs → ⊥
no_kind c cs no_letter no_digit no_minus no_quote no_sign (word first all) = no_letter first
no_kind c cs no_letter no_digit no_minus no_quote no_sign (numeral first all) = no_digit first
no_kind c cs no_letter no_digit no_minus no_quote no_sign (minus first is) = no_minus first
no_kind c cs no_letter no_digit no_minus no_quote no_sign (text first inner is all) = no_quote first
no_kind c cs no_letter no_digit no_minus no_quote no_sign (sign first is) = no_sign first

pub nothing_begins : (c : ℕ) (rest : List ℕ) → (IsLetter c → ⊥) → (IsDigit c → ⊥) → (c ≡ 45 → ⊥) → (c ≡ 39 → ⊥) → (IsSign c → ⊥) → NoneBegins (c ∷ rest)
nothing_begins c rest no_letter no_digit no_minus no_quote no_sign =
    none_begins c rest (λ cs after e kind. no_kind c cs no_letter no_digit no_minus no_quote no_sign kind)
