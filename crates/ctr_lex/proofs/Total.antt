-- Each line is lexed, or has a first byte at which no token begins.
use Rattle.std.proofs.Common.{◌≡◌, ◌⊎◌, ℕ, zero, suc, ◌+◌, ◌-◌, ◌<◌, ◌≤◌, false, List, [], ◌∷◌, ◌++◌, length, get_or, take, drop, Option, Some, None, MatchOption, refl, sym, ap, ◌∙◌, subst, inl, inr, ⊎_elim, arith, append_assoc, length-append, length-drop}
use Rattle.std.specs.List.{flat_map}
use Rattle.std.proofs.Math.Seq.{drop-append_seam}
use Rattle.std.proofs.lemmas.Bool.{cases_lt}
use Rattle.ctr_model.specs.Texts.{doubled}
use Rattle.ctr_model.specs.Grammar.{IsBlank, IsDigit, IsCapital, IsLetter, IsWordByte, IsSign}
use Rattle.ctr_model.specs.Places.{NoneBegins}
use Rattle.ctr_lex.specs.declared.token.Token.{Token}
use Rattle.ctr_lex.specs.Tokens.{IsTakenApart}
use Rattle.ctr_lex.specs.One.{IsLongestToken}
use Rattle.ctr_lex.proofs.Texts.{text_rest, text_closes}
use Rattle.ctr_lex.proofs.Ones.{word_one, numeral_one, minus_one, minus_none, text_answer, sign_one, nothing_begins}
use Rattle.ctr_lex.proofs.Fronts.{IsFront, front_none, front_blanks, front_token, front_end, front_bad, behind_blanks, token_long}

-- ---- tests of a byte

abbrev Or_not : Type 0 → Type 0
Or_not P = P ⊎ (P → ⊥)

below_or : (m n : ℕ) → Or_not (m ≤ n)
below_or m n = ⊎_elim (λ (above : n < m). inr (λ (h : m ≤ n). absurd (omega arith))) (λ (h : m ≤ n). inl h) (cases_lt n m)

both_or : (P Q : Type 0) → Or_not P → Or_not Q → Or_not (P × Q)
both_or P Q (inl p) (inl q) = inl (p, q)
both_or P Q (inl p) (inr q) = inr (λ h. q h.1)
both_or P Q (inr p) q = inr (λ h. p h.0)

either_or : (P Q : Type 0) → Or_not P → Or_not Q → Or_not (P ⊎ Q)
either_or P Q (inl p) q = inl (inl p)
either_or P Q (inr p) (inl q) = inl (inr q)
either_or P Q (inr p) (inr q) = inr (λ h. ⊎_elim p q h)

same_or : (m n : ℕ) → Or_not (m ≡ n)
same_or m n =
    elim (both_or (m ≤ n) (n ≤ m) (below_or m n) (below_or n m)) [
      | inl h ↦ inl (omega (arith, h.0, h.1))
      | inr h ↦ inr (λ (e : m ≡ n). h (omega arith, omega arith))
    ]

between_or : (low high c : ℕ) → Or_not ((low ≤ c) × (c ≤ high))
between_or low high c = both_or (low ≤ c) (c ≤ high) (below_or low c) (below_or c high)

blank_or : (c : ℕ) → Or_not (IsBlank c)
blank_or c = either_or (c ≡ 32) (c ≡ 9) (same_or c 32) (same_or c 9)

digit_or : (c : ℕ) → Or_not (IsDigit c)
digit_or c = between_or 48 57 c

letter_or : (c : ℕ) → Or_not (IsLetter c)
letter_or c = either_or (IsCapital c) (((97 ≤ c) × (c ≤ 122)) ⊎ (c ≡ 95)) (between_or 65 90 c) (either_or ((97 ≤ c) × (c ≤ 122)) (c ≡ 95) (between_or 97 122 c) (same_or c 95))

word_or : (c : ℕ) → Or_not (IsWordByte c)
word_or c = either_or (IsLetter c) (IsDigit c) (letter_or c) (digit_or c)

one_of_or : (c a : ℕ) (P : Type 0) → Or_not P → Or_not ((c ≡ a) ⊎ P)
one_of_or c a P p = either_or (c ≡ a) P (same_or c a) p

sign_or : (c : ℕ) → Or_not (IsSign c)
sign_or c = one_of_or c 62 _ (one_of_or c 59 _ (one_of_or c 40 _ (one_of_or c 41 _ (one_of_or c 44 _ (one_of_or c 61 _ (one_of_or c 43 _ (same_or c 42)))))))

-- ---- how long bytes go on in one class

pub record Run (P : ℕ → Type 0) (bytes : List ℕ) : Type 0 where
  pub len : ℕ
  pub within : len ≤ length bytes
  pub all : (k : ℕ) → k < len → P (get_or bytes k 0)
  pub stops : len < length bytes → P (get_or bytes len 0) → ⊥

no_run : (P : ℕ → Type 0) (bytes : List ℕ) → (0 < length bytes → P (get_or bytes 0 0) → ⊥) → Run P bytes
no_run P bytes stops = record { len = 0; within = omega arith; all = λ k h. absurd (omega arith); stops = stops }

first : (P : ℕ → Type 0) (c : ℕ) (cs : List ℕ) (n : ℕ) → P c → ((k : ℕ) → k < n → P (get_or cs k 0)) → (k : ℕ) → k < suc n → P (get_or (c ∷ cs) k 0)
first P c cs n p all zero h = p
first P c cs n p all (suc k) h = all k (omega arith)

longer : (P : ℕ → Type 0) (c : ℕ) (cs : List ℕ) → P c → Run P cs → Run P (c ∷ cs)
longer P c cs p r = record {
  len = suc r.len;
  within = omega (arith, r.within);
  all = λ k h. first P c cs r.len p r.all k h;
  stops = λ h. r.stops (omega arith);
}

run : (P : ℕ → Type 0) → ((c : ℕ) → Or_not (P c)) → (bytes : List ℕ) → Run P bytes
run P test [] = no_run P [] (λ h. absurd (omega arith))
run P test (c ∷ cs) =
    elim (test c) [ inl p ↦ longer P c cs p (run P test cs) | inr p ↦ no_run P (c ∷ cs) (λ h. p) ]

-- ---- one token

abbrev One : List ℕ → Type 0
One bytes = ((n : ℕ) × IsLongestToken bytes n) ⊎ NoneBegins bytes

by_answer : (rest : List ℕ) (end : Option ℕ) → MatchOption end (NoneBegins (39 ∷ rest)) (λ n. IsLongestToken (39 ∷ rest) (1 + n)) → One (39 ∷ rest)
by_answer rest None none = inr none
by_answer rest (Some n) one = inl (1 + n, one)

text_by : (rest : List ℕ) (found : Option (List ℕ)) → text_rest false None rest ≡ found → One (39 ∷ rest)
text_by rest None e = by_answer rest None (text_answer rest None tt e)
text_by rest (Some r) e =
    let closes = text_closes rest r e in
    let front : List ℕ = flat_map doubled closes.0 ++ 39 ∷ [] in
    let whole : rest ≡ front ++ r = closes.1 ∙ sym (append_assoc (flat_map doubled closes.0) (39 ∷ []) r) in
    let back : drop (length front) rest ≡ r = ap (drop (length front)) whole ∙ drop-append_seam front r in
    by_answer rest (Some (length front)) (text_answer rest (Some (length front)) (omega (arith, ap length whole, length-append front r)) (e ∙ ap (λ l. Some l) (sym back)))

minus_by : (rest : List ℕ) (r : Run IsDigit rest) (n : ℕ) → r.len ≡ n → One (45 ∷ rest)
minus_by rest r zero e = inr (minus_none 45 rest refl (λ some digit. r.stops (omega arith) (subst (λ k. IsDigit (get_or rest k 0)) (sym e) digit)))
minus_by rest r (suc n) e = inl (1 + r.len, minus_one 45 rest r.len refl (omega arith) r.within r.all r.stops)

one_at : (c : ℕ) (rest : List ℕ) → One (c ∷ rest)
one_at c rest = elim (letter_or c) [
  | inl is ↦ (let r = run IsWordByte word_or rest in inl (1 + r.len, word_one c rest r.len is r.within r.all r.stops))
  | inr no_letter ↦ elim (digit_or c) [
    | inl is ↦ (let r = run IsDigit digit_or rest in inl (1 + r.len, numeral_one c rest r.len is r.within r.all r.stops))
    | inr no_digit ↦ elim (same_or c 45) [
      | inl is ↦ subst (λ x. One (x ∷ rest)) (sym is) (let r = run IsDigit digit_or rest in minus_by rest r r.len refl)
      | inr no_minus ↦ elim (same_or c 39) [
        | inl is ↦ subst (λ x. One (x ∷ rest)) (sym is) (text_by rest (text_rest false None rest) refl)
        | inr no_quote ↦ elim (sign_or c) [
          | inl is ↦ inl (1, sign_one c rest is)
          | inr no_sign ↦ inr (nothing_begins c rest no_letter no_digit no_minus no_quote no_sign)
        ]
      ]
    ]
  ]
]

-- ---- a line

-- a token of these bytes at this place
made : List ℕ → ℕ → Token
made text at = record { text = record { ref_ptr = (0, 0); now = text }; at = at }

token_by : (from : List ℕ) → 0 < length from → One from
token_by [] some = absurd (omega arith)
token_by (c ∷ cs) some = one_at c cs

further : (line from : List ℕ) (ts : List Token) → IsFront line ts from → (IsBlank (get_or from 0 0) → ⊥) → 0 < length from
    → ((after : List ℕ) (us : List Token) → length after < length from → IsFront line us after → IsTakenApart line) → One from → IsTakenApart line
unfolding made
further line from ts front no_blank some again (inl one) =
    let n = one.0 in
    let t = made (take n from) (length line - length from) in
    let long : 0 < n = token_long from n one.1.token in
    again (drop n from) (ts ++ t ∷ []) (omega (arith, length-drop n from, long)) (front_token line from (drop n from) ts t n front one.1 refl refl refl)
further line from ts front no_blank some again (inr none) =
    (ts, Some (length line - length from), front_bad line from ts front some no_blank none, front.at)

end_or : (line from : List ℕ) (ts : List Token) → IsFront line ts from → (0 < length from → IsBlank (get_or from 0 0) → ⊥)
    → ((after : List ℕ) (us : List Token) → length after < length from → IsFront line us after → IsTakenApart line) → (0 < length from) ⊎ (length from ≤ 0) → IsTakenApart line
end_or line from ts front no_blank again (inl some) = further line from ts front (no_blank some) some again (token_by from some)
end_or line from ts front no_blank again (inr none) = (ts, None, front_end line from ts front (omega arith), front.at)

goes : (fuel : ℕ) (line rest : List ℕ) (ts : List Token) → length rest < fuel → IsFront line ts rest → IsTakenApart line
goes zero line rest ts short front = absurd (omega arith)
goes (suc fuel) line rest ts short front =
    let blanks = run IsBlank blank_or rest in
    let from = drop blanks.len rest in
    let shorter : length from ≤ length rest = omega (arith, length-drop blanks.len rest) in
    end_or line from ts (front_blanks line rest from ts blanks.len front blanks.within blanks.all refl)
    (behind_blanks rest from blanks.len blanks.within refl blanks.stops)
    (λ after us less next. goes fuel line after us (omega (arith, less, shorter, short)) next) (cases_lt 0 (length from))

pub each_taken : (line : List ℕ) → IsTakenApart line
each_taken line = goes (suc (length line)) line line [] (omega arith) (front_none line)
