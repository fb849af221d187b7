-- The tests of a token's bytes against the grammar.
use Rattle.std.proofs.Common.{◌≡◌, ℕ, zero, suc, ◌<◌, ◌≤◌, ◌^◌, ℤ, pos, negsuc, Bool, true, false, not, List, [], ◌∷◌, ◌++◌, length, Option, Some, None, refl, sym, ap, ◌∙◌, subst, arith, nat_lt, nat_le, Decides, inl, inr, add-one, lit<, lit≤}
use Rattle.std.specs.Prelude.{◌&&◌, ◌==◌, if◌then◌else◌}
use Rattle.std.specs.List.{list_all, AllByRecursion, flat_map}
use Rattle.std.specs.Str.Parse.{digits_value}
use Rattle.std.proofs.lemmas.Bool.{and_parts, and_from, eqb-true}
use Rattle.std.proofs.lemmas.Bool.Decides.{nat_tests, Decides-and, Decides-or, Decides-eqb}
use Rattle.std.proofs.lemmas.Option.{same_Some}
use Rattle.std.proofs.lemmas.Slice.Eq.{slice_eq-Decides}
use Rattle.ctr_model.specs.State.{same_name}
use Rattle.ctr_model.specs.Texts.{doubled}
use Rattle.ctr_model.specs.Grammar.{IsDigit, IsLetter, IsWordByte, IsPrintable, IsWord, IsNumeral, IsInteger, IsWide, IsQuoted, IsNameSpelled}
use Rattle.ctr_parse.specs.Spelled.{is_between, is_digit, is_letter, is_word_byte, is_word, is_keyword, is_name, is_numeral, below_zero, negative_of, positive_of, int_of, with_bytes, unquoted, text_spelled}
use Rattle.ctr_parse.proofs.Numerals.{numeral_is, numeral_from}

pub same_Decides : (a b : List ℕ) → Decides (same_name a b) (a ≡ b)
same_Decides a b = slice_eq-Decides Decides-eqb a b (same_name a b) refl

pub all_Decides : {X : Type 0} (p : X → Bool) (P : X → Type 0) → ((x : X) → Decides (p x) (P x)) → (xs : List X) → Decides (list_all p xs) (AllByRecursion P xs)
all_Decides p P each [] = (λ _. tt, λ _. refl)
all_Decides p P each (x ∷ xs) = Decides-and (p x) (list_all p xs) (each x) (all_Decides p P each xs)

between_Decides : (low high c : ℕ) → Decides (is_between low high c) ((low ≤ c) × (c ≤ high))
between_Decides low high c = (λ h. (grind (arith, nat_tests), grind (arith, nat_tests)), λ h. grind (arith, nat_tests))

letter_Decides : (c : ℕ) → Decides (is_letter c) (IsLetter c)
letter_Decides c = Decides-or _ _ (between_Decides 65 90 c) (Decides-or _ _ (between_Decides 97 122 c) (Decides-eqb c 95))

word_byte_Decides : (c : ℕ) → Decides (is_word_byte c) (IsWordByte c)
word_byte_Decides c = Decides-or _ _ (letter_Decides c) (between_Decides 48 57 c)

word_Decides : (w : List ℕ) → Decides (is_word w) (IsWord w)
word_Decides [] = (λ h. cc, λ h. absurd h)
word_Decides (c ∷ cs) = Decides-and _ _ (letter_Decides c) (all_Decides is_word_byte IsWordByte word_byte_Decides cs)

-- ---- names

pub not_is : (b : Bool) → not b ≡ true → b ≡ false
not_is true h = cc
not_is false h = refl

pub not_from : (b : Bool) → b ≡ false → not b ≡ true
not_from b h = rw h refl

filled : (w : List ℕ) → IsWord w → 0 < length w
filled [] h = absurd h
filled (c ∷ cs) h = omega arith

pub name_is : (w : List ℕ) → is_name w ≡ true → IsNameSpelled w
unfolding is_name
name_is w h =
    let p = and_parts (is_word w) (nat_le (length w) 16 && not (is_keyword w)) h in
    let q = and_parts (nat_le (length w) 16) (not (is_keyword w)) p.1 in
    let word : IsWord w = (word_Decides w).0 p.0 in
    let short : length w ≤ 16 = grind (arith, nat_tests, q.0) in
    ((filled w word, short), word, not_is _ q.1)

pub name_from : (w : List ℕ) → IsNameSpelled w → is_name w ≡ true
unfolding is_name
name_from w h = and_from _ _ ((word_Decides w).1 h.1) (and_from _ _ (grind (arith, nat_tests, h.0.1)) (not_from _ h.2))

-- ---- integers

pub digits_Decides : (ds : List ℕ) → Decides (list_all is_digit ds) (AllByRecursion IsDigit ds)
digits_Decides ds = all_Decides is_digit IsDigit (between_Decides 48 57) ds

numeral_to : (ds : List ℕ) → is_numeral ds ≡ true → IsNumeral ds
numeral_to ds h = let p = numeral_is ds h in (p.1, (digits_Decides ds).0 p.0)

numeral_back : (ds : List ℕ) → IsNumeral ds → is_numeral ds ≡ true
numeral_back ds h = numeral_from ds ((digits_Decides ds).1 h.1) h.0

tested : {A : Type 0} (b : Bool) (x y : A) → (if b then Some x else None) ≡ Some y → (b ≡ true) × (x ≡ y)
tested true x y h = (refl, cc)
tested false x y h = cc

below : (ds : List ℕ) (n : ℕ) → IsNumeral ds → digits_value 10 ds ≡ n → n ≤ 2 ^ 63 → IsInteger (45 ∷ ds) (below_zero n) × IsWide (below_zero n)
below ds zero h e small = (inr (ds, refl, h, e, refl), lit< tt)
below ds (suc n) h e small = ((ds, refl, h, rw (e, add-one) refl), omega arith)

minus_is : (ds : List ℕ) (z : ℤ) → negative_of ds ≡ Some z → IsInteger (45 ∷ ds) z × IsWide z
minus_is ds z h =
    let t = tested _ _ _ h in
    let p = and_parts _ _ t.0 in
    let b = below ds (digits_value 10 ds) (numeral_to ds p.0) refl (grind (arith, nat_tests)) in
    subst (λ y. IsInteger (45 ∷ ds) y × IsWide y) t.1 b

plus_is : (ds : List ℕ) (z : ℤ) → positive_of ds ≡ Some z → IsInteger ds z × IsWide z
plus_is ds z h =
    let n = digits_value 10 ds in
    let t = tested (is_numeral ds && nat_lt n (2 ^ 63)) (pos n) z h in
    let p = and_parts (is_numeral ds) (nat_lt n (2 ^ 63)) t.0 in
    let wide : n < 2 ^ 63 = grind (arith, nat_tests) in
    let b : IsInteger ds (pos n) × IsWide (pos n) = (inl (numeral_to ds p.0, refl), wide) in
    subst (λ y. IsInteger ds y × IsWide y) t.1 b

sign_is : (c : ℕ) (cs : List ℕ) (z : ℤ) (b : Bool) → (c == 45) ≡ b → (if b then negative_of cs else positive_of (c ∷ cs)) ≡ Some z → IsInteger (c ∷ cs) z × IsWide z
sign_is c cs z true e h = subst (λ x. IsInteger (x ∷ cs) z × IsWide z) (sym (eqb-true c 45 e)) (minus_is cs z h)
sign_is c cs z false e h = plus_is (c ∷ cs) z h

pub int_is : (t : List ℕ) (z : ℤ) → int_of t ≡ Some z → IsInteger t z × IsWide z
unfolding int_of
int_is [] z h = cc
int_is (c ∷ cs) z h = sign_is c cs z (c == 45) refl h

minus_back : (ds : List ℕ) (n : ℕ) → IsNumeral ds → digits_value 10 ds ≡ n → n ≤ 2 ^ 63 → int_of (45 ∷ ds) ≡ Some (below_zero n)
unfolding int_of
minus_back ds n h e small = let is = numeral_back ds h in let le : nat_le n (2 ^ 63) ≡ true = grind (arith, nat_tests) in rw (is, e, le) refl

digit_first : (c : ℕ) (cs : List ℕ) → IsNumeral (c ∷ cs) → (c == 45) ≡ false
digit_first c cs h = let d : 48 ≤ c = h.1.0.0 in grind (arith, nat_tests)

plus_back : (ds : List ℕ) (n : ℕ) → IsNumeral ds → digits_value 10 ds ≡ n → n < 2 ^ 63 → int_of ds ≡ Some (pos n)
unfolding int_of
plus_back [] n h e small = absurd (omega (arith, h.0))
plus_back (c ∷ cs) n h e small =
    let no_minus = digit_first c cs h in
    let is = numeral_back (c ∷ cs) h in
    let lt : nat_lt n (2 ^ 63) ≡ true = grind (arith, nat_tests) in
    rw (no_minus, is, e, lt) refl

pub int_from : (t : List ℕ) (z : ℤ) → IsInteger t z → IsWide z → int_of t ≡ Some z
int_from t (pos n) (inl h) wide = plus_back t n h.0 h.1 wide
int_from t (pos n) (inr h) wide = subst (λ u. int_of u ≡ Some (pos n)) (sym h.1) (minus_back h.0 n h.2 h.3 (omega arith) ∙ ap (λ m. Some (below_zero m)) h.4 ∙ ap (λ m. Some (pos m)) (sym h.4))
int_from t (negsuc n) h wide = subst (λ u. int_of u ≡ Some (negsuc n)) (sym h.1) (minus_back h.0 (suc n) h.2 (h.3 ∙ add-one n) (omega arith))

-- ---- texts

printable_Decides : (c : ℕ) → Decides (is_between 32 126 c) (IsPrintable c)
printable_Decides c = between_Decides 32 126 c

with_is : (front text : List ℕ) (o : Option (List ℕ)) → with_bytes front o ≡ Some text → (rest : List ℕ) × (o ≡ Some rest) × (text ≡ front ++ rest)
with_is front text None h = cc
with_is front text (Some rest) h = (rest, refl, cc)

abbrev spelled : List ℕ → List ℕ
spelled text = flat_map doubled text ++ 39 ∷ []

doubled_quote : (text : List ℕ) → spelled (39 ∷ text) ≡ 39 ∷ 39 ∷ spelled text
doubled_quote text = refl

doubled_plain : (c : ℕ) (text : List ℕ) → (c == 39) ≡ false → spelled (c ∷ text) ≡ c ∷ spelled text
doubled_plain c text e = rw e refl

abbrev IsInner : List ℕ → List ℕ → Type 0
IsInner bytes text = (bytes ≡ spelled text) × AllByRecursion IsPrintable text

-- behind a second quote
abbrev IsRest : Bool → List ℕ → List ℕ → Type 0
IsRest false bytes text = IsInner bytes text
IsRest true bytes text = IsInner (39 ∷ bytes) text

one_quote : (cs text : List ℕ) (b : Bool) (c : ℕ) → (c == 39) ≡ b → (if b then with_bytes (39 ∷ []) (unquoted false cs) else None) ≡ Some text
    → ((t : List ℕ) → unquoted false cs ≡ Some t → IsInner cs t) → IsInner (39 ∷ c ∷ cs) text
one_quote cs text true c e h inner =
    let w = with_is (39 ∷ []) text (unquoted false cs) h in
    let r = inner w.0 w.1 in
    subst (λ t. IsInner (39 ∷ c ∷ cs) t) (sym w.2) (subst (λ x. IsInner (39 ∷ x ∷ cs) (39 ∷ w.0)) (sym (eqb-true c 39 e)) (ap (λ l. 39 ∷ 39 ∷ l) r.0, ((lit≤ tt, lit≤ tt), r.1)))
one_quote cs text false c e h inner = cc

one_plain : (cs text : List ℕ) (d : Bool) (c : ℕ) → (c == 39) ≡ false → is_between 32 126 c ≡ d → (if d then with_bytes (c ∷ []) (unquoted false cs) else None) ≡ Some text
    → ((t : List ℕ) → unquoted false cs ≡ Some t → IsInner cs t) → IsInner (c ∷ cs) text
one_plain cs text true c other e h inner =
    let w = with_is (c ∷ []) text (unquoted false cs) h in
    let r = inner w.0 w.1 in
    subst (λ t. IsInner (c ∷ cs) t) (sym w.2) (ap (λ l. c ∷ l) r.0 ∙ sym (doubled_plain c w.0 other), ((printable_Decides c).0 e, r.1))
one_plain cs text false c other e h inner = cc

one_byte : (cs text : List ℕ) (b : Bool) (c : ℕ) → (c == 39) ≡ b → (if b then unquoted true cs else (if is_between 32 126 c then with_bytes (c ∷ []) (unquoted false cs) else None)) ≡ Some text
    → ((t : List ℕ) → unquoted false cs ≡ Some t → IsInner cs t) → ((t : List ℕ) → unquoted true cs ≡ Some t → IsInner (39 ∷ cs) t) → IsInner (c ∷ cs) text
one_byte cs text true c e h inner closed = subst (λ x. IsInner (x ∷ cs) text) (sym (eqb-true c 39 e)) (closed text h)
one_byte cs text false c e h inner closed = one_plain cs text (is_between 32 126 c) c e refl h inner

rest_is : (closed : Bool) (bytes text : List ℕ) → unquoted closed bytes ≡ Some text → IsRest closed bytes text
rest_is true [] text h = subst (λ t. IsInner (39 ∷ []) t) (same_Some _ _ h) (refl, tt)
rest_is false [] text h = cc
rest_is true (c ∷ cs) text h = one_quote cs text (c == 39) c refl h (λ t. rest_is false cs t)
rest_is false (c ∷ cs) text h = one_byte cs text (c == 39) c refl h (λ t. rest_is false cs t) (λ t. rest_is true cs t)

quote_is : (c : ℕ) (cs text : List ℕ) (b : Bool) → (c == 39) ≡ b → (if b then unquoted false cs else None) ≡ Some text → IsQuoted (c ∷ cs) text
quote_is c cs text true e h = let r = rest_is false cs text h in subst (λ x. IsQuoted (x ∷ cs) text) (sym (eqb-true c 39 e)) (ap (λ l. 39 ∷ l) r.0, r.1)
quote_is c cs text false e h = cc

pub text_is : (t text : List ℕ) → text_spelled t ≡ Some text → IsQuoted t text
unfolding text_spelled
text_is [] text h = cc
text_is (c ∷ cs) text h = quote_is c cs text (c == 39) refl h

more_inner : (c : ℕ) (cs : List ℕ) (b : Bool) → (c == 39) ≡ b → IsPrintable c → unquoted false (spelled cs) ≡ Some cs → unquoted false (spelled (c ∷ cs)) ≡ Some (c ∷ cs)
more_inner c cs true e h rest = subst (λ x. unquoted false (spelled (x ∷ cs)) ≡ Some (x ∷ cs)) (sym (eqb-true c 39 e)) (ap (with_bytes (39 ∷ [])) rest)
more_inner c cs false e h rest = let printable = (printable_Decides c).1 h in rw (doubled_plain c cs e, e, printable, rest) refl

inner_from : (text : List ℕ) → AllByRecursion IsPrintable text → unquoted false (spelled text) ≡ Some text
inner_from [] h = refl
inner_from (c ∷ cs) h = more_inner c cs (c == 39) refl h.0 (inner_from cs h.1)

pub text_from : (t text : List ℕ) → IsQuoted t text → text_spelled t ≡ Some text
unfolding text_spelled
text_from t text h = subst (λ u. text_spelled u ≡ Some text) (sym h.0) (inner_from text h.1)

-- a text is no number
pub no_int : (t text : List ℕ) → IsQuoted t text → int_of t ≡ None
unfolding int_of
no_int t text h = subst (λ u. int_of u ≡ None) (sym h.0) refl
