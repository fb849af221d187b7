-- What a token means in its place, against the grammar.
use Rattle.std.proofs.Common.{◌≡◌, ◌⊎◌, ℕ, ◌+◌, ◌-◌, ◌≤◌, ℤ, pos, negsuc, Bool, true, false, not, List, [], ◌∷◌, Option, Some, None, map, codes, refl, sym, ap, ◌∙◌, subst, inl, inr, arith, nat_le}
use Rattle.std.specs.Prelude.{◌&&◌, ◌==◌, if◌then◌else◌}
use Rattle.std.specs.List.{AllByRecursion}
use Rattle.std.proofs.lemmas.Bool.{and_parts}
use Rattle.std.proofs.lemmas.Bool.Decides.{nat_tests}
use Rattle.ctr_types.specs.declared.value.Value.{Value}
use Rattle.ctr_types.specs.declared.value.Value.TheVariants as value
use Rattle.ctr_types.specs.declared.value.Column.{Column}
use Rattle.ctr_model.specs.State.{same_name, has_name}
use Rattle.ctr_model.specs.Grammar.{capital, literal, IsLetter, IsWord, IsNameSpelled, IsInteger, IsWide}
use Rattle.ctr_model.specs.Language.{MatchesPart}
use Rattle.ctr_parse.specs.declared.word.Verb.{Verb}
use Rattle.ctr_parse.specs.declared.word.Verb.TheVariants as verb
use Rattle.ctr_parse.specs.declared.word.Right.{Right}
use Rattle.ctr_parse.specs.declared.word.Right.TheVariants as right
use Rattle.ctr_parse.specs.Spelled.{is_digit, is_name, int_of, text_spelled}
use Rattle.ctr_parse.specs.Trees.{checked, first_some, mapped, and_then, keyword_of, sign_of, name_of, literal_of, right_of, comma_or_end, comma_or_where, int_or_text, room_within, room_of, fresh_of, verbs, verb_among, verb_of, session_of}
use Rattle.ctr_parse.proofs.Spellings.{same_Decides, name_is, name_from, not_is, int_is, int_from, text_is, text_from, no_int}

checked_true : (b : Bool) (u : Unit {0}) → checked b ≡ Some u → b ≡ true
checked_true true u e = refl
checked_true false u e = cc

passed : {X : Type 0} (b : Bool) (x y : X) → (if b then Some x else None) ≡ Some y → (b ≡ true) × (x ≡ y)
passed true x y e = (refl, cc)
passed false x y e = cc

-- ---- words and signs

pub key_means : (k t : List ℕ) (u : Unit {0}) → keyword_of k t ≡ Some u → map capital t ≡ k
unfolding keyword_of
key_means k t u e = sym ((same_Decides k (map capital t)).0 (checked_true _ u e))

pub means_key : (k t : List ℕ) → map capital t ≡ k → keyword_of k t ≡ Some tt
unfolding keyword_of
means_key k t e = ap checked ((same_Decides k (map capital t)).1 (sym e))

pub sign_means : (c : ℕ) (t : List ℕ) (u : Unit {0}) → sign_of c t ≡ Some u → t ≡ c ∷ []
unfolding sign_of
sign_means c t u e = (same_Decides t (c ∷ [])).0 (checked_true _ u e)

pub means_sign : (c : ℕ) (t : List ℕ) → t ≡ c ∷ [] → sign_of c t ≡ Some tt
unfolding sign_of
means_sign c t e = ap checked ((same_Decides t (c ∷ [])).1 e)

pub name_means : (t n : List ℕ) → name_of t ≡ Some n → (t ≡ n) × IsNameSpelled n
unfolding name_of
name_means t n e = let p = passed (is_name t) t n e in (p.1, subst IsNameSpelled p.1 (name_is t p.0))

pub means_name : (t n : List ℕ) → t ≡ n → IsNameSpelled n → name_of t ≡ Some n
unfolding name_of
means_name t n e is = let b : is_name t ≡ true = ap is_name e ∙ name_from n is in rw b (ap (λ x. Some x) e)

-- ---- values

either_is : {X Y Z : Type 0} (f : X → Z) (g : Y → Z) (o : Option X) (p : Option Y) (z : Z) → first_some (mapped f o) (mapped g p) ≡ Some z
    → ((x : X) × (o ≡ Some x) × (f x ≡ z)) ⊎ ((y : Y) × (o ≡ None) × (p ≡ Some y) × (g y ≡ z))
either_is f g None None z e = cc
either_is f g None (Some y) z e = let h : g y ≡ z = cc in inr (y, refl, refl, h)
either_is f g (Some x) p z e = let h : f x ≡ z = cc in inl (x, refl, h)

pub literal_means : (t : List ℕ) (v : Value) → literal_of t ≡ Some v → MatchesPart (literal v) t
unfolding literal_of
literal_means t v e =
    elim (either_is (λ z. value.Int z) (λ x. value.Chars x) (int_of t) (text_spelled t) v e) [
      | inl w ↦ subst (λ u. MatchesPart (literal u) t) w.2 (int_is t w.0 w.1)
      | inr w ↦ subst (λ u. MatchesPart (literal u) t) w.3 (text_is t w.0 w.2)
    ]

pub means_literal : (v : Value) (t : List ℕ) → MatchesPart (literal v) t → literal_of t ≡ Some v
unfolding literal_of
means_literal (value.Int z) t is = let e = int_from t z is.0 is.1 in rw e refl
means_literal (value.Chars x) t is = let e = no_int t x is in let f = text_from t x is in rw (e, f) refl

letter_no_int : (c : ℕ) (cs : List ℕ) → IsLetter c → int_of (c ∷ cs) ≡ None
unfolding int_of
letter_no_int c cs is =
    let minus : (c == 45) ≡ false = grind (arith, nat_tests) in
    let digit : is_digit c ≡ false = grind (arith, nat_tests) in
    rw (minus, digit) refl

letter_no_text : (c : ℕ) (cs : List ℕ) → IsLetter c → text_spelled (c ∷ cs) ≡ None
unfolding text_spelled
letter_no_text c cs is = let quote : (c == 39) ≡ false = grind (arith, nat_tests) in rw quote refl

word_no_literal : (t : List ℕ) → IsWord t → literal_of t ≡ None
unfolding literal_of
word_no_literal [] is = absurd is
word_no_literal (c ∷ cs) is = let e = letter_no_int c cs is.0 in let f = letter_no_text c cs is.0 in rw (e, f) refl

-- what an assignment's right side may begin with
abbrev pub StandsRight : Right → List ℕ → Type 0
StandsRight (right.Is v) t = MatchesPart (literal v) t
StandsRight (right.Of n) t = (t ≡ n) × IsNameSpelled n

pub right_means : (t : List ℕ) (r : Right) → right_of t ≡ Some r → StandsRight r t
unfolding right_of
right_means t r e =
    elim (either_is (λ v. right.Is v) (λ n. right.Of n) (literal_of t) (name_of t) r e) [
      | inl w ↦ subst (λ u. StandsRight u t) w.2 (literal_means t w.0 w.1)
      | inr w ↦ subst (λ u. StandsRight u t) w.3 (name_means t w.0 w.2)
    ]

pub means_right : (r : Right) (t : List ℕ) → StandsRight r t → right_of t ≡ Some r
unfolding right_of
means_right (right.Is v) t is = let e = means_literal v t is in rw e refl
means_right (right.Of n) t is =
    let e = ap literal_of is.0 ∙ word_no_literal n is.1.1 in
    let f = means_name t n is.0 is.1 in
    rw (e, f) refl

-- ---- one of two

two_tests : (a b r : Bool) → (if a then Some true else (if b then Some false else None)) ≡ Some r → ((r ≡ true) × (a ≡ true)) ⊎ ((r ≡ false) × (b ≡ true))
two_tests true b r e = let h : r ≡ true = cc in inl (h, refl)
two_tests false true r e = let h : r ≡ false = cc in inr (h, refl)
two_tests false false r e = cc

-- a comma, or a )
abbrev pub StandsComma : Bool → List ℕ → Type 0
StandsComma true t = t ≡ 44 ∷ []
StandsComma false t = t ≡ 41 ∷ []

pub comma_means : (t : List ℕ) (b : Bool) → comma_or_end t ≡ Some b → StandsComma b t
unfolding comma_or_end
comma_means t b e =
    elim (two_tests (same_name t (codes ",")) (same_name t (codes ")")) b e) [
      | inl w ↦ subst (λ r. StandsComma r t) (sym w.0) ((same_Decides t (codes ",")).0 w.1)
      | inr w ↦ subst (λ r. StandsComma r t) (sym w.0) ((same_Decides t (codes ")")).0 w.1)
    ]

pub means_comma : (b : Bool) (t : List ℕ) → StandsComma b t → comma_or_end t ≡ Some b
unfolding comma_or_end
means_comma true t e = ap comma_or_end e
means_comma false t e = ap comma_or_end e

-- a comma, or WHERE
abbrev pub StandsWhere : Bool → List ℕ → Type 0
StandsWhere true t = t ≡ 44 ∷ []
StandsWhere false t = map capital t ≡ codes "WHERE"

pub where_means : (t : List ℕ) (b : Bool) → comma_or_where t ≡ Some b → StandsWhere b t
unfolding comma_or_where
where_means t b e =
    elim (two_tests (same_name t (codes ",")) (same_name (codes "WHERE") (map capital t)) b e) [
      | inl w ↦ subst (λ r. StandsWhere r t) (sym w.0) ((same_Decides t (codes ",")).0 w.1)
      | inr w ↦ subst (λ r. StandsWhere r t) (sym w.0) (sym ((same_Decides (codes "WHERE") (map capital t)).0 w.1))
    ]

-- a keyword is no comma
no_comma : (t k : List ℕ) (b : Bool) → same_name t (44 ∷ []) ≡ b → map capital t ≡ k → (44 ∷ [] ≡ k → ⊥) → b ≡ false
no_comma t k true e is apart = absurd (apart (sym (ap (map capital) ((same_Decides t (44 ∷ [])).0 e)) ∙ is))
no_comma t k false e is apart = refl

pub means_where : (b : Bool) (t : List ℕ) → StandsWhere b t → comma_or_where t ≡ Some b
unfolding comma_or_where
means_where true t e = ap comma_or_where e
means_where false t e =
    let comma : same_name t (codes ",") ≡ false = no_comma t (codes "WHERE") _ refl e (λ h. cc) in
    rw (comma, e) refl

-- INT, or TEXT
abbrev pub StandsInt : Bool → List ℕ → Type 0
StandsInt true t = map capital t ≡ codes "INT"
StandsInt false t = map capital t ≡ codes "TEXT"

pub kind_means : (t : List ℕ) (b : Bool) → int_or_text t ≡ Some b → StandsInt b t
unfolding int_or_text
kind_means t b e =
    elim (two_tests (same_name (codes "INT") (map capital t)) (same_name (codes "TEXT") (map capital t)) b e) [
      | inl w ↦ subst (λ r. StandsInt r t) (sym w.0) (sym ((same_Decides (codes "INT") (map capital t)).0 w.1))
      | inr w ↦ subst (λ r. StandsInt r t) (sym w.0) (sym ((same_Decides (codes "TEXT") (map capital t)).0 w.1))
    ]

pub means_kind : (b : Bool) (t : List ℕ) → StandsInt b t → int_or_text t ≡ Some b
unfolding int_or_text
means_kind true t e = rw e refl
means_kind false t e = rw e refl

-- ---- rooms, new names, sessions

and_then_is : {X Y : Type 0} (o : Option X) (f : X → Option Y) (y : Y) → and_then o f ≡ Some y → (x : X) × (o ≡ Some x) × (f x ≡ Some y)
and_then_is None f y e = cc
and_then_is (Some x) f y e = (x, refl, e)

-- a number from 1 to 64
abbrev pub StandsRoom : ℕ → List ℕ → Type 0
StandsRoom n t = (1 ≤ n) × (n ≤ 64) × IsInteger t (pos n) × IsWide (pos n)

within_is : (z : ℤ) (n : ℕ) → room_within z ≡ Some n → (z ≡ pos n) × (1 ≤ n) × (n ≤ 64)
within_is (negsuc m) n e = cc
within_is (pos m) n e =
    let p = passed (nat_le 1 m && nat_le m 64) m n e in
    let q = and_parts (nat_le 1 m) (nat_le m 64) p.0 in
    let low : 1 ≤ m = grind (arith, nat_tests, q.0) in
    let high : m ≤ 64 = grind (arith, nat_tests, q.1) in
    (ap (λ x. pos x) p.1, omega (arith, p.1), omega (arith, p.1))

pub room_means : (t : List ℕ) (n : ℕ) → room_of t ≡ Some n → StandsRoom n t
unfolding room_of
room_means t n e =
    let a = and_then_is (int_of t) room_within n e in
    let w = within_is a.0 n a.2 in
    let i = subst (λ z. IsInteger t z × IsWide z) w.0 (int_is t a.0 a.1) in
    (w.1, w.2, i.0, i.1)

pub means_room : (n : ℕ) (t : List ℕ) → StandsRoom n t → room_of t ≡ Some n
unfolding room_of
means_room n t is =
    let e = int_from t (pos n) is.2 is.3 in
    let low : nat_le 1 n ≡ true = grind (arith, nat_tests) in
    let high : nat_le n 64 ≡ true = grind (arith, nat_tests) in
    rw (e, low, high) refl

pub fresh_means : (cs : List Column) (t n : List ℕ) → fresh_of cs t ≡ Some n → (t ≡ n) × IsNameSpelled n × (has_name n (map (λ c. c.name) cs) ≡ false)
unfolding fresh_of
fresh_means cs t n e =
    let p = passed (is_name t && not (has_name t (map (λ c. c.name) cs))) t n e in
    let q = and_parts (is_name t) (not (has_name t (map (λ c. c.name) cs))) p.0 in
    (p.1, subst IsNameSpelled p.1 (name_is t q.0), subst (λ x. has_name x (map (λ c. c.name) cs) ≡ false) p.1 (not_is _ q.1))

pub means_fresh : (cs : List Column) (t n : List ℕ) → t ≡ n → IsNameSpelled n → has_name n (map (λ c. c.name) cs) ≡ false → fresh_of cs t ≡ Some n
unfolding fresh_of
means_fresh cs t n e is new =
    let b = name_from n is in
    ap (fresh_of cs) e ∙ rw (b, new) refl

-- a session from 1 to 8, in one digit
abbrev pub StandsSession : ℕ → List ℕ → Type 0
StandsSession s t = (1 ≤ s) × (s ≤ 8) × (t ≡ (48 + s) ∷ [])

pub session_means : (t : List ℕ) (s : ℕ) → session_of t ≡ Some s → StandsSession s t
unfolding session_of
session_means [] s e = cc
session_means (c ∷ []) s e =
    let p = passed (nat_le 49 c && nat_le c 56) (c - 48) s e in
    let q = and_parts (nat_le 49 c) (nat_le c 56) p.0 in
    let low : 49 ≤ c = grind (arith, nat_tests, q.0) in
    let high : c ≤ 56 = grind (arith, nat_tests, q.1) in
    let same : c ≡ 48 + s = omega (arith, p.1) in
    (omega (arith, p.1), omega (arith, p.1), ap (λ x. x ∷ []) same)
session_means (c ∷ d ∷ ds) s e = cc

pub means_session : (s : ℕ) (t : List ℕ) → StandsSession s t → session_of t ≡ Some s
unfolding session_of
means_session s t is =
    let low : nat_le 49 (48 + s) ≡ true = grind (arith, nat_tests) in
    let high : nat_le (48 + s) 56 ≡ true = grind (arith, nat_tests) in
    let same : 48 + s - 48 ≡ s = omega arith in
    ap session_of is.2 ∙ rw (low, high, same) refl

-- ---- verbs

-- the word of a verb
abbrev pub word_of : Verb → List ℕ
word_of verb.Begin = codes "BEGIN"
word_of verb.Commit = codes "COMMIT"
word_of verb.Rollback = codes "ROLLBACK"
word_of verb.Create = codes "CREATE"
word_of verb.Remove = codes "DROP"
word_of verb.Insert = codes "INSERT"
word_of verb.Select = codes "SELECT"
word_of verb.Update = codes "UPDATE"
word_of verb.Delete = codes "DELETE"

first_or : {X : Type 0} (b : Bool) (x y : X) (other : Option X) → (if b then Some x else other) ≡ Some y → ((b ≡ true) × (x ≡ y)) ⊎ (other ≡ Some y)
first_or true x y other e = let h : x ≡ y = cc in inl (refl, h)
first_or false x y other e = inr e

among_is : (w : List ℕ) (vs : List (List ℕ × Verb)) (v : Verb) → AllByRecursion (λ (p : List ℕ × Verb). p.0 ≡ word_of p.1) vs → verb_among w vs ≡ Some v → w ≡ word_of v
among_is w [] v all e = cc
among_is w (p ∷ vs) v all e =
    elim (first_or (same_name p.0 w) p.1 v (verb_among w vs) e) [
      | inl h ↦ sym ((same_Decides p.0 w).0 h.0) ∙ all.0 ∙ ap word_of h.1
      | inr h ↦ among_is w vs v all.1 h
    ]

pub verb_means : (t : List ℕ) (v : Verb) → verb_of t ≡ Some v → map capital t ≡ word_of v
unfolding verb_of
verb_means t v e = among_is (map capital t) verbs v (refl, (refl, (refl, (refl, (refl, (refl, (refl, (refl, (refl, tt))))))))) e

word_found : (v : Verb) → verb_among (word_of v) verbs ≡ Some v
word_found verb.Begin = refl
word_found verb.Commit = refl
word_found verb.Rollback = refl
word_found verb.Create = refl
word_found verb.Remove = refl
word_found verb.Insert = refl
word_found verb.Select = refl
word_found verb.Update = refl
word_found verb.Delete = refl

pub means_verb : (v : Verb) (t : List ℕ) → map capital t ≡ word_of v → verb_of t ≡ Some v
unfolding verb_of
means_verb v t e = ap (λ w. verb_among w verbs) e ∙ word_found v
