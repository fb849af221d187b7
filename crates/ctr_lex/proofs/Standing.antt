-- Which tokens of a line stand before others.
use Rattle.std.proofs.Common.{◌≡◌, ◌⊎◌, ℕ, List, [], ◌∷◌, ◌++◌, ◌<◌, length, take, drop, length-drop, arith, refl, sym, ap, ◌∙◌, subst, inl, inr, append_assoc, append-nil}
use Rattle.std.proofs.lemmas.List.{length-map, take_all, take-append-le}
use Rattle.std.specs.List.{AllByRecursion}
use Rattle.ctr_lex.specs.declared.token.Token.{Token}
use Rattle.ctr_model.specs.Grammar.{IsBlank, IsToken, IsLongest, Lexes}
use Rattle.ctr_model.specs.Places.{NoneBegins, LexesTo, IsBadAt, IsTokenAt}
use Rattle.ctr_lex.specs.Tokens.{texts_of, TokensStandInOrder}
use Rattle.ctr_lex.proofs.Lexing.{Begins, token_begins, one_front, first_token, token_or_blanks}
use Rattle.ctr_lex.proofs.Fronts.{IsFront, bad_begins}

-- the tokens that stand first are the same
pub heads : (p q t u a b line : List ℕ) → line ≡ (p ++ t) ++ a → line ≡ (q ++ u) ++ b → AllByRecursion IsBlank p → AllByRecursion IsBlank q → IsToken t → IsToken u → IsLongest t a → IsLongest u b → (t ≡ u) × (a ≡ b)
heads p q t u a b line e f all_p all_q is_t is_u longest_t longest_u = first_token p q t u a b (sym e ∙ f) all_p all_q is_t is_u longest_t longest_u

-- nothing follows, or a byte at which no token begins
abbrev pub Stops : List ℕ → Type 0
Stops q = (q ≡ []) ⊎ (Begins q × NoneBegins q)

no_token_here : (q p t a line : List ℕ) → line ≡ (p ++ t) ++ a → AllByRecursion IsBlank p → IsToken t → (blanks : List ℕ) → line ≡ blanks ++ q → AllByRecursion IsBlank blanks → Stops q → ⊥
no_token_here q p t a line e all_p is blanks f all (inl none) = token_or_blanks line p t a e is (subst (AllByRecursion IsBlank) (sym (f ∙ ap (λ l. blanks ++ l) none ∙ append-nil blanks)) all)
no_token_here q p t a line e all_p is blanks f all (inr stop) =
    stop.1 t a (one_front blanks p q (t ++ a) (sym f ∙ e ∙ append_assoc p t a) all all_p stop.0 (token_begins t a is)) is

-- where reading stops behind some tokens, a token that stands in the line is one of them
stands_among : (q line : List ℕ) (ts us : List (List ℕ)) (t a : List ℕ) → LexesTo (t ++ a) line ts → IsToken t → IsLongest t a → LexesTo q line us → Stops q → (more : List (List ℕ)) × (us ≡ ts ++ t ∷ more)
stands_among q line [] [] t a w is longest l stop = absurd (no_token_here q w.0 t a line (w.1 ∙ sym (append_assoc w.0 t a)) w.2 is l.0 l.1 l.2 stop)
stands_among q line [] (u ∷ us) t a w is longest l stop =
    let same = heads w.0 l.0 t u a l.1 line (w.1 ∙ sym (append_assoc w.0 t a)) l.2 w.2 l.3 is l.4 longest l.5 in
    (us, ap (λ x. x ∷ us) (sym same.0))
stands_among q line (s ∷ ts) [] t a w is longest l stop = absurd (no_token_here q w.0 s w.1 line w.2 w.3 w.4 l.0 l.1 l.2 stop)
stands_among q line (s ∷ ts) (u ∷ us) t a w is longest l stop =
    let same = heads w.0 l.0 s u w.1 l.1 line w.2 l.2 w.3 l.3 w.4 l.4 w.5 l.5 in
    let rest = stands_among q w.1 ts us t a w.6 is longest (subst (λ (x : List ℕ). LexesTo q x us) (sym same.1) l.6) stop in
    (rest.0, ap (λ x. x ∷ us) (sym same.0) ∙ ap (λ xs. s ∷ xs) rest.1)

to_end : (line : List ℕ) (us : List (List ℕ)) → Lexes line us → LexesTo [] line us
to_end line [] all = (line, sym (append-nil line), all)
to_end line (u ∷ us) w = (w.0, w.1, w.2, w.3, w.4, w.5, to_end w.1 us w.6)

behind : (line : List ℕ) (ts : List (List ℕ)) (t : List ℕ) (i : ℕ) (is : IsTokenAt line ts t i) → LexesTo (t ++ is.after) line ts
behind line ts t i is = subst (λ l. LexesTo l line ts) is.split is.before

pub token_before : (line : List ℕ) (ts us : List (List ℕ)) (t : List ℕ) (i : ℕ) → IsTokenAt line ts t i → Lexes line us → (more : List (List ℕ)) × (us ≡ ts ++ t ∷ more)
token_before line ts us t i is lexes = stands_among [] line ts us t is.after (behind line ts t i is) is.token is.longest (to_end line us lexes) (inl refl)

pub token_before_bad : (line : List ℕ) (ts us : List (List ℕ)) (t : List ℕ) (i j : ℕ) → IsTokenAt line ts t i → IsBadAt line us j → (more : List (List ℕ)) × (us ≡ ts ++ t ∷ more)
token_before_bad line ts us t i j is bad = stands_among _ line ts us t is.after (behind line ts t i is) is.token is.longest bad.before (inr (bad_begins line us j bad, bad.none_begins))

-- the same of what follows two places
abbrev Ordered : List (List ℕ) → List ℕ → List (List ℕ) → List ℕ → Type 0 → Type 0
Ordered ts t us u Same = Same ⊎ (((more : List (List ℕ)) × (us ≡ ts ++ t ∷ more)) ⊎ ((more : List (List ℕ)) × (ts ≡ us ++ u ∷ more)))

ordered : (line : List ℕ) (ts us : List (List ℕ)) (t a u b : List ℕ) → LexesTo (t ++ a) line ts → IsToken t → IsLongest t a → LexesTo (u ++ b) line us → IsToken u → IsLongest u b → Ordered ts t us u (t ++ a ≡ u ++ b)
ordered line [] [] t a u b w is_t longest_t l is_u longest_u = inl (one_front w.0 l.0 (t ++ a) (u ++ b) (sym w.1 ∙ l.1) w.2 l.2 (token_begins t a is_t) (token_begins u b is_u))
ordered line [] (v ∷ us) t a u b w is_t longest_t l is_u longest_u =
    let same = heads w.0 l.0 t v a l.1 line (w.1 ∙ sym (append_assoc w.0 t a)) l.2 w.2 l.3 is_t l.4 longest_t l.5 in
    inr (inl (us, ap (λ x. x ∷ us) (sym same.0)))
ordered line (s ∷ ts) [] t a u b w is_t longest_t l is_u longest_u =
    let same = heads w.0 l.0 s u w.1 b line w.2 (l.1 ∙ sym (append_assoc l.0 u b)) w.3 l.2 w.4 is_u w.5 longest_u in
    inr (inr (ts, ap (λ x. x ∷ ts) same.0))
ordered line (s ∷ ts) (v ∷ us) t a u b w is_t longest_t l is_u longest_u =
    let same = heads w.0 l.0 s v w.1 l.1 line w.2 l.2 w.3 l.3 w.4 l.4 w.5 l.5 in
    elim (ordered w.1 ts us t a u b w.6 is_t longest_t (subst (λ (x : List ℕ). LexesTo (u ++ b) x us) (sym same.1) l.6) is_u longest_u) [
      | inl e ↦ inl e
      | inr other ↦ elim other [
        | inl m ↦ inr (inl (m.0, ap (λ x. x ∷ us) (sym same.0) ∙ ap (λ xs. s ∷ xs) m.1))
        | inr m ↦ inr (inr (m.0, ap (λ x. x ∷ ts) same.0 ∙ ap (λ xs. v ∷ xs) m.1))
      ]
    ]

one_drop : (i j : ℕ) (line : List ℕ) → i < length line → j < length line → drop i line ≡ drop j line → i ≡ j
one_drop i j line inside_i inside_j e = omega (arith, ap length e, length-drop i line, length-drop j line)

pub tokens_ordered : (line : List ℕ) (ts us : List (List ℕ)) (t u : List ℕ) (i j : ℕ) → IsTokenAt line ts t i → IsTokenAt line us u j → TokensStandInOrder ts t i us u j
tokens_ordered line ts us t u i j a b =
    elim (ordered line ts us t a.after u b.after (behind line ts t i a) a.token a.longest (behind line us u j b) b.token b.longest) [
      | inl e ↦ inl (one_drop i j line a.inside b.inside (a.split ∙ e ∙ sym b.split))
      | inr other ↦ inr other
    ]

-- ---- the first tokens

-- where reading stops behind some tokens, those in front of any rest are the first of them
begins_with : (q rest line : List ℕ) (ts us : List (List ℕ)) → LexesTo rest line ts → LexesTo q line us → Stops q → (more : List (List ℕ)) × (us ≡ ts ++ more)
begins_with q rest line [] us w l stop = (us, refl)
begins_with q rest line (s ∷ ts) [] w l stop = absurd (no_token_here q w.0 s w.1 line w.2 w.3 w.4 l.0 l.1 l.2 stop)
begins_with q rest line (s ∷ ts) (u ∷ us) w l stop =
    let same = heads w.0 l.0 s u w.1 l.1 line w.2 l.2 w.3 l.3 w.4 l.4 w.5 l.5 in
    let more = begins_with q rest w.1 ts us w.6 (subst (λ (x : List ℕ). LexesTo q x us) (sym same.1) l.6) stop in
    (more.0, ap (λ x. x ∷ us) (sym same.0) ∙ ap (λ xs. s ∷ xs) more.1)

first_of : (n : ℕ) (ts us more : List (List ℕ)) → us ≡ ts ++ more → length ts ≡ n → ts ≡ take n us
first_of n ts us more e long = sym (ap (take n) e ∙ take-append-le n ts more (omega (arith, long)) ∙ take_all n ts (omega (arith, long)))

-- so many tokens that stand in front of a rest are the first of the line
pub first_lexed : (line rest : List ℕ) (ts : List Token) (us : List (List ℕ)) (n : ℕ) → IsFront line ts rest → length ts ≡ n → Lexes line us → texts_of ts ≡ take n us
first_lexed line rest ts us n front long lexes =
    let more = begins_with [] rest line (texts_of ts) us front.lexes (to_end line us lexes) (inl refl) in
    first_of n (texts_of ts) us more.0 more.1 (length-map ts (λ (t : Token). t.text.now) ∙ long)

-- or the first before its bad byte
pub first_before_bad : (line rest : List ℕ) (ts : List Token) (us : List (List ℕ)) (i n : ℕ) → IsFront line ts rest → length ts ≡ n → IsBadAt line us i → texts_of ts ≡ take n us
first_before_bad line rest ts us i n front long bad =
    let more = begins_with (drop i line) rest line (texts_of ts) us front.lexes bad.before (inr (bad_begins line us i bad, bad.none_begins)) in
    first_of n (texts_of ts) us more.0 more.1 (length-map ts (λ (t : Token). t.text.now) ∙ long)

-- all tokens, where they are fewer than so many, are the first so many
pub first_all : (n : ℕ) (ts : List Token) (us : List (List ℕ)) → length ts < n → texts_of ts ≡ us → texts_of ts ≡ take n us
first_all n ts us few e = e ∙ sym (take_all n us (omega (arith, few, ap length e, length-map ts (λ (t : Token). t.text.now))))
