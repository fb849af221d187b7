-- What the loop over a line's tokens keeps.
use Rattle.std.proofs.Common.{◌≡◌, ◌⊎◌, inl, inr, ℕ, zero, suc, ◌+◌, ◌-◌, ◌<◌, ◌≤◌, List, [], ◌∷◌, ◌++◌, length, get_or, take, drop, refl, sym, ap, ◌∙◌, subst, append_assoc, arith, length-append, length-drop, take-append-drop, length-take-le, get_or-drop, drop-drop, add-zero}
use Rattle.std.proofs.lemmas.List.{map_push, nil_from_length}
use Rattle.ctr_model.specs.Grammar.{IsBlank, IsToken, IsLongest, Lexes}
use Rattle.ctr_lex.specs.declared.token.Token.{Token}
use Rattle.ctr_model.specs.Places.{NoneBegins, LexesTo, IsBadAt, IsTokenAt}
use Rattle.ctr_lex.specs.Tokens.{texts_of, StandFrom, AreAt}
use Rattle.ctr_lex.specs.One.{IsLongestToken}
use Rattle.ctr_lex.proofs.Lists.{All_take}
use Rattle.ctr_lex.proofs.ByFirst.{no_empty_token}
use Rattle.ctr_lex.proofs.Lexing.{Begins, LexesTo-push, LexesTo-blanks, LexesTo-all, LexesTo-none, LexesTo-one}

-- the tokens stand as `StandFrom` says, none of them behind to
abbrev StandUpTo : ℕ → List ℕ → List Token → ℕ → Type 0
StandUpTo from line [] to = from ≤ to
StandUpTo from line (t ∷ ts) to =
    (from ≤ t.at) × (t.at + length t.text.now ≤ length line) × (t.text.now ≡ take (length t.text.now) (drop t.at line)) × StandUpTo (t.at + length t.text.now) line ts to

StandUpTo-later : (from : ℕ) (line : List ℕ) (ts : List Token) (to later : ℕ) → to ≤ later → StandUpTo from line ts to → StandUpTo from line ts later
StandUpTo-later from line [] to later below stand = omega arith
StandUpTo-later from line (t ∷ ts) to later below stand = (stand.0, stand.1, stand.2, StandUpTo-later (t.at + length t.text.now) line ts to later below stand.3)

StandUpTo-push : (from : ℕ) (line : List ℕ) (ts : List Token) (t : Token) (to : ℕ) → to ≤ t.at → t.at + length t.text.now ≤ length line → t.text.now ≡ take (length t.text.now) (drop t.at line) → StandUpTo from line ts to → StandUpTo from line (ts ++ t ∷ []) (t.at + length t.text.now)
StandUpTo-push from line [] t to below within is stand = (omega arith, within, is, omega arith)
StandUpTo-push from line (u ∷ ts) t to below within is stand = (stand.0, stand.1, stand.2, StandUpTo-push (u.at + length u.text.now) line ts t to below within is stand.3)

StandUpTo-all : (from : ℕ) (line : List ℕ) (ts : List Token) (to : ℕ) → StandUpTo from line ts to → StandFrom from line ts
StandUpTo-all from line [] to stand = tt
StandUpTo-all from line (t ∷ ts) to stand = (stand.0, stand.1, stand.2, StandUpTo-all (t.at + length t.text.now) line ts to stand.3)

-- the loop's invariant: ts are the tokens of the line up to rest
pub record IsFront (line : List ℕ) (ts : List Token) (rest : List ℕ) : Type 0 where
  pub within : length rest ≤ length line
  pub split : rest ≡ drop (length line - length rest) line
  pub lexes : LexesTo rest line (texts_of ts)
  pub places : StandUpTo 0 line ts (length line - length rest)
  pub few : length ts + length rest ≤ length line
  pub at : AreAt line ts

-- where a token more stands last, the one in question is it or stood there before
last_or_before : (ts front after : List Token) (t u : Token) → ts ++ u ∷ [] ≡ front ++ t ∷ after
    → ((ts ≡ front) × (u ≡ t)) ⊎ ((others : List Token) × (ts ≡ front ++ t ∷ others))
last_or_before [] [] after t u e = inl (refl, cc)
last_or_before [] (x ∷ front) after t u e = let more : [] ≡ front ++ t ∷ after = cc in absurd (omega (arith, ap length more, length-append front (t ∷ after)))
last_or_before (x ∷ ts) [] after t u e = let first : x ≡ t = cc in inr (ts, ap (λ y. y ∷ ts) first)
last_or_before (x ∷ ts) (y ∷ front) after t u e =
    let first : x ≡ y = cc in
    let more : ts ++ u ∷ [] ≡ front ++ t ∷ after = cc in
    elim (last_or_before ts front after t u more) [
      | inl w ↦ inl (ap (λ l. x ∷ l) w.0 ∙ ap (λ z. z ∷ front) first, w.1)
      | inr w ↦ inr (w.0, ap (λ l. x ∷ l) w.1 ∙ ap (λ z. z ∷ (front ++ t ∷ w.0)) first)
    ]

at_push : (line : List ℕ) (ts : List Token) (u : Token) → AreAt line ts → IsTokenAt line (texts_of ts) u.text.now u.at → AreAt line (ts ++ u ∷ [])
at_push line ts u at one front after t e =
    elim (last_or_before ts front after t u e) [
      | inl w ↦ subst (λ l. IsTokenAt line (texts_of l) t.text.now t.at) w.0 (subst (λ x. IsTokenAt line (texts_of ts) x.text.now x.at) w.1 one)
      | inr w ↦ at front w.0 t w.1
    ]

at_none : (line : List ℕ) → AreAt line []
at_none line front after t e = absurd (omega (arith, ap length e, length-append front (t ∷ after)))

pub front_none : (line : List ℕ) → IsFront line [] line
front_none line =
    let none : length line - length line ≡ 0 = omega arith in
    record {
      within = omega arith;
      split = ap (λ (n : ℕ). drop n line) (sym none);
      lexes = ([], refl, tt);
      places = omega arith;
      few = omega arith;
      at = at_none line;
    }

-- a further drop is a drop of the line
dropped : (line rest from : List ℕ) (n : ℕ) → length rest ≤ length line → rest ≡ drop (length line - length rest) line → n ≤ length rest → from ≡ drop n rest → from ≡ drop (length line - length from) line
dropped line rest from n within split below is =
    let further : length line - length rest + n ≡ length line - length from = omega (arith, ap length is, length-drop n rest) in
    is ∙ ap (drop n) split ∙ drop-drop n (length line - length rest) line ∙ ap (λ (k : ℕ). drop k line) further

-- blanks are skipped
pub front_blanks : (line rest from : List ℕ) (ts : List Token) (n : ℕ) → IsFront line ts rest → n ≤ length rest → ((k : ℕ) → k < n → IsBlank (get_or rest k 0)) → from ≡ drop n rest → IsFront line ts from
front_blanks line rest from ts n front below all is =
    let shorter : length from + n ≡ length rest = omega (arith, ap length is, length-drop n rest) in
    record {
      within = omega (arith, front.within);
      split = dropped line rest from n front.within front.split below is;
      lexes = LexesTo-blanks rest line (take n rest) from (texts_of ts) front.lexes (sym (take-append-drop n rest) ∙ ap (λ (l : List ℕ). take n rest ++ l) (sym is)) (All_take IsBlank rest n below all);
      places = StandUpTo-later 0 line ts (length line - length rest) (length line - length from) (omega (arith, front.within)) front.places;
      few = omega (arith, front.few);
      at = front.at;
    }

longest_of : (from : List ℕ) (n : ℕ) → IsLongestToken from n → IsLongest (take n from) (drop n from)
longest_of from n one more after e some is =
    let regrouped : from ≡ (take n from ++ more) ++ after = sym (take-append-drop n from) ∙ ap (λ (l : List ℕ). take n from ++ l) e ∙ sym (append_assoc (take n from) more after) in
    let most = one.most (take n from ++ more) after regrouped is in
    omega (arith, most, some, length-append (take n from) more, length-take-le n from one.within)

pub token_long : (from : List ℕ) (n : ℕ) → IsToken (take n from) → 0 < n
token_long from zero is = absurd (no_empty_token is)
token_long from (suc n) is = omega arith

-- the token that is taken stands there
token_at : (line from after : List ℕ) (ts : List Token) (t : Token) (n : ℕ) → IsFront line ts from → IsLongestToken from n → t.text.now ≡ take n from → t.at ≡ length line - length from → after ≡ drop n from → IsTokenAt line (texts_of ts) t.text.now t.at
token_at line from after ts t n front one text_is at_is is =
    let there : from ≡ drop t.at line = front.split ∙ ap (λ (k : ℕ). drop k line) (sym at_is) in
    let some : 0 < n = token_long from n one.token in
    record {
      inside = omega (arith, front.within, one.within);
      before = subst (λ l. LexesTo l line (texts_of ts)) there front.lexes;
      token = subst IsToken (sym text_is) one.token;
      after = after;
      split = sym there ∙ sym (take-append-drop n from) ∙ ap (λ (l : List ℕ). take n from ++ l) (sym is) ∙ ap (λ (l : List ℕ). l ++ after) (sym text_is);
      longest = subst (λ t. IsLongest t after) (sym text_is) (subst (IsLongest (take n from)) (sym is) (longest_of from n one));
    }

-- a token is taken
pub front_token : (line from after : List ℕ) (ts : List Token) (t : Token) (n : ℕ) → IsFront line ts from → IsLongestToken from n → t.text.now ≡ take n from → t.at ≡ length line - length from → after ≡ drop n from → IsFront line (ts ++ t ∷ []) after
front_token line from after ts t n front one text_is at_is is =
    let long : length t.text.now ≡ n = ap length text_is ∙ length-take-le n from one.within in
    let shorter : length after + n ≡ length from = omega (arith, ap length is, length-drop n from, one.within) in
    let some : 0 < n = token_long from n one.token in
    let end : t.at + length t.text.now ≡ length line - length after = omega (arith, front.within) in
    let there : t.text.now ≡ take (length t.text.now) (drop t.at line) = text_is ∙ ap (take n) (front.split ∙ ap (λ (k : ℕ). drop k line) (sym at_is)) ∙ ap (λ (k : ℕ). take k (drop t.at line)) (sym long) in
    let lexed = LexesTo-push from line [] (take n from) after (texts_of ts) front.lexes (sym (take-append-drop n from) ∙ ap (λ (l : List ℕ). take n from ++ l) (sym is)) tt one.token (subst (IsLongest (take n from)) (sym is) (longest_of from n one)) in
    let texts : texts_of ts ++ take n from ∷ [] ≡ texts_of (ts ++ t ∷ []) = ap (λ (l : List ℕ). texts_of ts ++ l ∷ []) (sym text_is) ∙ sym (map_push (λ (u : Token). u.text.now) ts t) in
    record {
      within = omega (arith, front.within);
      split = dropped line from after n front.within front.split one.within is;
      lexes = subst (LexesTo after line) texts lexed;
      places = subst (StandUpTo 0 line (ts ++ t ∷ [])) end (StandUpTo-push 0 line ts t (length line - length from) (omega (arith, at_is)) (omega (arith, front.within)) there front.places);
      few = omega (arith, front.few, length-append ts (t ∷ []));
      at = at_push line ts t front.at (token_at line from after ts t n front one text_is at_is is);
    }

pub front_at : (line rest : List ℕ) (ts : List Token) → IsFront line ts rest → AreAt line ts
front_at line rest ts front = front.at

-- nothing is left
pub front_all : (line : List ℕ) (ts : List Token) → IsFront line ts [] → Lexes line (texts_of ts)
front_all line ts front = LexesTo-all line (texts_of ts) front.lexes

pub front_places : (line rest : List ℕ) (ts : List Token) → IsFront line ts rest → StandFrom 0 line ts
front_places line rest ts front = StandUpTo-all 0 line ts (length line - length rest) front.places

begins_at : (from : List ℕ) → 0 < length from → (IsBlank (get_or from 0 0) → ⊥) → Begins from
begins_at [] some no_blank = omega arith
begins_at (c ∷ from) some no_blank = no_blank

-- no token begins at what is left
pub front_bad : (line from : List ℕ) (ts : List Token) → IsFront line ts from → 0 < length from → (IsBlank (get_or from 0 0) → ⊥) → NoneBegins from → IsBadAt line (texts_of ts) (length line - length from)
front_bad line from ts front some no_blank none =
    let at = length line - length from in
    let first : get_or line at 0 ≡ get_or from 0 0 = ap (λ (k : ℕ). get_or line k 0) (sym (add-zero at)) ∙ sym (get_or-drop at line 0 0) ∙ ap (λ (l : List ℕ). get_or l 0 0) (sym front.split) in
    record {
      inside = omega (arith, front.within);
      before = subst (λ (l : List ℕ). LexesTo l line (texts_of ts)) front.split front.lexes;
      no_blank = λ blank. no_blank (subst IsBlank first blank);
      none_begins = subst NoneBegins front.split none;
    }

pub bad_begins : (line : List ℕ) (ts : List (List ℕ)) (at : ℕ) → IsBadAt line ts at → Begins (drop at line)
bad_begins line ts at bad =
    let first : get_or (drop at line) 0 0 ≡ get_or line at 0 = get_or-drop at line 0 0 ∙ ap (λ (k : ℕ). get_or line k 0) (add-zero at) in
    begins_at (drop at line) (omega (arith, bad.inside, length-drop at line)) (λ blank. bad.no_blank (subst IsBlank first blank))

-- nothing lexes a line that has a bad byte
pub bad_none : (line : List ℕ) (ts us : List (List ℕ)) (at : ℕ) → IsBadAt line ts at → Lexes line us → ⊥
bad_none line ts us at bad lexes = LexesTo-none (drop at line) line ts us bad.before (bad_begins line ts at bad) bad.none_begins lexes

-- the bad byte is determined, and the tokens in front of it
pub bad_one : (line : List ℕ) (ts us : List (List ℕ)) (at other : ℕ) → IsBadAt line ts at → IsBadAt line us other → (at ≡ other) × (ts ≡ us)
bad_one line ts us at other a b =
    let same = LexesTo-one (drop at line) (drop other line) line ts us a.before b.before (bad_begins line ts at a) a.none_begins (bad_begins line us other b) b.none_begins in
    (omega (arith, ap length same.1, length-drop at line, length-drop other line, a.inside, b.inside), same.0)

-- behind the blanks stands none
pub behind_blanks : (rest from : List ℕ) (n : ℕ) → n ≤ length rest → from ≡ drop n rest → (n < length rest → IsBlank (get_or rest n 0) → ⊥) → 0 < length from → IsBlank (get_or from 0 0) → ⊥
behind_blanks rest from n below is stops some blank =
    let first : get_or from 0 0 ≡ get_or rest n 0 = ap (λ (l : List ℕ). get_or l 0 0) is ∙ get_or-drop n rest 0 0 ∙ ap (λ (k : ℕ). get_or rest k 0) (add-zero n) in
    stops (omega (arith, ap length is, length-drop n rest)) (subst IsBlank first blank)

pub front_end : (line from : List ℕ) (ts : List Token) → IsFront line ts from → length from ≡ 0 → Lexes line (texts_of ts)
front_end line from ts front none = front_all line ts (subst (IsFront line ts) (nil_from_length from none) front)
