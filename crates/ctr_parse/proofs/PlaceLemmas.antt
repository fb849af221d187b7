-- Where reading stops is the place at which the bytes go wrong.
use Rattle.std.proofs.Common.{◌≡◌, ◌⊎◌, inl, inr, ℕ, ◌+◌, ◌<◌, ◌≤◌, ◌^◌, List, [], ◌∷◌, ◌++◌, length, Option, Some, None, Err, MatchOption, refl, sym, ap, ◌∙◌, subst, arith, append_assoc, append-nil, length-append}
use Rattle.std.proofs.lemmas.List.{length-map}
use Rattle.ctr_types.specs.declared.statement.Line.{Line}
use Rattle.ctr_types.specs.declared.statement.Statement.{Statement}
use Rattle.ctr_lex.specs.declared.token.Token.{Token}
use Rattle.ctr_lex.specs.Tokens.{texts_of, AreAt, IsTakenApart}
use Rattle.ctr_model.specs.Grammar.{Lexes}
use Rattle.ctr_model.specs.Places.{IsBadAt, Says, SomeBegins, GoesWrongAt, wrong_token, no_token, too_short}
use Rattle.ctr_model.specs.Language.{SpellsStatement, SpellsLine}
use Rattle.ctr_parse.specs.declared.stop.Stop.{Stop}
use Rattle.ctr_parse.specs.declared.stop.Stop.TheVariants as stop
use Rattle.ctr_parse.specs.Trees.{Tree, Outcome, read, wrong, missing, outcome, Follows, alone, whole_line}
use Rattle.ctr_parse.specs.Answers.{IsParsed, end_of, refusal_at}
use Rattle.ctr_parse.specs.Refusals.{IsStopNear}
use Rattle.ctr_parse.proofs.Trees.{runs, Living, read_is, missing_is, wrong_is}
use Rattle.ctr_parse.proofs.ReadStatements.{alone_was, line_was}
use Rattle.ctr_parse.proofs.Again.{alone_goes, line_goes}
use Rattle.ctr_parse.proofs.Lives.{alone_lives, line_lives}
use Rattle.ctr_parse.proofs.Lengths.{few_alone, few_line}

-- a tree reads what is spelled, and nothing else; and this has no more tokens than a line
pub record Decides {X : Type 0} (tree : Tree Line) (Spells : List (List ℕ) → X → Type 0) : Type 0 where
  pub lives : Living tree
  pub sound : (ts : List (List ℕ)) (l : Line) → runs tree ts ≡ Some l → (x : X) × Spells ts x
  pub complete : (ts : List (List ℕ)) (x : X) → Spells ts x → (l : Line) × (runs tree ts ≡ Some l)
  pub few : (ts : List (List ℕ)) (x : X) → Spells ts x → length ts ≤ 57

pub alone_decides : Decides alone SpellsStatement
alone_decides = record {
  lives = alone_lives;
  sound = λ ts l e. (l.statement, (alone_was ts l e).0);
  complete = λ ts s is. (record { session = 1; statement = s }, alone_goes ts s is);
  few = few_alone;
}

pub line_decides : Decides whole_line SpellsLine
line_decides = record {
  lives = line_lives;
  sound = λ ts l e. (l, line_was ts l e);
  complete = λ ts l is. (l, line_goes ts l is);
  few = few_line;
}

none_some : {A : Type 0} (o : Option A) (a : A) → o ≡ None → o ≡ Some a → ⊥
none_some o a e f = cc

begins_with : {X : Type 0} (tree : Tree Line) (Spells : List (List ℕ) → X → Type 0) → Decides tree Spells → (ts more : List (List ℕ)) (l : Line) → runs tree (ts ++ more) ≡ Some l → SomeBegins Spells ts
begins_with tree Spells d ts more l e = let s = d.sound (ts ++ more) l e in (more, s.0, s.1)

pub wrong_goes : {X : Type 0} (tree : Tree Line) (Spells : List (List ℕ) → X → Type 0) → Decides tree Spells → (line : List ℕ) (ts : List Token) (i : ℕ) → AreAt line ts → outcome tree ts ≡ wrong i → GoesWrongAt Spells line (i + 1)
wrong_goes tree Spells d line ts i at e =
    let w = wrong_is tree ts i d.lives e in
    let there = at w.front w.after w.token w.split in
    wrong_token (texts_of w.front) w.token.text.now w.token.at there
    (begins_with tree Spells d (texts_of w.front) w.more w.item w.begins)
    (λ begins.
    let c = d.complete ((texts_of w.front ++ w.token.text.now ∷ []) ++ begins.0) begins.1 begins.2 in
    none_some (runs tree (texts_of w.front ++ w.token.text.now ∷ begins.0)) c.0 (w.stops begins.0)
    (ap (runs tree) (sym (append_assoc (texts_of w.front) (w.token.text.now ∷ []) begins.0)) ∙ c.1))
    (ap (λ n. n + 1) w.at)

pub missing_goes : {X : Type 0} (tree : Tree Line) (Spells : List (List ℕ) → X → Type 0) → Decides tree Spells → (line : List ℕ) (ts : List Token) (bad : Option ℕ)
    → MatchOption bad (Lexes line (texts_of ts)) (λ i. IsBadAt line (texts_of ts) i) → outcome tree ts ≡ missing → GoesWrongAt Spells line (end_of bad (length line) + 1)
missing_goes tree Spells d line ts None lexes e =
    let m = missing_is tree ts d.lives e in
    too_short (texts_of ts) lexes (begins_with tree Spells d (texts_of ts) m.1.0 m.1.1 m.1.2)
    (λ x is. let c = d.complete (texts_of ts) x is in none_some (runs tree (texts_of ts)) c.0 m.0 c.1) refl
missing_goes tree Spells d line ts (Some i) bad e =
    let m = missing_is tree ts d.lives e in
    no_token (texts_of ts) i bad (begins_with tree Spells d (texts_of ts) m.1.0 m.1.1 m.1.2) refl

pub read_goes : {X : Type 0} (tree : Tree Line) (Spells : List (List ℕ) → X → Type 0) → Decides tree Spells → (line : List ℕ) (ts : List Token) (i : ℕ) (l : Line) → IsBadAt line (texts_of ts) i → outcome tree ts ≡ read l
    → GoesWrongAt Spells line (i + 1)
read_goes tree Spells d line ts i l bad e =
    let r = read_is tree ts l e in
    no_token (texts_of ts) i bad (begins_with tree Spells d (texts_of ts) [] l (ap (runs tree) (append-nil (texts_of ts)) ∙ r)) refl

-- what was read is what the bytes say
pub read_says : (line : List ℕ) (ts : List Token) (s : Statement) → Lexes line (texts_of ts) → outcome alone ts ≡ read (record { session = 1; statement = s }) → Says SpellsStatement line s
read_says line ts s lexes e = (texts_of ts, lexes, (alone_was (texts_of ts) (record { session = 1; statement = s }) (read_is alone ts (record { session = 1; statement = s }) e)).0)

pub line_says : (line : List ℕ) (ts : List Token) (l : Line) → Lexes line (texts_of ts) → outcome whole_line ts ≡ read l → Says SpellsLine line l
line_says line ts l lexes e = (texts_of ts, lexes, line_was (texts_of ts) l (read_is whole_line ts l e))

-- ---- one token more than a line has

-- what is read has no more tokens than a line
pub few_read : {X : Type 0} (tree : Tree Line) (Spells : List (List ℕ) → X → Type 0) → Decides tree Spells → (ts : List Token) (l : Line) → outcome tree ts ≡ read l → length ts < 58
few_read tree Spells d ts l e =
    let s = d.sound (texts_of ts) l (read_is tree ts l e) in
    omega (arith, d.few (texts_of ts) s.0 s.1, length-map ts (λ (t : Token). t.text.now))

-- so has what more tokens are missing behind
few_missing : {X : Type 0} (tree : Tree Line) (Spells : List (List ℕ) → X → Type 0) → Decides tree Spells → (ts : List Token) → outcome tree ts ≡ missing → length ts < 58
few_missing tree Spells d ts e =
    let m = (missing_is tree ts d.lives e).1 in
    let s = d.sound (texts_of ts ++ m.0) m.1 m.2 in
    omega (arith, d.few (texts_of ts ++ m.0) s.0 s.1, length-append (texts_of ts) m.0, length-map ts (λ (t : Token). t.text.now))

-- where reading stops, the bytes go wrong
pub stopped : {X Y : Type 0} (tree : Tree Line) (Spells : List (List ℕ) → X → Type 0) → Decides tree Spells → (line : List ℕ) (ts : List Token) (bad : Option ℕ) → AreAt line ts
    → (length ts < 58 → MatchOption bad (Lexes line (texts_of ts)) (λ i. IsBadAt line (texts_of ts) i)) → (go : Y → Outcome Line) (s : Stop) → Follows go (Err s) (outcome tree ts) → IsParsed {X = X} Spells line (Err (refusal_at s bad (length line)))
stopped tree Spells d line ts bad at found go stop.OutOfMemory e = tt
stopped tree Spells d line ts bad at found go (stop.Wrong i) e = wrong_goes tree Spells d line ts i at e
stopped tree Spells d line ts bad at found go stop.Missing e = missing_goes tree Spells d line ts bad (found (few_missing tree Spells d ts e)) e

-- where it stops is inside the line
pub near : {X Y : Type 0} (tree : Tree Line) (Spells : List (List ℕ) → X → Type 0) → Decides tree Spells → (line : List ℕ) (ts : List Token) → AreAt line ts → length line < 2 ^ 63
    → (go : Y → Outcome Line) (s : Stop) → Follows go (Err s) (outcome tree ts) → IsStopNear s
near tree Spells d line ts at short go stop.OutOfMemory e = tt
near tree Spells d line ts at short go (stop.Wrong i) e =
    let w = wrong_is tree ts i d.lives e in
    let there = at w.front w.after w.token w.split in
    omega (arith, there.inside, w.at)
near tree Spells d line ts at short go stop.Missing e = tt

-- a byte at which no token begins stands behind what was read
pub bad_stands : (line : List ℕ) (ts : List (List ℕ)) (bad : Option ℕ) (i : ℕ) → bad ≡ Some i → MatchOption bad (Lexes line ts) (λ j. IsBadAt line ts j) → IsBadAt line ts i
bad_stands line ts bad i e found = subst (λ o. MatchOption o (Lexes line ts) (λ j. IsBadAt line ts j)) e found

pub none_stands : (line : List ℕ) (ts : List (List ℕ)) (bad : Option ℕ) → bad ≡ None → MatchOption bad (Lexes line ts) (λ j. IsBadAt line ts j) → Lexes line ts
none_stands line ts bad e found = subst (λ o. MatchOption o (Lexes line ts) (λ j. IsBadAt line ts j)) e found

ends : {X : Type 0} (tree : Tree Line) (Spells : List (List ℕ) → X → Type 0) → Decides tree Spells → (line : List ℕ) (ts : List Token) (bad : Option ℕ) → AreAt line ts
    → MatchOption bad (Lexes line (texts_of ts)) (λ i. IsBadAt line (texts_of ts) i) → (end : Outcome Line) → outcome tree ts ≡ end → ((x : X) × Says Spells line x) ⊎ ((at : ℕ) × GoesWrongAt Spells line at)
ends tree Spells d line ts None at lexes (read l) e = let s = d.sound (texts_of ts) l (read_is tree ts l e) in inl (s.0, (texts_of ts, lexes, s.1))
ends tree Spells d line ts (Some i) at bad (read l) e = inr (i + 1, read_goes tree Spells d line ts i l bad e)
ends tree Spells d line ts bad at found (wrong i) e = inr (i + 1, wrong_goes tree Spells d line ts i at e)
ends tree Spells d line ts bad at found missing e = inr (end_of bad (length line) + 1, missing_goes tree Spells d line ts bad found e)

-- bytes say something or go wrong
pub says_or_not : {X : Type 0} (tree : Tree Line) (Spells : List (List ℕ) → X → Type 0) → Decides tree Spells → (line : List ℕ) → IsTakenApart line → ((x : X) × Says Spells line x) ⊎ ((at : ℕ) × GoesWrongAt Spells line at)
says_or_not tree Spells d line (ts, bad, found, at) = ends tree Spells d line ts bad at found (outcome tree ts) refl
