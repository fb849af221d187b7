-- Bytes are one script at most, or refused at one place, and never both.
use Rattle.std.proofs.Common.{◌≡◌, ◌⊎◌, ℕ, suc, ◌+◌, ◌≤◌, List, [], ◌∷◌, ◌++◌, length, Result, Ok, Err, IfOk, IfErr, MatchResult, refl, sym, ap, ◌∙◌, subst, inl, inr, ⊎_elim, arith, append_assoc}
use Rattle.std.specs.List.{AllByRecursion}
use Rattle.ctr_types.specs.declared.statement.Line.{Line}
use Rattle.ctr_model.specs.Grammar.{IsBlank, Lexes, line_parts}
use Rattle.ctr_model.specs.Language.{MatchParts, SpellsLine}
use Rattle.ctr_model.specs.Places.{Says, GoesWrongAt}
use Rattle.ctr_model.specs.Lines.{lines_of, IsComment, IsPlain, IsPassedOver, IsWrongAt, in_comment, in_line, AllSay, IsWritten, IsRefusedIn}
use Rattle.ctr_types.specs.declared.statement.Script.{Script}
use Rattle.ctr_script.specs.declared.error.ScriptError.{ScriptError}
use Rattle.ctr_script.specs.declared.error.ScriptError.TheVariants as error
use Rattle.ctr_script.specs.Written.{IsRefusedBy, MayHinder}
use Rattle.ctr_script.proofs.LineLemmas.{one_front, no_blank_dash}

-- what the crates below say of tokens and of lines
pub record LineFacts : Type 0 where
  pub one_lexing : (line : List ℕ) (a b : List (List ℕ)) → Lexes line a → Lexes line b → a ≡ b
  pub said : (line : List ℕ) (l m : Line) → Says SpellsLine line l → Says SpellsLine line m → l ≡ m
  pub place : (line : List ℕ) (a b : ℕ) → GoesWrongAt SpellsLine line a → GoesWrongAt SpellsLine line b → a ≡ b
  pub never_both : (line : List ℕ) (l : Line) (a : ℕ) → Says SpellsLine line l → GoesWrongAt SpellsLine line a → ⊥
  pub one_of_both : (line : List ℕ) → ((l : Line) × Says SpellsLine line l) ⊎ ((at : ℕ) × GoesWrongAt SpellsLine line at)

-- ---- one line

nothing_said : (l : Line) (tokens : List (List ℕ)) → tokens ≡ [] → SpellsLine tokens l → ⊥
nothing_said l tokens e is = subst (λ ts. MatchParts ts (line_parts l)) e is.spelled

no_dash : (c : ℕ) (s : ℕ) → c ≡ 48 + s → 1 ≤ s → c ≡ 45 → ⊥
no_dash c s e low h = omega arith

digit_no_blank : (s : ℕ) → IsBlank (48 + s) → ⊥
digit_no_blank s is = ⊎_elim (λ (e : 48 + s ≡ 32). absurd (omega arith)) (λ (e : 48 + s ≡ 9). absurd (omega arith)) is

comment_says_nothing : (line : List ℕ) (l : Line) → IsComment line → Says SpellsLine line l → ⊥
comment_says_nothing line l is ([], lexes, s) = nothing_said l [] refl s
comment_says_nothing line l is (t ∷ ts, lexes, s) =
    let digit : t ≡ (48 + l.session) ∷ [] = s.spelled.0 in
    let whole : line ≡ lexes.0 ++ (48 + l.session) ∷ lexes.1 = lexes.2 ∙ append_assoc lexes.0 t lexes.1 ∙ ap (λ u. lexes.0 ++ (u ++ lexes.1)) digit in
    let same = one_front is.0 lexes.0 45 (48 + l.session) (45 ∷ is.1) lexes.1 (sym is.2 ∙ whole) is.3 lexes.3 no_blank_dash (digit_no_blank l.session) in
    no_dash 45 l.session same.0 s.low refl

passed_says_nothing : LineFacts → (line : List ℕ) (l : Line) → IsPassedOver line → Says SpellsLine line l → ⊥
passed_says_nothing f line l (inl blank) (tokens, lexes, s) = nothing_said l tokens (f.one_lexing line tokens [] lexes blank) s
passed_says_nothing f line l (inr comment) says = comment_says_nothing line l comment.0 says

all_at : (front rest : List ℕ) (c : ℕ) → AllByRecursion IsPlain (front ++ c ∷ rest) → IsPlain c
all_at [] rest c all = all.0
all_at (x ∷ front) rest c all = all_at front rest c all.1

-- the first byte that isn't plain is one
first_unplain : (front other rest after : List ℕ) (c d : ℕ) → front ++ c ∷ rest ≡ other ++ d ∷ after → AllByRecursion IsPlain front → AllByRecursion IsPlain other → (IsPlain c → ⊥) → (IsPlain d → ⊥) → length front ≡ length other
first_unplain [] [] rest after c d e p q no_c no_d = refl
first_unplain [] (y ∷ other) rest after c d e p q no_c no_d = let h : y ≡ c = cc in absurd (no_c (subst IsPlain h q.0))
first_unplain (x ∷ front) [] rest after c d e p q no_c no_d = let h : x ≡ d = cc in absurd (no_d (subst IsPlain h p.0))
first_unplain (x ∷ front) (y ∷ other) rest after c d e p q no_c no_d =
    let tails : front ++ c ∷ rest ≡ other ++ d ∷ after = cc in
    ap (λ n. suc n) (first_unplain front other rest after c d tails p.1 q.1 no_c no_d)

wrong_once : LineFacts → (line : List ℕ) (a b : ℕ) → IsWrongAt SpellsLine line a → IsWrongAt SpellsLine line b → a ≡ b
wrong_once f line a b (in_comment is front rest c e p not_so at) (in_comment is' other after d e' q no' at') =
    at ∙ ap (λ n. n + 1) (first_unplain front other rest after c d (sym e ∙ e') p q not_so no') ∙ sym at'
wrong_once f line a b (in_comment is front rest c e p not_so at) (in_line blank comment goes) = absurd (comment is)
wrong_once f line a b (in_line blank comment goes) (in_comment is other after d e' q no' at') = absurd (comment is)
wrong_once f line a b (in_line blank comment goes) (in_line blank' comment' goes') = f.place line a b goes goes'

pub blank_no_comment : (q r : List ℕ) → AllByRecursion IsBlank (q ++ 45 ∷ r) → ⊥
blank_no_comment [] r all = no_blank_dash all.0
blank_no_comment (c ∷ q) r all = blank_no_comment q r all.1

passed_not_wrong : (line : List ℕ) (a : ℕ) → IsPassedOver line → IsWrongAt SpellsLine line a → ⊥
passed_not_wrong line a (inl blank) (in_comment is front rest c e p not_so at) = blank_no_comment is.0 (45 ∷ is.1) (subst (AllByRecursion IsBlank) is.2 blank)
passed_not_wrong line a (inr comment) (in_comment is front rest c e p not_so at) = not_so (all_at front rest c (subst (AllByRecursion IsPlain) e comment.1))
passed_not_wrong line a (inl blank) (in_line no_blank no_comment goes) = no_blank blank
passed_not_wrong line a (inr comment) (in_line no_blank no_comment goes) = no_comment comment.0

said_not_wrong : LineFacts → (line : List ℕ) (l : Line) (a : ℕ) → Says SpellsLine line l → IsWrongAt SpellsLine line a → ⊥
said_not_wrong f line l a says (in_comment is front rest c e p not_so at) = comment_says_nothing line l is says
said_not_wrong f line l a says (in_line no_blank no_comment goes) = f.never_both line l a says goes

-- ---- scripts

all_say_one : LineFacts → (lines : List (List ℕ)) (a b : List Line) → AllSay SpellsLine lines a → AllSay SpellsLine lines b → a ≡ b
all_say_one f [] a b x y = x ∙ sym y
all_say_one f (line ∷ lines) a b (inl x) (inl y) = all_say_one f lines a b x.1 y.1
all_say_one f (line ∷ lines) a b (inl x) (inr y) = absurd (passed_says_nothing f line y.0 x.0 y.3)
all_say_one f (line ∷ lines) a b (inr x) (inl y) = absurd (passed_says_nothing f line x.0 y.0 x.3)
all_say_one f (line ∷ lines) a b (inr x) (inr y) =
    x.2 ∙ ap (λ l. l ∷ x.1) (f.said line x.0 y.0 x.3 y.3) ∙ ap (λ ls. y.0 ∷ ls) (all_say_one f lines x.1 y.1 x.4 y.4) ∙ sym y.2

-- a line among those that say something doesn't go wrong
said_among : LineFacts → (front : List (List ℕ)) (line : List ℕ) (rest : List (List ℕ)) (said : List Line) (a : ℕ) → AllSay SpellsLine (front ++ line ∷ rest) said → IsWrongAt SpellsLine line a → ⊥
said_among f [] line rest said a (inl x) wrong = passed_not_wrong line a x.0 wrong
said_among f [] line rest said a (inr x) wrong = said_not_wrong f line x.0 a x.3 wrong
said_among f (l ∷ front) line rest said a (inl x) wrong = said_among f front line rest said a x.1 wrong
said_among f (l ∷ front) line rest said a (inr x) wrong = said_among f front line rest x.1 a x.4 wrong

pub scripts_one : LineFacts → (bytes : List ℕ) (a b : List Line) → IsWritten SpellsLine bytes a → IsWritten SpellsLine bytes b → a ≡ b
scripts_one f bytes a b x y = all_say_one f (lines_of bytes) a b x y

pub script_not_refused : LineFacts → (bytes : List ℕ) (ls : List Line) (line at : ℕ) → IsWritten SpellsLine bytes ls → IsRefusedIn SpellsLine bytes line at → ⊥
script_not_refused f bytes ls line at x r = said_among f r.front r.wrong r.rest ls at (subst (λ ps. AllSay SpellsLine ps ls) r.split x) r.place

-- what the lines behind the first say
others : (line : List ℕ) (lines : List (List ℕ)) (said : List Line) → AllSay SpellsLine (line ∷ lines) said → (ls : List Line) × AllSay SpellsLine lines ls
others line lines said (inl x) = (said, x.1)
others line lines said (inr x) = (x.1, x.4)

-- the lines that go wrong first are one
fronts_one : LineFacts → (front other : List (List ℕ)) (p q : List ℕ) (rest after : List (List ℕ)) (a b : List Line) (i j : ℕ) → front ++ p ∷ rest ≡ other ++ q ∷ after → AllSay SpellsLine front a → AllSay SpellsLine other b
    → IsWrongAt SpellsLine p i → IsWrongAt SpellsLine q j → (length front ≡ length other) × (p ≡ q)
fronts_one f [] [] p q rest after a b i j e x y wrong wrong' = (refl, cc)
fronts_one f [] (o ∷ other) p q rest after a b i j e x y wrong wrong' =
    let h : o ≡ p = cc in
    absurd (said_among f [] p other b i (subst (λ l. AllSay SpellsLine (l ∷ other) b) h y) wrong)
fronts_one f (o ∷ front) [] p q rest after a b i j e x y wrong wrong' =
    let h : o ≡ q = cc in
    absurd (said_among f [] q front a j (subst (λ l. AllSay SpellsLine (l ∷ front) a) h x) wrong')
fronts_one f (o ∷ front) (o' ∷ other) p q rest after a b i j e x y wrong wrong' =
    let tails : front ++ p ∷ rest ≡ other ++ q ∷ after = cc in
    let a' = others o front a x in
    let b' = others o' other b y in
    let same = fronts_one f front other p q rest after a'.0 b'.0 i j tails a'.1 b'.1 wrong wrong' in
    (ap (λ n. suc n) same.0, same.1)

pub refusals_one : LineFacts → (bytes : List ℕ) (line at other place : ℕ) → IsRefusedIn SpellsLine bytes line at → IsRefusedIn SpellsLine bytes other place → (line ≡ other) × (at ≡ place)
refusals_one f bytes line at other place r s =
    let same = fronts_one f r.front s.front r.wrong s.wrong r.rest s.rest r.said s.said at place (sym r.split ∙ s.split) r.before s.before r.place s.place in
    (r.number ∙ ap (λ n. n + 1) same.0 ∙ sym s.number, wrong_once f s.wrong at place (subst (λ l. IsWrongAt SpellsLine l at) same.1 r.place) s.place)

-- ---- what was answered is the only answer

pub script_decided : (bytes : List ℕ) (r : Result Script ScriptError) (ls : List Line) → IfOk r (λ s. IsWritten SpellsLine bytes s.lines) → IfErr r (IsRefusedBy bytes)
    → ((a b : List Line) → IsWritten SpellsLine bytes a → IsWritten SpellsLine bytes b → a ≡ b) → ((ms : List Line) (l a : ℕ) → IsWritten SpellsLine bytes ms → IsRefusedIn SpellsLine bytes l a → ⊥)
    → IsWritten SpellsLine bytes ls → MatchResult r (λ s. s.lines ≡ ls) MayHinder
script_decided bytes (Ok s) ls is not_so one never written = one s.lines ls is written
script_decided bytes (Err (error.Refused l a)) ls is not_so one never written = absurd (never ls l a written not_so)
script_decided bytes (Err error.TooLong) ls is not_so one never written = absurd not_so
script_decided bytes (Err error.ReadFault) ls is not_so one never written = absurd not_so
script_decided bytes (Err error.OutOfMemory) ls is not_so one never written = inr refl

pub refusal_decided : (bytes : List ℕ) (r : Result Script ScriptError) (line at : ℕ) → IfOk r (λ s. IsWritten SpellsLine bytes s.lines) → IfErr r (IsRefusedBy bytes)
    → ((l a m b : ℕ) → IsRefusedIn SpellsLine bytes l a → IsRefusedIn SpellsLine bytes m b → (l ≡ m) × (a ≡ b)) → ((ms : List Line) (l a : ℕ) → IsWritten SpellsLine bytes ms → IsRefusedIn SpellsLine bytes l a → ⊥)
    → IsRefusedIn SpellsLine bytes line at → MatchResult r (λ _. ⊥) (λ e. (e ≡ error.Refused line at) ⊎ MayHinder e)
refusal_decided bytes (Ok s) line at is not_so place never refused = never s.lines line at is refused
refusal_decided bytes (Err (error.Refused l a)) line at is not_so place never refused =
    let same = place l a line at not_so refused in
    inl (ap (λ n. error.Refused n a) same.0 ∙ ap (λ n. error.Refused line n) same.1)
refusal_decided bytes (Err error.TooLong) line at is not_so place never refused = absurd not_so
refusal_decided bytes (Err error.ReadFault) line at is not_so place never refused = absurd not_so
refusal_decided bytes (Err error.OutOfMemory) line at is not_so place never refused = inr (inr refl)

-- sessions of what was read are 8 at most
sessions_of : (lines : List (List ℕ)) (said : List Line) → AllSay SpellsLine lines said → AllByRecursion (λ l. l.session ≤ 8) said
sessions_of [] said is = subst (AllByRecursion (λ (l : Line). l.session ≤ 8)) (sym is) tt
sessions_of (line ∷ lines) said (inl x) = sessions_of lines said x.1
sessions_of (line ∷ lines) said (inr x) = subst (AllByRecursion (λ (l : Line). l.session ≤ 8)) (sym x.2) (x.3.2.high, sessions_of lines x.1 x.4)

pub few_sessions : (bytes : List ℕ) (r : Result Script ScriptError) → IfOk r (λ s. IsWritten SpellsLine bytes s.lines) → IfOk r (λ s. AllByRecursion (λ l. l.session ≤ 8) s.lines)
few_sessions bytes (Ok s) is = sessions_of (lines_of bytes) s.lines is
few_sessions bytes (Err e) is = tt
