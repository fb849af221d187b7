-- Bytes say one thing at most, or go wrong at one place, and never both.
use Rattle.std.proofs.Common.{◌≡◌, ℕ, ◌+◌, List, [], ◌∷◌, ◌++◌, Some, Result, Ok, Err, refl, sym, ap, ◌∙◌, subst, inl, inr, append_assoc, append-nil}
use Rattle.ctr_types.specs.declared.statement.Line.{Line}
use Rattle.ctr_types.specs.declared.statement.Statement.{Statement}
use Rattle.ctr_lex.specs.Tokens.{TokensStandInOrder, IsTakenApart}
use Rattle.ctr_model.specs.Grammar.{Lexes}
use Rattle.ctr_model.specs.Places.{IsBadAt, IsTokenAt, Says, SomeBegins, GoesWrongAt, wrong_token, no_token, too_short}
use Rattle.ctr_model.specs.Language.{SpellsStatement, SpellsLine}
use Rattle.ctr_parse.specs.declared.refusal.ParseRefusal.{ParseRefusal}
use Rattle.ctr_parse.specs.declared.refusal.ParseRefusal.TheVariants as refusal
use Rattle.ctr_parse.specs.Answers.{IsParsed, IsDecidedBy, ReadsOne}
use Rattle.ctr_parse.specs.Trees.{Tree}
use Rattle.ctr_parse.proofs.Again.{alone_goes, line_goes}
use Rattle.ctr_parse.proofs.PlaceLemmas.{Decides, says_or_not}

-- what the crate below says of the tokens of a line
pub record Facts : Type 0 where
  pub one_lexing : (line : List ℕ) (a b : List (List ℕ)) → Lexes line a → Lexes line b → a ≡ b
  pub one_bad : (line : List ℕ) (ts us : List (List ℕ)) (i j : ℕ) → IsBadAt line ts i → IsBadAt line us j → (i ≡ j) × (ts ≡ us)
  pub no_bad : (line : List ℕ) (ts us : List (List ℕ)) (i : ℕ) → IsBadAt line ts i → Lexes line us → ⊥
  pub lexed : (line : List ℕ) (ts us : List (List ℕ)) (t : List ℕ) (i : ℕ) → IsTokenAt line ts t i → Lexes line us → (more : List (List ℕ)) × (us ≡ ts ++ t ∷ more)
  pub before_bad : (line : List ℕ) (ts us : List (List ℕ)) (t : List ℕ) (i j : ℕ) → IsTokenAt line ts t i → IsBadAt line us j → (more : List (List ℕ)) × (us ≡ ts ++ t ∷ more)
  pub ordered : (line : List ℕ) (ts us : List (List ℕ)) (t u : List ℕ) (i j : ℕ) → IsTokenAt line ts t i → IsTokenAt line us u j → TokensStandInOrder ts t i us u j
  pub taken : (line : List ℕ) → IsTakenApart line

-- what begins with some tokens begins with fewer of them
begins_less : {X : Type 0} (Spells : List (List ℕ) → X → Type 0) (ts us : List (List ℕ)) (t : List ℕ) → ((more : List (List ℕ)) × (us ≡ ts ++ t ∷ more)) → SomeBegins Spells us → SomeBegins Spells (ts ++ t ∷ [])
begins_less Spells ts us t (more, e) (m, x, s) =
    let same : us ++ m ≡ (ts ++ t ∷ []) ++ (more ++ m) = ap (λ l. l ++ m) e ∙ append_assoc ts (t ∷ more) m ∙ sym (append_assoc ts (t ∷ []) (more ++ m)) in
    (more ++ m, x, subst (λ l. Spells l x) same s)

said_begins : {X : Type 0} (Spells : List (List ℕ) → X → Type 0) (us : List (List ℕ)) (x : X) → Spells us x → SomeBegins Spells us
said_begins Spells us x s = ([], x, subst (λ l. Spells l x) (sym (append-nil us)) s)

pub never_both : {X : Type 0} → Facts → (Spells : List (List ℕ) → X → Type 0) (line : List ℕ) (x : X) (a : ℕ) → Says Spells line x → GoesWrongAt Spells line a → ⊥
never_both f Spells line x a (us, lexes, s) (wrong_token ts t i is b n e) = n (begins_less Spells ts us t (f.lexed line ts us t i is lexes) (said_begins Spells us x s))
never_both f Spells line x a (us, lexes, s) (no_token ts i bad b e) = f.no_bad line ts us i bad lexes
never_both f Spells line x a (us, lexes, s) (too_short ts l b n e) = n x (subst (λ z. Spells z x) (f.one_lexing line us ts lexes l) s)

two_tokens : {X : Type 0} (Spells : List (List ℕ) → X → Type 0) (ts us : List (List ℕ)) (t u : List ℕ) (i j : ℕ) → TokensStandInOrder ts t i us u j → SomeBegins Spells ts → SomeBegins Spells us
    → (SomeBegins Spells (ts ++ t ∷ []) → ⊥) → (SomeBegins Spells (us ++ u ∷ []) → ⊥) → i ≡ j
two_tokens Spells ts us t u i j (inl e) begins_ts begins_us no_t no_u = e
two_tokens Spells ts us t u i j (inr (inl m)) begins_ts begins_us no_t no_u = absurd (no_t (begins_less Spells ts us t m begins_us))
two_tokens Spells ts us t u i j (inr (inr m)) begins_ts begins_us no_t no_u = absurd (no_u (begins_less Spells us ts u m begins_ts))

pub one_place : {X : Type 0} → Facts → (Spells : List (List ℕ) → X → Type 0) (line : List ℕ) (a b : ℕ) → GoesWrongAt Spells line a → GoesWrongAt Spells line b → a ≡ b
one_place f Spells line a b (wrong_token ts t i is p n e) (wrong_token us u j is' p' n' e') =
    e ∙ ap (λ k. k + 1) (two_tokens Spells ts us t u i j (f.ordered line ts us t u i j is is') p p' n n') ∙ sym e'
one_place f Spells line a b (wrong_token ts t i is p n e) (no_token us j bad p' e') = absurd (n (begins_less Spells ts us t (f.before_bad line ts us t i j is bad) p'))
one_place f Spells line a b (wrong_token ts t i is p n e) (too_short us l p' n' e') = absurd (n (begins_less Spells ts us t (f.lexed line ts us t i is l) p'))
one_place f Spells line a b (no_token ts i bad p e) (wrong_token us u j is' p' n' e') = absurd (n' (begins_less Spells us ts u (f.before_bad line us ts u j i is' bad) p))
one_place f Spells line a b (no_token ts i bad p e) (no_token us j bad' p' e') = e ∙ ap (λ k. k + 1) (f.one_bad line ts us i j bad bad').0 ∙ sym e'
one_place f Spells line a b (no_token ts i bad p e) (too_short us l p' n' e') = absurd (f.no_bad line ts us i bad l)
one_place f Spells line a b (too_short ts l p n e) (wrong_token us u j is' p' n' e') = absurd (n' (begins_less Spells us ts u (f.lexed line us ts u j is' l) p))
one_place f Spells line a b (too_short ts l p n e) (no_token us j bad p' e') = absurd (f.no_bad line us ts j bad l)
one_place f Spells line a b (too_short ts l p n e) (too_short us l' p' n' e') = e ∙ sym e'

-- so where what is said is one thing, a text is read one way
pub reads_one : {X : Type 0} → Facts → (tree : Tree Line) {Spells : List (List ℕ) → X → Type 0} → Decides tree Spells → ((text : List ℕ) (x y : X) → Says Spells text x → Says Spells text y → x ≡ y) → ReadsOne Spells
reads_one f tree {Spells} decides said = record {
  said = said;
  place = λ text a b. one_place f Spells text a b;
  never_both = λ text x a. never_both f Spells text x a;
  one_of_both = λ text. says_or_not tree Spells decides text (f.taken text);
}

-- so what was answered is the only answer
pub decided : {X : Type 0} (Spells : List (List ℕ) → X → Type 0) (bytes : List ℕ) (r : Result X ParseRefusal) → ((x y : X) → Says Spells bytes x → Says Spells bytes y → x ≡ y)
    → ((a b : ℕ) → GoesWrongAt Spells bytes a → GoesWrongAt Spells bytes b → a ≡ b) → ((x : X) (a : ℕ) → Says Spells bytes x → GoesWrongAt Spells bytes a → ⊥) → IsParsed Spells bytes r → IsDecidedBy Spells bytes r
decided Spells bytes (Ok x) one place never is = record { said = λ y says. one x y is says; wrong = λ at goes. never x at is goes }
decided Spells bytes (Err refusal.OutOfMemory) one place never is = record { said = λ y says. refl; wrong = λ at goes. inr refl }
decided Spells bytes (Err (refusal.ParseError a)) one place never is = record { said = λ y says. absurd (never y a says is); wrong = λ at goes. inl (ap (λ n. refusal.ParseError n) (place a at is goes)) }

same_line : (l m : Line) → Some l ≡ Some m → l ≡ m
same_line l m e = cc

pub one_statement_said : Facts → (text : List ℕ) (s t : Statement) → Says SpellsStatement text s → Says SpellsStatement text t → s ≡ t
one_statement_said f text s t (ts, lexes, is) (us, lexes', is') =
    let same = f.one_lexing text us ts lexes' lexes in
    let again = alone_goes ts t (subst (λ l. SpellsStatement l t) same is') in
    ap (λ (l : Line). l.statement) (same_line (record { session = 1; statement = s }) (record { session = 1; statement = t }) (sym (alone_goes ts s is) ∙ again))

pub one_line_said : Facts → (line : List ℕ) (l m : Line) → Says SpellsLine line l → Says SpellsLine line m → l ≡ m
one_line_said f line l m (ts, lexes, is) (us, lexes', is') =
    let same = f.one_lexing line us ts lexes' lexes in
    same_line l m (sym (line_goes ts l is) ∙ line_goes ts m (subst (λ z. SpellsLine z m) same is'))
