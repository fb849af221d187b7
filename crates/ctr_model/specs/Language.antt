-- The language: what tokens spell.
--
-- It is the second form of the grammar. Tokens, statements, their places and their conditions are
-- those of the first (Grammar.antt); here keywords stand in any case, sessions are 1 to 8, and
-- every statement is taken. A form is a relation between tokens and what they spell: Places.antt
-- and Lines.antt speak of any. A word that a later form reads so only in its place, and as a name
-- everywhere else, comes as one more kind of place, with its case of `MatchesPart`.
use Rattle.std.specs.Prelude.{◌≡◌, ℕ, ◌+◌, ◌≤◌, List, [], ◌∷◌, map}
use Rattle.ctr_types.specs.declared.statement.Statement.{Statement}
use Rattle.ctr_types.specs.declared.statement.Line.{Line}
use Rattle.ctr_model.specs.Grammar.{Part, key, name, int, text, sign, session, capital, IsNameSpelled, IsInteger, IsWide, IsQuoted, IsWithin, statement_parts, line_parts}

-- the token stands at the place, a keyword in any case
abbrev pub MatchesPart : Part → List ℕ → Type 0
MatchesPart (key k) spelled = map capital spelled ≡ k
MatchesPart (name n) spelled = (spelled ≡ n) × IsNameSpelled n
MatchesPart (int z) spelled = IsInteger spelled z × IsWide z
MatchesPart (text t) spelled = IsQuoted spelled t
MatchesPart (sign c) spelled = spelled ≡ c ∷ []
MatchesPart (session s) spelled = spelled ≡ (48 + s) ∷ []

-- as many tokens as places, each at its place
abbrev pub MatchParts : List (List ℕ) → List Part → Type 0
MatchParts [] [] = Unit {0}
MatchParts [] (p ∷ ps) = ⊥
MatchParts (t ∷ ts) [] = ⊥
MatchParts (t ∷ ts) (p ∷ ps) = MatchesPart p t × MatchParts ts ps

-- the tokens are a statement alone, without session, > and ;
pub record SpellsStatement (tokens : List (List ℕ)) (s : Statement) : Type 0 where
  pub within : IsWithin s
  pub spelled : MatchParts tokens (statement_parts s)

-- the tokens are a session from 1 to 8, >, a statement and ;
pub record SpellsLine (tokens : List (List ℕ)) (l : Line) : Type 0 where
  pub low : 1 ≤ l.session
  pub high : l.session ≤ 8
  pub within : IsWithin l.statement
  pub spelled : MatchParts tokens (line_parts l)
