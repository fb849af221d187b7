-- Where bytes go wrong, for any form of the grammar.
--
-- A form is a relation between tokens and what they spell. The place of a refusal speaks of that
-- relation alone: of what begins with some tokens, and not of a way to read them.
use Rattle.std.specs.Prelude.{◌≡◌, ℕ, ◌+◌, ◌<◌, List, [], ◌∷◌, ◌++◌, length, drop, slice_index}
use Rattle.std.specs.List.{AllByRecursion}
use Rattle.ctr_model.specs.Grammar.{IsBlank, IsToken, IsLongest, Lexes}

-- ---- tokens and bytes

-- the bytes begin with no token
abbrev pub NoneBegins : List ℕ → Type 0
NoneBegins bytes = (t after : List ℕ) → bytes ≡ t ++ after → IsToken t → ⊥

-- The bytes are these tokens, each the longest, with any blanks before each and after the last, and
-- then rest.
abbrev pub LexesTo : List ℕ → List ℕ → List (List ℕ) → Type 0
LexesTo rest bytes [] = (blanks : List ℕ) × (bytes ≡ blanks ++ rest) × AllByRecursion IsBlank blanks
LexesTo rest bytes (t ∷ ts) =
    (blanks after : List ℕ) × (bytes ≡ blanks ++ t ++ after) × AllByRecursion IsBlank blanks
    × IsToken t × IsLongest t after × LexesTo rest after ts

-- after these tokens stands a byte, no blank, at which no token begins
pub record IsBadAt (line : List ℕ) (tokens : List (List ℕ)) (at : ℕ) : Type 0 where
  pub inside : at < length line
  pub before : LexesTo (drop at line) line tokens
  pub no_blank : IsBlank (slice_index line at) → ⊥
  pub none_begins : NoneBegins (drop at line)

-- after these tokens, at this byte, from 0, stands this one
pub record IsTokenAt (line : List ℕ) (tokens : List (List ℕ)) (t : List ℕ) (at : ℕ) : Type 0 where
  pub inside : at < length line
  pub before : LexesTo (drop at line) line tokens
  pub token : IsToken t
  pub after : List ℕ
  pub split : drop at line ≡ t ++ after
  pub longest : IsLongest t after

-- ---- what a form says

-- the bytes are tokens that spell this
abbrev pub Says : {X : Type 0} → (List (List ℕ) → X → Type 0) → List ℕ → X → Type 0
Says Spells bytes x = (tokens : List (List ℕ)) × Lexes bytes tokens × Spells tokens x

-- something that is spelled begins with these tokens
abbrev pub SomeBegins : {X : Type 0} → (List (List ℕ) → X → Type 0) → List (List ℕ) → Type 0
SomeBegins {X} Spells tokens = (more : List (List ℕ)) × (x : X) × Spells (tokens ++ more) x

-- The place, from 1, at which bytes go wrong that say nothing: where the first token begins such
-- that nothing that is spelled begins with the tokens up to it; or the first byte at which no token
-- begins; or, where only more tokens are missing, the length and 1.
pub data GoesWrongAt {X : Type 0} (Spells : List (List ℕ) → X → Type 0) (bytes : List ℕ) (at : ℕ)
    : Type 0 where
  wrong_token : (tokens : List (List ℕ)) (t : List ℕ) (i : ℕ) → IsTokenAt bytes tokens t i
      → SomeBegins Spells tokens → (SomeBegins Spells (tokens ++ t ∷ []) → ⊥) → at ≡ i + 1
      → GoesWrongAt Spells bytes at
  no_token : (tokens : List (List ℕ)) (i : ℕ) → IsBadAt bytes tokens i
      → SomeBegins Spells tokens → at ≡ i + 1 → GoesWrongAt Spells bytes at
  too_short : (tokens : List (List ℕ)) → Lexes bytes tokens → SomeBegins Spells tokens
      → ((x : X) → Spells tokens x → ⊥) → at ≡ length bytes + 1 → GoesWrongAt Spells bytes at
