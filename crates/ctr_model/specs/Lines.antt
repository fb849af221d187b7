-- Scripts: lines, those that are skipped, and the line of a refusal.
use Rattle.std.specs.Prelude.{◌≡◌, ◌⊎◌, ℕ, ◌+◌, Bool, false, List, [], ◌∷◌, ◌++◌, length, ◌==◌, ◌&&◌, if◌then◌else◌}
use Rattle.std.specs.List.{AllByRecursion}
use Rattle.ctr_types.specs.declared.statement.Line.{Line}
use Rattle.ctr_model.specs.Grammar.{IsBlank, IsPrintable}
use Rattle.ctr_model.specs.Places.{Says, GoesWrongAt}

-- ---- lines

-- a byte before the first of some lines
abbrev pub in_front : ℕ → List (List ℕ) → List (List ℕ)
in_front c [] = (c ∷ []) ∷ []
in_front c (l ∷ ls) = (c ∷ l) ∷ ls

-- A line feed stands first in these bytes.
abbrev pub is_at_end : List ℕ → Bool
is_at_end [] = false
is_at_end (c ∷ cs) = c == 10

-- The lines of some bytes, without their ends. LF ends a line, and a CR just before it belongs to
-- the end. The last line may lack its end; behind a last end there is no line.
abbrev pub lines_of : List ℕ → List (List ℕ)
lines_of [] = []
lines_of (c ∷ cs) =
    if c == 10 then [] ∷ lines_of cs else
    if (c == 13) && is_at_end cs then lines_of cs else in_front c (lines_of cs)

-- the first two bytes that aren't blanks are --
abbrev pub IsComment : List ℕ → Type 0
IsComment line = (blanks rest : List ℕ) × (line ≡ blanks ++ 45 ∷ 45 ∷ rest)
    × AllByRecursion IsBlank blanks

-- A byte of a script's line: printable, or a tab.
abbrev pub IsPlain : ℕ → Type 0
IsPlain c = IsPrintable c ⊎ (c ≡ 9)

-- a line that says nothing: blanks alone, or a comment
abbrev pub IsPassedOver : List ℕ → Type 0
IsPassedOver line =
    AllByRecursion IsBlank line ⊎ (IsComment line × AllByRecursion IsPlain line)

-- The place at which a line goes wrong: in a comment the first byte that isn't plain, and in any
-- other line that isn't blank where the form says.
pub data IsWrongAt (Spells : List (List ℕ) → Line → Type 0) (line : List ℕ) (at : ℕ)
    : Type 0 where
  in_comment : IsComment line → (front rest : List ℕ) (c : ℕ) → line ≡ front ++ c ∷ rest
      → AllByRecursion IsPlain front → (IsPlain c → ⊥) → at ≡ length front + 1
      → IsWrongAt Spells line at
  in_line : (AllByRecursion IsBlank line → ⊥) → (IsComment line → ⊥)
      → GoesWrongAt Spells line at → IsWrongAt Spells line at

-- ---- scripts

-- Lines of bytes say these statements, one a line, but for the lines that are passed over.
abbrev pub AllSay : (List (List ℕ) → Line → Type 0) → List (List ℕ) → List Line → Type 0
AllSay Spells [] said = said ≡ []
AllSay Spells (line ∷ lines) said =
    (IsPassedOver line × AllSay Spells lines said)
    ⊎ ((l : Line) × (others : List Line) × (said ≡ l ∷ others) × Says Spells line l
    × AllSay Spells lines others)

-- The bytes are a script: all its lines say these statements.
abbrev pub IsWritten : (List (List ℕ) → Line → Type 0) → List ℕ → List Line → Type 0
IsWritten Spells bytes said = AllSay Spells (lines_of bytes) said

-- The bytes are refused at their first line that goes wrong, told from 1, and at its place there.
pub record IsRefusedIn (Spells : List (List ℕ) → Line → Type 0) (bytes : List ℕ) (line at : ℕ)
    : Type 0 where
  pub front : List (List ℕ)
  pub said : List Line
  pub wrong : List ℕ
  pub rest : List (List ℕ)
  pub split : lines_of bytes ≡ front ++ wrong ∷ rest
  pub before : AllSay Spells front said
  pub number : line ≡ length front + 1
  pub place : IsWrongAt Spells wrong at
