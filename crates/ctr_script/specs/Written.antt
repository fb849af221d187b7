-- What reading a script answers.
use Rattle.std.specs.Prelude.{◌≡◌, ◌⊎◌, ℕ, ◌<◌, ◌≤◌, IsTrue, List, [], ◌∷◌, ◌++◌, length, Option, Some, None, Result, Ok, Err, MatchResult}
use Rattle.ctr_types.specs.declared.statement.Line.{Line}
use Rattle.ctr_types.specs.declared.statement.Script.{Script}
use Rattle.ctr_io.specs.declared.edges.Source.{Ghosts}
use Rattle.ctr_model.specs.Grammar.{most_bytes}
use Rattle.ctr_model.specs.Language.{SpellsLine}
use Rattle.ctr_model.specs.Places.{Says}
use Rattle.ctr_model.specs.Lines.{IsPassedOver, IsWrongAt, IsWritten, IsRefusedIn}
use Rattle.ctr_script.specs.declared.error.ScriptError.{ScriptError}
use Rattle.ctr_script.specs.declared.error.ScriptError.TheVariants as error

-- a CR at the end is left out
abbrev pub IsBeforeEnd : List ℕ → List ℕ → Type 0
IsBeforeEnd whole line =
    (whole ≡ line ++ 13 ∷ [])
    ⊎ ((line ≡ whole) × ((front : List ℕ) → whole ≡ front ++ 13 ∷ [] → ⊥))

-- a line that goes wrong, or memory ran out
abbrev pub LineStops : List ℕ → ℕ → ScriptError → Type 0
LineStops line number (error.Refused n at) = (n ≡ number) × IsWrongAt SpellsLine line at
LineStops line number error.TooLong = ⊥
LineStops line number error.ReadFault = ⊥
LineStops line number error.OutOfMemory = Unit {0}

-- what a line of this number says: a statement or nothing; or it goes wrong, or memory ran out
abbrev pub LineSays : List ℕ → ℕ → Result (Option Line) ScriptError → Type 0
LineSays line number (Ok None) = IsPassedOver line
LineSays line number (Ok (Some l)) = Says SpellsLine line l
LineSays line number (Err e) = LineStops line number e

-- what a line adds to the statements before it
abbrev pub AddsSaid : List ℕ → List Line → List Line → Type 0
AddsSaid line old new =
    (IsPassedOver line × (new ≡ old))
    ⊎ ((l : Line) × Says SpellsLine line l × (new ≡ old ++ l ∷ []))

-- the bytes are refused, or memory ran out
abbrev pub IsRefusedBy : List ℕ → ScriptError → Type 0
IsRefusedBy bytes (error.Refused line at) = IsRefusedIn SpellsLine bytes line at
IsRefusedBy bytes error.TooLong = ⊥
IsRefusedBy bytes error.ReadFault = ⊥
IsRefusedBy bytes error.OutOfMemory = Unit {0}

-- the lines are those of the bytes, which are no more than a script may have
pub record IsShortText (bytes : List ℕ) (lines : List Line) : Type 0 where
  pub written : IsWritten SpellsLine bytes lines
  pub few : length bytes ≤ most_bytes

-- the bytes are refused at this place, and aren't too long
pub record IsShortRefusal (bytes : List ℕ) (line at : ℕ) : Type 0 where
  pub refused : IsRefusedIn SpellsLine bytes line at
  pub few : length bytes ≤ most_bytes

-- what may come in place of any answer
abbrev pub MayHinder : ScriptError → Type 0
MayHinder e = (e ≡ error.ReadFault) ⊎ (e ≡ error.OutOfMemory)

-- The bytes decide the answer, unless the source fails or memory runs out: a script is read, what
-- is refused is refused at its place, and what is too long is so whatever it holds.
pub record DecideAnswer (bytes : List ℕ) (result : Result Script ScriptError) : Type 0 where
  pub script : (ls : List Line) → IsShortText bytes ls
      → MatchResult result (λ s. s.lines ≡ ls) MayHinder
  pub refused : (line at : ℕ) → IsShortRefusal bytes line at
      → MatchResult result (λ _. ⊥) (λ e. (e ≡ error.Refused line at) ⊎ MayHinder e)
  pub too_long : most_bytes < length bytes
      → MatchResult result (λ _. ⊥) (λ e. (e ≡ error.TooLong) ⊎ MayHinder e)

-- Each refusal with its cause: what the source has left, where it tells that, is refused at this
-- place, or is too long; a call of the source failed; or memory ran out.
abbrev pub ErrorHasCause : {S : Type 0} → Ghosts S → S → ScriptError → Type 0
ErrorHasCause g source (error.Refused line at) =
    IsTrue g.tells → IsShortRefusal (g.left source) line at
ErrorHasCause g source error.TooLong = IsTrue g.tells → most_bytes < length (g.left source)
ErrorHasCause g source error.ReadFault = Unit {0}
ErrorHasCause g source error.OutOfMemory = Unit {0}
