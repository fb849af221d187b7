-- What holds of every generated script.
use Rattle.std.specs.Prelude.{◌≡◌, ℕ, ◌+◌, ◌*◌, ◌^◌, ◌≤◌, ◌<◌, Bool, true, false, not, List, [], ◌∷◌, length}
use Rattle.std.specs.List.{AllByRecursion}
use Rattle.ctr_types.specs.declared.statement.Line.{Line}
use Rattle.ctr_types.specs.declared.statement.Statement.{Statement}
use Rattle.ctr_types.specs.declared.statement.Statement.TheVariants as st
use Rattle.ctr_model.specs.Language.{SpellsLine}
use Rattle.ctr_model.specs.Tape.{statements_of}
use Rattle.ctr_load.specs.Generated.{generated}

-- ---- transactions

-- Whether a statement is BEGIN.
abbrev pub is_begin : Statement → Bool
is_begin st.Begin = true
is_begin _ = false

-- the statement is COMMIT or ROLLBACK
abbrev pub is_end : Statement → Bool
is_end st.Commit = true
is_end st.Rollback = true
is_end _ = false

-- What a session says, from outside of a transaction or from inside one, is whole: BEGIN comes
-- outside and nowhere else, COMMIT and ROLLBACK lead outside again, and so it ends outside.
abbrev pub IsWholeSession : Bool → List Statement → Type 0
IsWholeSession inside [] = inside ≡ false
IsWholeSession inside (s ∷ ss) = (is_begin s ≡ not inside) × IsWholeSession (not (is_end s)) ss

-- Each session's statements are whole transactions, one behind another.
abbrev pub TransactionsAreWhole : Type 0
TransactionsAreWhole =
    (sessions count seed session : ℕ) → 1 ≤ sessions → 1 ≤ session
    → IsWholeSession false (statements_of session (generated sessions count seed))

-- ---- lines

-- the line is one of the language: some tokens spell it
abbrev pub IsSpelled : Line → Type 0
IsSpelled l = (tokens : List (List ℕ)) × SpellsLine tokens l

-- Each line is of one of the sessions.
abbrev pub SessionsAreThese : Type 0
SessionsAreThese =
    (sessions count seed : ℕ) → 1 ≤ sessions
    → AllByRecursion (λ l. (1 ≤ l.session) × (l.session ≤ sessions))
    (generated sessions count seed)

-- Each line of up to eight sessions is one of the language.
abbrev pub LinesAreSpelled : Type 0
LinesAreSpelled =
    (sessions count seed : ℕ) → 1 ≤ sessions → sessions ≤ 8 → count < 2 ^ 63
    → AllByRecursion IsSpelled (generated sessions count seed)

-- Three lines, and for each round one or two; and at most one more for each session.
abbrev pub LinesAreFew : Type 0
LinesAreFew =
    (sessions count seed : ℕ)
    → (count + 3 ≤ length (generated sessions count seed))
    × (length (generated sessions count seed) ≤ 2 * count + 3 + sessions)
