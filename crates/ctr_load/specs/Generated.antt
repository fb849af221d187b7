-- The generated script: a table is made, then come so many rounds, and then COMMIT for each session
-- that is still in a transaction.
use Rattle.std.specs.Prelude.{ℕ, zero, suc, ◌+◌, ◌%◌, ◌==◌, nat_lt, ℤ, pos, Bool, false, not, List, [], ◌∷◌, ◌++◌, length, get_or, set, replicate, if◌then◌else◌}
use Rattle.ctr_types.specs.declared.statement.Line.{Line}
use Rattle.ctr_types.specs.declared.statement.Statement.{Statement}
use Rattle.ctr_types.specs.declared.statement.Statement.TheVariants as st
use Rattle.ctr_load.specs.Draws.{stepped, number_of_draw, third_state, place_at, key_at, case_at, is_end_at, state_behind}
use Rattle.ctr_load.specs.Statements.{create_load, insert_of, update_of, delete_of, select_of}

-- a statement of the session at a place, from 0
abbrev pub line_at : ℕ → Statement → Line
line_at place statement = record { session = place + 1; statement = statement }

-- the statement of a case, for a key and a number; the last case makes a fourth draw, from this
-- state
abbrev pub statement_of_case : ℕ → ℤ → ℤ → ℕ → Statement
statement_of_case case key number state =
    if nat_lt case 3 then insert_of key number else
    if nat_lt case 5 then update_of key number else
    if case == 5 then delete_of key else
    if case == 6 then select_of key else
    if number_of_draw (stepped state) % 4 == 0 then st.Rollback else st.Commit

-- the statement of round i, which begins at this state
abbrev pub statement_at : ℕ → ℕ → Statement
statement_at i state =
    statement_of_case (case_at state) (pos (key_at state)) (pos i) (third_state state)

-- BEGIN, where the session at the place isn't marked as in a transaction; the list has each
-- session's mark
abbrev pub beginning : ℕ → List Bool → List Line
beginning place marks = if get_or marks place false then [] else line_at place st.Begin ∷ []

-- the lines of round i
abbrev pub round_lines : ℕ → ℕ → List Bool → List Line
round_lines i state marks =
    beginning (place_at (length marks) state) marks
    ++ line_at (place_at (length marks) state) (statement_at i state) ∷ []

-- the marks behind a round: its session is in a transaction, unless the round ended that
abbrev pub marks_behind : ℕ → List Bool → List Bool
marks_behind state marks = set marks (place_at (length marks) state) (not (is_end_at state))

-- COMMIT for each session that is marked, in order of number; these are the marks from a place on
abbrev pub commits_from : ℕ → List Bool → List Line
commits_from place [] = []
commits_from place (marked ∷ marks) =
    (if marked then line_at place st.Commit ∷ [] else []) ++ commits_from (place + 1) marks

-- so many rounds, the first of them round i, and the end
abbrev pub rounds_from : ℕ → ℕ → ℕ → List Bool → List Line
rounds_from zero i state marks = commits_from 0 marks
rounds_from (suc n) i state marks =
    round_lines i state marks
    ++ rounds_from n (i + 1) (state_behind state) (marks_behind state marks)

-- The first three lines of a script, which make the table.
abbrev pub table_lines : List Line
table_lines = line_at 0 st.Begin ∷ line_at 0 create_load ∷ line_at 0 st.Commit ∷ []

-- The script of so many sessions and rounds, drawn from a seed.
abbrev pub generated : ℕ → ℕ → ℕ → List Line
generated sessions count seed =
    table_lines ++ rounds_from count 1 seed (replicate sessions false)
