-- How many lines a generated script has.
use Rattle.std.proofs.Common.{◌≡◌, ℕ, zero, suc, ◌+◌, ◌*◌, ◌≤◌, Bool, true, false, cond, not, List, [], ◌∷◌, ◌++◌, length, get_or, replicate, arith, length-append}
use Rattle.std.proofs.Math.ListN.{length-set, length-replicate}
use Rattle.ctr_types.specs.declared.statement.Line.{Line}
use Rattle.ctr_types.specs.declared.statement.Statement.TheVariants as st
use Rattle.ctr_load.specs.Draws.{place_at, is_end_at, state_behind}
use Rattle.ctr_load.specs.Generated.{line_at, statement_at, round_lines, marks_behind, commits_from, rounds_from}
use Rattle.ctr_load.specs.Whole.{LinesAreFew}

-- at most one for each mark
commits_few : (place : ℕ) (marks : List Bool) → length (commits_from place marks) ≤ length marks
commits_few place [] = omega arith
commits_few place (true ∷ marks) = omega (arith, commits_few (place + 1) marks)
commits_few place (false ∷ marks) = omega (arith, commits_few (place + 1) marks)

-- one or two
round_few : (inside : Bool) (x y : Line) → (1 ≤ length (cond inside [] (x ∷ []) ++ y ∷ [])) × (length (cond inside [] (x ∷ []) ++ y ∷ []) ≤ 2)
round_few true x y = (omega arith, omega arith)
round_few false x y = (omega arith, omega arith)

rounds_few : (n i state : ℕ) (marks : List Bool) → (n ≤ length (rounds_from n i state marks)) × (length (rounds_from n i state marks) ≤ 2 * n + length marks)
rounds_few zero i state marks = (omega arith, omega (arith, commits_few 0 marks))
rounds_few (suc n) i state marks =
    let rest = rounds_few n (i + 1) (state_behind state) (marks_behind state marks) in
    let one = round_few (get_or marks (place_at (length marks) state) false) (line_at (place_at (length marks) state) st.Begin) (line_at (place_at (length marks) state) (statement_at i state)) in
    let all = length-append (round_lines i state marks) (rounds_from n (i + 1) (state_behind state) (marks_behind state marks)) in
    let marked : length (marks_behind state marks) ≡ length marks = length-set marks (place_at (length marks) state) (not (is_end_at state)) in
    (omega (arith, rest.0, one.0, all), omega (arith, rest.1, one.1, all, marked))

pub lines_are_few : LinesAreFew
lines_are_few sessions count seed =
    let rest = rounds_few count 1 seed (replicate sessions false) in
    let marks : length (replicate sessions false) ≡ sessions = length-replicate sessions false in
    (omega (arith, rest.0), omega (arith, rest.1, marks))
