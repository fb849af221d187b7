-- A script that is made line by line has what is still to come behind what is there.
use Rattle.std.proofs.Common.{◌≡◌, ℕ, suc, ◌+◌, ◌-◌, ◌<◌, ◌≤◌, Bool, List, ◌++◌, sym, ap, ◌∙◌, arith, append_assoc}
use Rattle.ctr_types.specs.declared.statement.Line.{Line}
use Rattle.ctr_load.specs.Draws.{state_behind}
use Rattle.ctr_load.specs.Generated.{round_lines, marks_behind, rounds_from, commits_from}

-- one round more
pub rounds_more : (count done state : ℕ) (marks : List Bool) (old new : List Line) → done < count
    → new ≡ old ++ round_lines (done + 1) state marks
    → old ++ rounds_from (count - done) (done + 1) state marks
    ≡ new ++ rounds_from (count - (done + 1)) (done + 1 + 1) (state_behind state) (marks_behind state marks)
rounds_more count done state marks old new below said =
    let left : count - done ≡ suc (count - (done + 1)) = omega arith in
    let rest : List Line = rounds_from (count - (done + 1)) (done + 1 + 1) (state_behind state) (marks_behind state marks) in
    ap (λ (n : ℕ). old ++ rounds_from n (done + 1) state marks) left
    ∙ sym (append_assoc old (round_lines (done + 1) state marks) rest)
    ∙ ap (λ (lines : List Line). lines ++ rest) (sym said)

-- the rounds that are left, by the state and the marks that are there
pub rounds_left : (n i state state' : ℕ) (marks marks' : List Bool) → state' ≡ state → marks' ≡ marks
    → rounds_from n i state marks ≡ rounds_from n i state' marks'
rounds_left n i state state' marks marks' s m =
    ap (λ (x : ℕ). rounds_from n i x marks) (sym s) ∙ ap (λ (x : List Bool). rounds_from n i state' x) (sym m)

-- no round more
pub rounds_over : (count done i state : ℕ) (marks seen : List Bool) (all lines new : List Line) → count ≤ done
    → all ≡ lines ++ rounds_from (count - done) i state marks → seen ≡ marks → new ≡ lines ++ commits_from 0 seen
    → new ≡ all
rounds_over count done i state marks seen all lines new over is same said =
    let none : count - done ≡ 0 = omega arith in
    said ∙ ap (λ (x : List Bool). lines ++ commits_from 0 x) same
    ∙ sym (ap (λ (n : ℕ). lines ++ rounds_from n i state marks) none) ∙ sym is
