-- Each session's statements are whole transactions.
use Rattle.std.proofs.Common.{◌≡◌, ℕ, zero, suc, ◌+◌, ◌-◌, ◌<◌, ◌≤◌, ◌==◌, Bool, true, false, cond, not, List, [], ◌∷◌, ◌++◌, length, get_or, replicate, refl, sym, ap, ◌∙◌, subst, ⊎_elim, arith}
use Rattle.std.proofs.Math.Nat.{mod-lt}
use Rattle.std.proofs.Math.ListN.{length-set, length-replicate}
use Rattle.std.proofs.lemmas.Bool.{eq-eqb, ne_eqb, cases_eq}
use Rattle.std.proofs.lemmas.List.{get_or-set_same, get_or-set_other}
use Rattle.ctr_types.specs.declared.statement.Line.{Line}
use Rattle.ctr_types.specs.declared.statement.Statement.{Statement}
use Rattle.ctr_types.specs.declared.statement.Statement.TheVariants as st
use Rattle.ctr_load.specs.Draws.{number_of_draw, stepped, place_at, is_end_at, state_behind}
use Rattle.ctr_load.specs.Generated.{line_at, statement_at, round_lines, marks_behind, commits_from, rounds_from, table_lines}
use Rattle.ctr_model.specs.Tape.{statements_of}
use Rattle.ctr_load.specs.Whole.{is_begin, is_end, IsWholeSession, TransactionsAreWhole}
use Rattle.ctr_load.proofs.Says.{is_end-at, is_begin-at}

-- ---- one round

module _ (session place : ℕ) (s : Statement) where
  -- the lines of a round, where its session is in a transaction or not
  abbrev round_of : Bool → List Line
  round_of inside = cond inside [] (line_at place st.Begin ∷ []) ++ line_at place s ∷ []

  -- the session's own
  own : ((place + 1) == session) ≡ true → is_begin s ≡ false → (inside : Bool) (rest : List Line)
      → IsWholeSession (not (is_end s)) (statements_of session rest)
      → IsWholeSession inside (statements_of session (round_of inside ++ rest))
  own same plain true rest whole = rw same (plain, whole)
  own same plain false rest whole = rw same (refl, (plain, whole))

  -- another's
  others : ((place + 1) == session) ≡ false → (began inside : Bool) (rest : List Line)
      → IsWholeSession inside (statements_of session rest)
      → IsWholeSession inside (statements_of session (round_of began ++ rest))
  others apart true inside rest whole = rw apart whole
  others apart false inside rest whole = rw apart whole

-- ---- the end

-- nothing is said of a session before the first place
none_said : (session place : ℕ) (marks : List Bool) → session ≤ place → statements_of session (commits_from place marks) ≡ []
none_said session place [] before = refl
none_said session place (true ∷ marks) before =
    rw (ne_eqb (place + 1) session (λ (e : place + 1 ≡ session). omega arith)) (none_said session (place + 1) marks (omega arith))
none_said session place (false ∷ marks) before = none_said session (place + 1) marks (omega arith)

-- who is marked commits
commits_whole : (session place k : ℕ) (marks : List Bool) → session ≡ place + k + 1
    → IsWholeSession (get_or marks k false) (statements_of session (commits_from place marks))
commits_whole session place k [] is = refl
commits_whole session place zero (true ∷ marks) is =
    let e : ((place + 1) == session) ≡ true = eq-eqb (place + 1) session (omega arith) in
    rw e (refl, subst (IsWholeSession false) (sym (none_said session (place + 1) marks (omega arith))) refl)
commits_whole session place zero (false ∷ marks) is =
    subst (IsWholeSession false) (sym (none_said session (place + 1) marks (omega arith))) refl
commits_whole session place (suc k) (true ∷ marks) is =
    rw (ne_eqb (place + 1) session (λ (e : place + 1 ≡ session). omega arith)) (commits_whole session (place + 1) k marks (omega arith))
commits_whole session place (suc k) (false ∷ marks) is = commits_whole session (place + 1) k marks (omega arith)

-- ---- all rounds

-- behind a round the session that had it is where its statement left it, and the others are where they were
one_round : (i state p : ℕ) (marks : List Bool) (rest : List Line) → 0 < length marks
    → IsWholeSession (get_or (marks_behind state marks) p false) (statements_of (p + 1) rest)
    → IsWholeSession (get_or marks p false) (statements_of (p + 1) (round_lines i state marks ++ rest))
one_round i state p marks rest some whole =
    let q : ℕ = place_at (length marks) state in
    let low : q < length marks = mod-lt (number_of_draw (stepped state)) some in
    let s : Statement = statement_at i state in
    ⊎_elim
    (λ (e : p ≡ q).
    let left : get_or (marks_behind state marks) p false ≡ not (is_end s) =
    ap (λ (k : ℕ). get_or (marks_behind state marks) k false) e
    ∙ get_or-set_same marks q (not (is_end_at state)) false low
    ∙ ap not (sym (is_end-at i state)) in
    subst (λ (k : ℕ). IsWholeSession (get_or marks k false) (statements_of (p + 1) (round_lines i state marks ++ rest))) (sym e)
    (own (p + 1) q s (eq-eqb (q + 1) (p + 1) (omega arith)) (is_begin-at i state) (get_or marks q false) rest
    (subst (λ (b : Bool). IsWholeSession b (statements_of (p + 1) rest)) left whole)))
    (λ (ne : p ≡ q → ⊥).
    others (p + 1) q s (ne_eqb (q + 1) (p + 1) (λ (e : q + 1 ≡ p + 1). ne (omega arith))) (get_or marks q false) (get_or marks p false) rest
    (subst (λ (b : Bool). IsWholeSession b (statements_of (p + 1) rest)) (get_or-set_other marks q p (not (is_end_at state)) false ne) whole))
    (cases_eq p q)

rounds_whole : (n i state p : ℕ) (marks : List Bool) → 0 < length marks
    → IsWholeSession (get_or marks p false) (statements_of (p + 1) (rounds_from n i state marks))
rounds_whole zero i state p marks some = commits_whole (p + 1) 0 p marks (omega arith)
rounds_whole (suc n) i state p marks some =
    let kept : length (marks_behind state marks) ≡ length marks = length-set marks _ _ in
    one_round i state p marks (rounds_from n (i + 1) (state_behind state) (marks_behind state marks)) some
    (rounds_whole n (i + 1) (state_behind state) p (marks_behind state marks) (omega arith))

-- ---- the first three lines

none_marked : (n p : ℕ) → get_or (replicate n false) p false ≡ false
none_marked zero p = refl
none_marked (suc n) zero = refl
none_marked (suc n) (suc p) = none_marked n p

table_whole : (session : ℕ) (rest : List Line) → IsWholeSession false (statements_of session rest) → IsWholeSession false (statements_of session (table_lines ++ rest))
table_whole session rest whole =
    ⊎_elim
    (λ (e : session ≡ 1). let same : (1 == session) ≡ true = eq-eqb 1 session (sym e) in rw same (refl, (refl, (refl, whole))))
    (λ (ne : session ≡ 1 → ⊥). let apart : (1 == session) ≡ false = ne_eqb 1 session (λ (e : 1 ≡ session). ne (sym e)) in rw apart whole)
    (cases_eq session 1)

pub transactions_are_whole : TransactionsAreWhole
transactions_are_whole sessions count seed session some one =
    let p : ℕ = session - 1 in
    let is : p + 1 ≡ session = omega arith in
    let marks : List Bool = replicate sessions false in
    let all : 0 < length marks = omega (arith, length-replicate sessions false) in
    let rest : IsWholeSession false (statements_of (p + 1) (rounds_from count 1 seed marks)) =
    subst (λ (b : Bool). IsWholeSession b (statements_of (p + 1) (rounds_from count 1 seed marks))) (none_marked sessions p) (rounds_whole count 1 seed p marks all) in
    table_whole session (rounds_from count 1 seed marks)
    (subst (λ (k : ℕ). IsWholeSession false (statements_of k (rounds_from count 1 seed marks))) is rest)
