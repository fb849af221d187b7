-- The places of each session's lines: what stands there, and that all of them are as many as the lines.
use Rattle.std.proofs.Common.{◌≡◌, ◌==◌, ◌+◌, ◌-◌, ◌*◌, ◌≤◌, ◌<◌, ℕ, zero, suc, true, false, cond, List, ◌++◌, ◌∷◌, [], length, map, get_or, Some, refl, sym, ◌∙◌, ap, subst, arith}
use Rattle.std.specs.Prelude.{slice_get, slice_set, is_some, unwrap_or}
use Rattle.std.specs.List.{AllByRecursion, filter, sum_by}
use Rattle.std.proofs.lemmas.Bool.{false≢true, eqb-true, ne_eqb}
use Rattle.std.proofs.lemmas.Option.{slice_get-get_or}
use Rattle.std.proofs.lemmas.List.Sums.{sum_by-cons}
use Rattle.ctr_types.specs.declared.statement.Line.{Line}
use Rattle.ctr_types.specs.declared.statement.Statement.{Statement}
use Rattle.ctr_model.specs.Tape.{statements_of, statement_of}
use Rattle.ctr_model.proofs.Sessions.{known}
use Rattle.ctr_exec.specs.declared.runners.Runner.{Runner}
use Rattle.ctr_exec.specs.Runners.{IsNextLine, places_of, vacant, IsRunnerOf, AreRunners, IsUnbegun, acts_left, all_left}

-- ---- what stands at a place

abbrev texts : List Line → List Statement
texts ls = map (λ (l : Line). l.statement) ls

-- the line at the i-th place of lines, before which n stand, is the k-th of these statements
record HasLine (n : ℕ) (ls : List Line) (statements : List Statement) (k i : ℕ) : Type 0 where
  least : n ≤ i
  line : Line
  there : slice_get ls (i - n) ≡ Some line
  statement : slice_get statements k ≡ Some line.statement

none_there : {X : Type 0} (k : ℕ) (x : X) → slice_get [] k ≡ Some x → ⊥
none_there zero x at = false≢true (ap is_some at)
none_there (suc k) x at = false≢true (ap is_some at)

first_line : (n i : ℕ) (l : Line) (ls : List Line) (statements : List Statement) → n ≡ i → HasLine n (l ∷ ls) (l.statement ∷ statements) 0 i
first_line n i l ls statements is = record {
  least = omega (arith, is);
  line = l;
  there = ap (slice_get (l ∷ ls)) (here is);
  statement = refl;
}
  where
    here : n ≡ i → i - n ≡ 0
    here is = omega (arith, is)

later_line : (n i k : ℕ) (l : Line) (ls : List Line) (statements more : List Statement) (j : ℕ) → HasLine (n + 1) ls statements k i → ((x : Statement) → slice_get statements k ≡ Some x → slice_get more j ≡ Some x) → HasLine n (l ∷ ls) more j i
later_line n i k l ls statements more j is step = record {
  least = let least = is.least in omega (arith, least);
  line = is.line;
  there = ap (slice_get (l ∷ ls)) (behind is.least) ∙ is.there;
  statement = step is.line.statement is.statement;
}
  where
    behind : n + 1 ≤ i → i - n ≡ suc (i - (n + 1))
    behind least = omega (arith, least)

line_at : (s n : ℕ) (ls : List Line) (k i : ℕ) → slice_get (places_of s n ls) k ≡ Some i → HasLine n ls (statements_of s ls) k i
line_at s n [] k i is = absurd (none_there k i is)
line_at s n (l ∷ ls) k i is =
    elim (l.session == s) as (λ b. slice_get (cond b (n ∷ places_of s (n + 1) ls) (places_of s (n + 1) ls)) k ≡ Some i
    → HasLine n (l ∷ ls) (texts (cond b (l ∷ filter (λ (x : Line). x.session == s) ls) (filter (λ (x : Line). x.session == s) ls))) k i) [
      | true ↦ λ at. mine (λ k at. line_at s (n + 1) ls k i at) k at
      | false ↦ λ at. later_line n i k l ls (statements_of s ls) (statements_of s ls) k (line_at s (n + 1) ls k i at) (λ x there. there)
    ] is
  where
    mine : ((k : ℕ) → slice_get (places_of s (n + 1) ls) k ≡ Some i → HasLine (n + 1) ls (statements_of s ls) k i) → (k : ℕ) → slice_get (n ∷ places_of s (n + 1) ls) k ≡ Some i → HasLine n (l ∷ ls) (l.statement ∷ statements_of s ls) k i
    mine more zero at = first_line n i l ls (statements_of s ls) (ap (λ o. unwrap_or o i) at)
    mine more (suc k) at = later_line n i k l ls (statements_of s ls) (l.statement ∷ statements_of s ls) (suc k) (more k at) (λ x there. there)

pub next_line : (lines : List Line) (s finished i : ℕ) → slice_get (places_of s 0 lines) finished ≡ Some i → IsNextLine lines s finished i
next_line lines s finished i is =
    let at = line_at s 0 lines finished i is in
    record {
      line = at.line;
      there = ap (slice_get lines) from_start ∙ at.there;
      named = ap (statement_of lines s) more ∙ at.statement;
    }
  where
    from_start : i ≡ i - 0
    from_start = omega (arith)

    more : finished + 1 ≡ suc finished
    more = omega (arith)

pub count_of : (s n : ℕ) (ls : List Line) → length (places_of s n ls) ≡ length (statements_of s ls)
count_of s n [] = refl
count_of s n (l ∷ ls) = elim (l.session == s) as (λ b. length (cond b (n ∷ places_of s (n + 1) ls) (places_of s (n + 1) ls)) ≡ length (texts (cond b (l ∷ filter (λ (x : Line). x.session == s) ls) (filter (λ (x : Line). x.session == s) ls)))) [
  | true ↦ ap suc (count_of s (n + 1) ls)
  | false ↦ count_of s (n + 1) ls
]

-- ---- all places are as many as the lines at most

-- so many lines have the sessions from this one on, so many of them
abbrev total : ℕ → ℕ → ℕ → List Line → ℕ
total s zero n ls = 0
total s (suc k) n ls = length (places_of s n ls) + total (s + 1) k n ls

total_nil : (s k n : ℕ) → total s k n [] ≡ 0
total_nil s zero n = refl
total_nil s (suc k) n = let rest = total_nil (s + 1) k n in omega (arith, rest)

total_below : (s k n : ℕ) (l : Line) (ls : List Line) → l.session < s → total s k n (l ∷ ls) ≡ total s k (n + 1) ls
total_below s zero n l ls below = refl
total_below s (suc k) n l ls below =
    let here : length (places_of s n (l ∷ ls)) ≡ length (places_of s (n + 1) ls) = ap (λ b. length (cond b (n ∷ places_of s (n + 1) ls) (places_of s (n + 1) ls))) (ne_eqb l.session s (λ same. apart same)) in
    let rest = total_below (s + 1) k n l ls (omega (arith, below)) in
    (λ i. here i + rest i)
  where
    apart : l.session ≡ s → ⊥
    apart same = omega (arith, below, same)

total_one : (s k n : ℕ) (l : Line) (ls : List Line) → total s k n (l ∷ ls) ≤ total s k (n + 1) ls + 1
total_one s zero n l ls = omega (arith)
total_one s (suc k) n l ls = known (l.session == s)
    (λ same.
    let here = ap (λ b. length (cond b (n ∷ places_of s (n + 1) ls) (places_of s (n + 1) ls))) same in
    let rest = total_below (s + 1) k n l ls (below (eqb-true l.session s same)) in
    omega (arith, here, rest))
    (λ other.
    let here = ap (λ b. length (cond b (n ∷ places_of s (n + 1) ls) (places_of s (n + 1) ls))) other in
    let rest = total_one (s + 1) k n l ls in
    omega (arith, here, rest))
  where
    below : l.session ≡ s → l.session < s + 1
    below same = omega (arith, same)

total_within : (s k n : ℕ) (ls : List Line) → total s k n ls ≤ length ls
total_within s k n [] = let none = total_nil s k n in omega (arith, none)
total_within s k n (l ∷ ls) = let one = total_one s k n l ls in let rest = total_within s k (n + 1) ls in omega (arith, one, rest)

places_total : (lines : List Line) (s : ℕ) (rs : List Runner) → AreRunners lines s rs → sum_by (λ (r : Runner). length r.places) rs ≡ total s (length rs) 0 lines
places_total lines s [] are = refl
places_total lines s (r ∷ rs) are = sum_by-cons (λ (r : Runner). length r.places) r rs ∙ (λ i. length (are.0.places i) + places_total lines (s + 1) rs are.1 i)

pub places_within : (lines : List Line) (s : ℕ) (rs : List Runner) → AreRunners lines s rs → sum_by (λ (r : Runner). length r.places) rs ≤ length lines
places_within lines s rs are = let same = places_total lines s rs are in let within = total_within s (length rs) 0 lines in omega (arith, same, within)

-- a session has as many places as there are lines at most
pub places_most : (s n : ℕ) (ls : List Line) → length (places_of s n ls) ≤ length ls
places_most s n [] = omega (arith)
places_most s n (l ∷ ls) = elim (l.session == s) as (λ b. length (cond b (n ∷ places_of s (n + 1) ls) (places_of s (n + 1) ls)) ≤ length (l ∷ ls)) [
  | true ↦ let rest = places_most s (n + 1) ls in omega (arith, rest)
  | false ↦ let rest = places_most s (n + 1) ls in omega (arith, rest)
]

-- what stands at a place doesn't depend on what else would
pub same_default : (rs : List Runner) (i : ℕ) (d e : Runner) → i < length rs → get_or rs i d ≡ get_or rs i e
same_default [] i d e within = absurd (omega (arith, within))
same_default (r ∷ rs) zero d e within = refl
same_default (r ∷ rs) (suc i) d e within = same_default rs i d e (omega (arith, within))

-- the place that is read of a runner
pub taken_line : (lines : List Line) (s : ℕ) (mine runner : Runner) → IsRunnerOf lines s mine → mine.finished < length mine.places → mine ≡ runner → (ps : List ℕ) → ps ≡ runner.places
    → (get_or ps runner.finished 0 < length lines) × IsNextLine lines s mine.finished (get_or ps runner.finished 0)
taken_line lines s mine runner of more found ps places =
    let place : get_or mine.places mine.finished 0 ≡ get_or ps runner.finished 0 = (λ i. get_or ((ap (λ (r : Runner). r.places) found ∙ sym places) i) ((ap (λ (r : Runner). r.finished) found) i) 0) in
    let at : slice_get (places_of s 0 lines) mine.finished ≡ Some (get_or mine.places mine.finished 0) = ap (λ l. slice_get l mine.finished) (sym of.places) ∙ slice_get-get_or mine.places mine.finished 0 more in
    let line = next_line lines s mine.finished (get_or mine.places mine.finished 0) at in
    subst (λ n. (n < length lines) × IsNextLine lines s mine.finished n) place (inside lines (get_or mine.places mine.finished 0) line.line line.there, line)
  where
    inside : (ls : List Line) (i : ℕ) (x : Line) → slice_get ls i ≡ Some x → i < length ls
    inside [] i x is = absurd (none_there i x is)
    inside (l ∷ ls) zero x is = omega (arith)
    inside (l ∷ ls) (suc i) x is = let rest = inside ls i x is in omega (arith, rest)

-- what one of them has left all of them have
pub left_at : (rs : List Runner) (i : ℕ) → i < length rs → acts_left (get_or rs i vacant) ≤ all_left rs
left_at [] i within = absurd (omega (arith, within))
left_at (r ∷ rs) zero within = let all = sum_by-cons acts_left r rs in omega (arith, all)
left_at (r ∷ rs) (suc i) within = let all = sum_by-cons acts_left r rs in let rest = left_at rs i (omega (arith, within)) in omega (arith, all, rest)

-- ---- one runner of them

pub runner_of : (lines : List Line) (s : ℕ) (rs : List Runner) (i : ℕ) → AreRunners lines s rs → i < length rs → IsRunnerOf lines (s + i) (get_or rs i vacant)
runner_of lines s [] i are within = absurd (omega (arith, within))
runner_of lines s (r ∷ rs) zero are within = subst (λ n. IsRunnerOf lines n r) same are.0
  where
    same : s ≡ s + 0
    same = omega (arith)
runner_of lines s (r ∷ rs) (suc i) are within = subst (λ n. IsRunnerOf lines n (get_or rs i vacant)) same (runner_of lines (s + 1) rs i are.1 (omega (arith, within)))
  where
    same : s + 1 + i ≡ s + suc i
    same = omega (arith)

pub runners_set : (lines : List Line) (s : ℕ) (rs : List Runner) (i : ℕ) (x : Runner) → AreRunners lines s rs → i < length rs → IsRunnerOf lines (s + i) x → AreRunners lines s (slice_set rs i x)
runners_set lines s [] i x are within is = absurd (omega (arith, within))
runners_set lines s (r ∷ rs) zero x are within is = (subst (λ n. IsRunnerOf lines n x) same is, are.1)
  where
    same : s + 0 ≡ s
    same = omega (arith)
runners_set lines s (r ∷ rs) (suc i) x are within is = (are.0, runners_set lines (s + 1) rs i x are.1 (omega (arith, within)) (subst (λ n. IsRunnerOf lines n x) same is))
  where
    same : s + suc i ≡ s + 1 + i
    same = omega (arith)

-- ---- runners that are made

-- one more, behind the others
pub are_more : (lines : List Line) (s : ℕ) (rs : List Runner) (x : Runner) → AreRunners lines s rs → IsRunnerOf lines (s + length rs) x → AreRunners lines s (rs ++ x ∷ [])
are_more lines s [] x are is = (subst (λ n. IsRunnerOf lines n x) same is, tt)
  where
    same : s + 0 ≡ s
    same = omega (arith)
are_more lines s (r ∷ rs) x are is = (are.0, are_more lines (s + 1) rs x are.1 (subst (λ n. IsRunnerOf lines n x) same is))
  where
    same : s + suc (length rs) ≡ s + 1 + length rs
    same = omega (arith)

pub fresh_more : (rs : List Runner) (x : Runner) → AllByRecursion IsUnbegun rs → IsUnbegun x → AllByRecursion IsUnbegun (rs ++ x ∷ [])
fresh_more [] x are is = (is, tt)
fresh_more (r ∷ rs) x are is = (are.0, fresh_more rs x are.1 is)

pub fresh_at : (rs : List Runner) (i : ℕ) → AllByRecursion IsUnbegun rs → IsUnbegun (get_or rs i vacant)
fresh_at [] i are = record { none = refl; between = refl }
fresh_at (r ∷ rs) zero are = are.0
fresh_at (r ∷ rs) (suc i) are = fresh_at rs i are.1

-- what is left of them at the start: two acts of each line
pub fresh_left : (rs : List Runner) → AllByRecursion IsUnbegun rs → all_left rs ≤ 2 * sum_by (λ (r : Runner). length r.places) rs
fresh_left [] are = omega (arith)
fresh_left (r ∷ rs) are =
    let here = sum_by-cons acts_left r rs in
    let all = sum_by-cons (λ (r : Runner). length r.places) r rs in
    let rest = fresh_left rs are.1 in
    omega (arith, here, all, rest)
