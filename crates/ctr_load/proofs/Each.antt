-- What each line is, all are.
use Rattle.std.proofs.Common.{◌≡◌, ℕ, zero, suc, ◌+◌, ◌<◌, ◌≤◌, Bool, true, false, cond, List, [], ◌∷◌, ◌++◌, length, get_or, replicate, ◌∙◌, arith}
use Rattle.std.proofs.Math.Nat.{mod-lt}
use Rattle.std.proofs.Math.ListN.{length-set, length-replicate}
use Rattle.std.specs.List.{AllByRecursion}
use Rattle.ctr_types.specs.declared.statement.Line.{Line}
use Rattle.ctr_types.specs.declared.statement.Statement.TheVariants as st
use Rattle.ctr_load.specs.Draws.{number_of_draw, stepped, place_at, state_behind}
use Rattle.ctr_load.specs.Statements.{create_load}
use Rattle.ctr_load.specs.Generated.{line_at, statement_at, round_lines, marks_behind, commits_from, rounds_from, generated}
use Rattle.ctr_load.specs.Whole.{SessionsAreThese}

all-append : {X : Type 0} (P : X → Type 0) (xs ys : List X) → AllByRecursion P xs → AllByRecursion P ys → AllByRecursion P (xs ++ ys)
all-append P [] ys a b = b
all-append P (x ∷ xs) ys a b = (a.0, all-append P xs ys a.1 b)

-- A property that the statements of a round have at each place below this one, up to a round, and with
-- them BEGIN, COMMIT and the making of the table.
pub record HoldsAt (P : Line → Type 0) (sessions top : ℕ) : Type 0 where
  pub begins : (q : ℕ) → q < sessions → P (line_at q st.Begin)
  pub commits : (q : ℕ) → q < sessions → P (line_at q st.Commit)
  pub creates : P (line_at 0 create_load)
  pub says : (q i state : ℕ) → q < sessions → i ≤ top → P (line_at q (statement_at i state))

module _ (P : Line → Type 0) (sessions top : ℕ) (holds : HoldsAt P sessions top) (some : 1 ≤ sessions) where
  commits_all : (place : ℕ) (marks : List Bool) → place + length marks ≤ sessions → AllByRecursion P (commits_from place marks)
  commits_all place [] few = tt
  commits_all place (true ∷ marks) few = (holds.commits place (omega arith), commits_all (place + 1) marks (omega arith))
  commits_all place (false ∷ marks) few = commits_all (place + 1) marks (omega arith)

  round_all : (inside : Bool) (q i state : ℕ) → q < sessions → i ≤ top
      → AllByRecursion P (cond inside [] (line_at q st.Begin ∷ []) ++ line_at q (statement_at i state) ∷ [])
  round_all true q i state low few = (holds.says q i state low few, tt)
  round_all false q i state low few = (holds.begins q low, (holds.says q i state low few, tt))

  rounds_all : (n i state : ℕ) (marks : List Bool) → length marks ≡ sessions → n + i ≤ top + 1 → AllByRecursion P (rounds_from n i state marks)
  rounds_all zero i state marks is few = commits_all 0 marks (omega arith)
  rounds_all (suc n) i state marks is few =
      let q : ℕ = place_at (length marks) state in
      let low : q < length marks = mod-lt (number_of_draw (stepped state)) (omega arith) in
      all-append P (round_lines i state marks) (rounds_from n (i + 1) (state_behind state) (marks_behind state marks))
      (round_all (get_or marks q false) q i state (omega arith) (omega arith))
      (rounds_all n (i + 1) (state_behind state) (marks_behind state marks) (length-set marks q _ ∙ is) (omega arith))

  pub all_hold : (seed : ℕ) → AllByRecursion P (generated sessions top seed)
  all_hold seed = (holds.begins 0 (omega arith), (holds.creates, (holds.commits 0 (omega arith), rounds_all top 1 seed (replicate sessions false) (length-replicate sessions false) (omega arith))))

pub sessions_are_these : SessionsAreThese
sessions_are_these sessions count seed some =
    all_hold (λ l. (1 ≤ l.session) × (l.session ≤ sessions)) sessions count
    (record {
      begins = λ q low. (omega arith, omega arith);
      commits = λ q low. (omega arith, omega arith);
      creates = (omega arith, omega arith);
      says = λ q i state low few. (omega arith, omega arith);
    })
    some seed
