-- Recovery releases a name of those that it holds.
use Rattle.std.proofs.Common.{◌≡◌, ℕ, ◌+◌, ◌-◌, ◌^◌, ◌≤◌, ◌<◌, true, false, cond, List, [], ◌∷◌, length, Some, sym, ap, subst, arith}
use Rattle.std.specs.Prelude.{not, ◌||◌, vec_len, vec_capacity}
use Rattle.std.specs.List.{AllByRecursion}
use Rattle.std.proofs.lemmas.Bool.{false≢true}
use Rattle.ctr_types.specs.declared.statement.Line.{Line}
use Rattle.ctr_types.specs.declared.statement.Statement.{Statement}
use Rattle.ctr_types.specs.declared.statement.Statement.TheVariants as st
use Rattle.ctr_model.specs.Reply.{without_name}
use Rattle.ctr_model.specs.State.{has_name, same_name}
use Rattle.ctr_model.specs.Tape.{statement_of}
use Rattle.ctr_control.specs.txn_Held.{IsOneOfEight, txn_of}
use Rattle.ctr_control.specs.ctr_session_world.Ready.{is_asking}
use Rattle.ctr_control.specs.ctr_writing.Tables.{HasFittingColumns}
use Rattle.ctr_exec.specs.declared.runners.Stage.TheVariants as stage
use Rattle.ctr_exec.specs.declared.sessions.Sessions.{Sessions}
use Rattle.ctr_exec.specs.Acting.{MayAct}
use Rattle.ctr_exec.specs.Runners.{runner_at, all_left, AreRunners}
use Rattle.ctr_exec.specs.Sessions.{AreSeated, IsReleased}

-- ---- the names that are left

module _ (name : List ℕ) where
  most : (names : List (List ℕ)) → length (without_name name names) ≤ length names
  most [] = omega arith
  most (n ∷ ns) = elim (same_name n name) as (λ b. length (cond (not b) (n ∷ without_name name ns) (without_name name ns)) ≤ length (n ∷ ns)) [
    | true ↦ let rest = most ns in omega (arith, rest)
    | false ↦ let rest = most ns in omega (arith, rest)
  ]

  -- where it is one of them, they are fewer without it
  pub fewer : (names : List (List ℕ)) → has_name name names ≡ true → length (without_name name names) < length names
  fewer [] there = absurd (false≢true there)
  fewer (n ∷ ns) there = elim (same_name n name) as (λ b. (b || has_name name ns) ≡ true → length (cond (not b) (n ∷ without_name name ns) (without_name name ns)) < length (n ∷ ns)) [
    | true ↦ λ is. let rest = most ns in omega (arith, rest)
    | false ↦ λ is. let rest = fewer ns is in omega (arith, rest)
  ] there

-- ---- the sessions

-- the tape has room for it
pub room_there : (h : Sessions) (m : ℕ) (name : List ℕ) → AreSeated h m → has_name name h.stuck ≡ true → vec_len h.tape < vec_capacity h.tape
room_there h m name seats there = let room = seats.room in let less = fewer name h.stuck there in omega (arith, room, less)

-- who might take a turn may still
pub released_seats : (h now : Sessions) (m moment : ℕ) (name : List ℕ) → has_name name h.stuck ≡ true → IsReleased name moment h now → vec_len now.tape ≡ vec_len h.tape + 1 → vec_capacity now.tape ≡ vec_capacity h.tape
    → AreSeated h m → AreSeated now m
released_seats h now m moment name there is len capacity seats = record {
  eight = subst (λ (z : Sessions). length z.runners.items ≡ 8) (sym is.same) seats.eight;
  few = subst (λ (z : Sessions). length z.script.lines < 2 ^ 32 - 1) (sym is.same) seats.few;
  runners = subst (λ (z : Sessions). AreRunners z.script.lines 1 z.runners.items) (sym is.same) seats.runners;
  fit = subst (λ (z : Sessions). AllByRecursion (λ (l : Line). HasFittingColumns l.statement) z.script.lines) (sym is.same) seats.fit;
  room =
      let room = seats.room in
      let left = ap (λ (z : Sessions). all_left z.runners.items) is.same in
      let held = ap length is.stuck in
      let less = fewer name h.stuck there in
      omega (arith, room, left, held, less, len, capacity);
  asked = subst (λ (z : Sessions). (s : ℕ) → IsOneOfEight s → is_asking (txn_of s z.txns) ≡ true → (runner_at s z.runners.items).stage ≡ stage.Asked) (sym is.same) seats.asked;
  commits = subst (λ (z : Sessions). (s : ℕ) → IsOneOfEight s → (runner_at s z.runners.items).stage ≡ stage.Asked → statement_of z.script.lines s ((runner_at s z.runners.items).finished + 1) ≡ Some st.Commit) (sym is.same) seats.commits;
  waits = subst (λ (z : Sessions). (s : ℕ) → IsOneOfEight s → (runner_at s z.runners.items).stage ≡ stage.Asked → is_asking (txn_of s z.txns) ≡ true) (sym is.same) seats.waits;
  may = subst (λ (z : Sessions). (s : ℕ) (statement : Statement) → IsOneOfEight s → statement_of z.script.lines s ((runner_at s z.runners.items).finished + 1) ≡ Some statement
      → ((runner_at s z.runners.items).stage ≡ stage.Asked → ⊥) → MayAct (runner_at s z.runners.items).stage s statement z.txns m) (sym is.same) seats.may;
}
