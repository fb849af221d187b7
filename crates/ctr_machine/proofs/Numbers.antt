-- Numbers that a tape makes rise.
use Rattle.std.proofs.Common.{◌≡◌, ℕ, ◌+◌, ◌<◌, ◌≤◌, ◌^◌, List, Option, Some, None, refl, sym, ◌∙◌, ap, arith, inl, inr}
use Rattle.ctr_types.specs.declared.statement.Statement.{Statement}
use Rattle.ctr_types.specs.declared.statement.Line.{Line}
use Rattle.ctr_types.specs.declared.tape.Act.{Act}
use Rattle.ctr_types.specs.declared.tape.Reply.{Reply}
use Rattle.ctr_types.specs.declared.tape.Reply.TheVariants as reply
use Rattle.ctr_types.specs.declared.tape.Entry.{Entry}
use Rattle.ctr_model.specs.declared.state.State.{State}
use Rattle.ctr_model.specs.declared.state.Transaction.{Transaction}
use Rattle.ctr_model.specs.declared.tape.Point.{Point}
use Rattle.ctr_model.specs.State.{transaction_of}
use Rattle.ctr_model.specs.Reply.{next_inside, next_outside, next_from, next_state}
use Rattle.ctr_model.specs.Tape.{statement_of, Comes}
use Rattle.ctr_model.proofs.Outside.{next_outside-cases}
use Rattle.ctr_machine.specs.Follow.{HasStatementNumber}

inside : (state : State) (s : ℕ) (me : Transaction) (a : Act) (of : Option Statement) (r : Reply) → (next_inside state s me a of r).answered ≤ state.answered + 1
inside state s me a of (reply.Began n) = omega arith
inside state s me a of reply.Granted = omega arith
inside state s me a of (reply.Rows rows) = omega arith
inside state s me a of reply.Done = omega arith
inside state s me a of (reply.Asked k) = omega arith
inside state s me a of reply.ReadOnly = omega arith
inside state s me a of (reply.Answered k) = omega arith
inside state s me a of reply.RolledBack = omega arith
inside state s me a of reply.Released = omega arith
inside state s me a of (reply.Refused why) = omega arith

outside : (state : State) (s : ℕ) (a : Act) (of : Option Statement) (r : Reply) → (next_outside state s a of r).answered ≡ state.answered
outside state s = next_outside-cases (λ r new. new.answered ≡ state.answered) state s (λ n. refl) (λ r. refl) (λ name. refl)

-- an entry answers one commit at the most
pub answered-next : (state : State) (s : ℕ) (a : Act) (of : Option Statement) (r : Reply) → (next_state state s a of r).answered ≤ state.answered + 1
answered-next state s a of r = elim (transaction_of state s) as (λ f. (next_from state s f a of r).answered ≤ state.answered + 1) [
  | Some me ↦ inside state s me a of r
  | None ↦ omega (arith, outside state s a of r)
]

-- what comes next has a number
pub comes-number : (lines : List Line) (p : Point) (e : Entry) → e.statement < 2 ^ 64 → Comes lines p e → HasStatementNumber lines p e
comes-number lines p e small comes s is = elim comes.one_of [
  | inl next ↦ omega (arith, next.2.number, small)
  | inr release ↦ absurd (none (sym is ∙ ap (statement_of lines e.session) release.statement))
]
  where
    none : {A : Type 0} {x : A} → Some x ≡ None → ⊥
    none is = cc
