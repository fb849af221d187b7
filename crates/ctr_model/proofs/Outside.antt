-- What holds after each reply to a session in no transaction, by its three kinds of step: a transaction
-- begins, a name is released, or nothing changes.
use Rattle.std.proofs.Common.{ℕ, List, Option}
use Rattle.ctr_types.specs.declared.statement.Statement.{Statement}
use Rattle.ctr_types.specs.declared.tape.Act.{Act}
use Rattle.ctr_types.specs.declared.tape.Act.TheVariants as act
use Rattle.ctr_types.specs.declared.tape.Reply.{Reply}
use Rattle.ctr_types.specs.declared.tape.Reply.TheVariants as reply
use Rattle.ctr_types.specs.declared.tape.Refusal.TheVariants as refusal
use Rattle.ctr_model.specs.declared.state.State.{State}
use Rattle.ctr_model.specs.State.{with_transaction, begun}
use Rattle.ctr_model.specs.Reply.{reply_outside, without_name, released, next_outside}

-- the state without a name that recovery held
abbrev pub less : State → List ℕ → State
less state name = record state { stuck = without_name name state.stuck }

-- the reply begins a transaction, refuses, or tells that a name was released
pub reply_outside-cases : (P : Act → Reply → Type 0) (state : State) → P act.Begin (reply.Began state.answered) → ((a : Act) → P a (reply.Refused refusal.NoTransaction))
    → ((name : List ℕ) → P (act.Release name) reply.Released) → (a : Act) → P a (reply_outside state a)
reply_outside-cases P state begins refuses releases act.Begin = begins
reply_outside-cases P state begins refuses releases act.Read = refuses act.Read
reply_outside-cases P state begins refuses releases act.Lock = refuses act.Lock
reply_outside-cases P state begins refuses releases act.Write = refuses act.Write
reply_outside-cases P state begins refuses releases act.Ask = refuses act.Ask
reply_outside-cases P state begins refuses releases act.Answer = refuses act.Answer
reply_outside-cases P state begins refuses releases act.Rollback = refuses act.Rollback
reply_outside-cases P state begins refuses releases (act.Release name) = releases name

-- a release leaves the state, or one name less
pub released-cases : (P : State → Type 0) (state : State) → P state → ((name : List ℕ) → P (less state name)) → (a : Act) → P (released a state)
released-cases P state same fewer act.Begin = same
released-cases P state same fewer act.Read = same
released-cases P state same fewer act.Lock = same
released-cases P state same fewer act.Write = same
released-cases P state same fewer act.Ask = same
released-cases P state same fewer act.Answer = same
released-cases P state same fewer act.Rollback = same
released-cases P state same fewer (act.Release name) = fewer name

-- the next state is that with a transaction begun, the same, or one with a name less
pub next_outside-cases : (P : Reply → State → Type 0) (state : State) (s : ℕ) → ((n : ℕ) → P (reply.Began n) (with_transaction s (begun n) state)) → ((r : Reply) → P r state)
    → ((name : List ℕ) → P reply.Released (less state name)) → (a : Act) (of : Option Statement) (r : Reply) → P r (next_outside state s a of r)
next_outside-cases P state s begins same fewer a of (reply.Began n) = begins n
next_outside-cases P state s begins same fewer a of reply.Granted = same reply.Granted
next_outside-cases P state s begins same fewer a of (reply.Rows rows) = same (reply.Rows rows)
next_outside-cases P state s begins same fewer a of reply.Done = same reply.Done
next_outside-cases P state s begins same fewer a of (reply.Asked k) = same (reply.Asked k)
next_outside-cases P state s begins same fewer a of reply.ReadOnly = same reply.ReadOnly
next_outside-cases P state s begins same fewer a of (reply.Answered k) = same (reply.Answered k)
next_outside-cases P state s begins same fewer a of reply.RolledBack = same reply.RolledBack
next_outside-cases P state s begins same fewer a of reply.Released = released-cases (P reply.Released) state (same reply.Released) fewer a
next_outside-cases P state s begins same fewer a of (reply.Refused why) = same (reply.Refused why)
