-- What a reply is, by the act that it answers.
use Rattle.std.proofs.Common.{◌≡◌, ⊎_elim, ℕ, true, false, Option, Some, None, refl, sym, ◌∙◌, ap}
use Rattle.std.specs.Prelude.{is_some}
use Rattle.std.proofs.lemmas.Bool.{false≢true}
use Rattle.ctr_types.specs.declared.statement.Statement.{Statement}
use Rattle.ctr_types.specs.declared.statement.Statement.TheVariants as st
use Rattle.ctr_types.specs.declared.tape.Act.{Act}
use Rattle.ctr_types.specs.declared.tape.Act.TheVariants as act
use Rattle.ctr_types.specs.declared.tape.Reply.{Reply}
use Rattle.ctr_types.specs.declared.tape.Reply.TheVariants as reply
use Rattle.ctr_types.specs.declared.tape.Refusal.{Refusal}
use Rattle.ctr_model.specs.declared.state.State.{State}
use Rattle.ctr_model.specs.declared.state.Transaction.{Transaction}
use Rattle.ctr_model.specs.Laws.{is_asked}
use Rattle.ctr_model.specs.Refusals.{key_written, refusal_of, write_refusal}
use Rattle.ctr_model.specs.Reply.{refused_or, reply_inside, reply_outside, reply_from, reply_to, MayStandFor, IsWantOfRoom}
use Rattle.ctr_model.specs.State.{transaction_of, view}
use Rattle.ctr_model.specs.Tape.{Allowed}
use Rattle.ctr_exec.specs.Acting.{number_told, IsIdleFor}

-- ---- which act is answered by Asked

asked_not : {A : Type 0} (r : Reply) (k : ℕ) → is_asked r ≡ false → r ≡ reply.Asked k → A
asked_not r k isnt is = absurd (false≢true (sym isnt ∙ ap is_asked is))

refused_never : (o : Option Refusal) (r : Reply) → is_asked r ≡ false → is_asked (refused_or o r) ≡ false
refused_never None r is = is
refused_never (Some why) r is = refl

inside : (state : State) (s : ℕ) (me : Transaction) (x : Act) (statement : Statement) (k : ℕ) → reply_inside state s me x statement ≡ reply.Asked k → x ≡ act.Ask
inside state s me act.Begin statement k is = asked_not _ k refl is
inside state s me act.Read statement k is = asked_not _ k (refused_never (refusal_of state s me act.Read statement) _ refl) is
inside state s me act.Lock statement k is = asked_not _ k (refused_never (refusal_of state s me act.Lock statement) _ refl) is
inside state s me act.Write statement k is = asked_not _ k (refused_never (write_refusal (view state me) statement) reply.Done refl) is
inside state s me act.Ask statement k is = refl
inside state s me act.Answer statement k is = asked_not _ k refl is
inside state s me act.Rollback statement k is = asked_not _ k refl is
inside state s me (act.Release name) statement k is = asked_not _ k refl is

outside : (state : State) (x : Act) (k : ℕ) → reply_outside state x ≡ reply.Asked k → x ≡ act.Ask
outside state act.Begin k is = asked_not _ k refl is
outside state act.Read k is = asked_not _ k refl is
outside state act.Lock k is = asked_not _ k refl is
outside state act.Write k is = asked_not _ k refl is
outside state act.Ask k is = refl
outside state act.Answer k is = asked_not _ k refl is
outside state act.Rollback k is = asked_not _ k refl is
outside state (act.Release name) k is = asked_not _ k refl is

room_never : {A : Type 0} (statement : Statement) (k : ℕ) → IsWantOfRoom statement (reply.Asked k) → A
room_never st.Begin k is = absurd is
room_never st.Commit k is = absurd is
room_never st.Rollback k is = absurd is
room_never (st.Create table schema) k is = asked_not _ k refl (sym is)
room_never (st.DropTable table) k is = absurd is
room_never (st.Insert table values) k is = asked_not _ k refl (sym is)
room_never (st.Select table at) k is = absurd is
room_never (st.Update table sets at) k is = asked_not _ k refl (sym is)
room_never (st.Delete table at) k is = asked_not _ k refl (sym is)

stands_never : {A : Type 0} (statement : Statement) (given : Reply) (k : ℕ) → MayStandFor statement given (reply.Asked k) → A
stands_never statement (reply.Began n) k is = asked_not _ k refl (sym is)
stands_never statement reply.Granted k is = asked_not _ k refl (sym is)
stands_never statement (reply.Rows rows) k is = asked_not _ k refl (sym is)
stands_never statement reply.Done k is = room_never statement k is
stands_never statement (reply.Asked j) k is = absurd is
stands_never statement reply.ReadOnly k is = absurd is
stands_never statement (reply.Answered j) k is = absurd is
stands_never statement reply.RolledBack k is = absurd is
stands_never statement reply.Released k is = absurd is
stands_never statement (reply.Refused why) k is = absurd is

pub asks_alone : (state : State) (s : ℕ) (x : Act) (statement : Statement) (k : ℕ) → Allowed state s x statement (reply.Asked k) → x ≡ act.Ask
asks_alone state s x statement k allowed = ⊎_elim
    (λ is. elim (transaction_of state s) as (λ (o : Option Transaction). reply_from state s o x statement ≡ reply.Asked k → x ≡ act.Ask) [ Some t ↦ inside state s t x statement k | None ↦ outside state x k ] (sym is))
    (λ stands. stands_never statement (reply_to state s x (Some statement)) k stands)
    allowed

-- ---- the number that is told

pub asked_is : (r : Reply) (k : ℕ) → number_told r ≡ Some k → r ≡ reply.Asked k
asked_is (reply.Began n) k is = absurd (false≢true (ap is_some is))
asked_is reply.Granted k is = absurd (false≢true (ap is_some is))
asked_is (reply.Rows rows) k is = absurd (false≢true (ap is_some is))
asked_is reply.Done k is = absurd (false≢true (ap is_some is))
asked_is (reply.Asked j) k is = ap reply.Asked (cc is)
asked_is reply.ReadOnly k is = absurd (false≢true (ap is_some is))
asked_is (reply.Answered j) k is = absurd (false≢true (ap is_some is))
asked_is reply.RolledBack k is = absurd (false≢true (ap is_some is))
asked_is reply.Released k is = absurd (false≢true (ap is_some is))
asked_is (reply.Refused why) k is = absurd (false≢true (ap is_some is))

pub asked_isnt : (r : Reply) (k : ℕ) → number_told r ≡ None → r ≡ reply.Asked k → ⊥
asked_isnt r k none is = false≢true (ap is_some (sym none ∙ ap number_told is))

pub asks_none : (r : Reply) → number_told r ≡ None → is_asked r ≡ false
asks_none (reply.Began n) is = refl
asks_none reply.Granted is = refl
asks_none (reply.Rows rows) is = refl
asks_none reply.Done is = refl
asks_none (reply.Asked j) is = absurd (false≢true (ap is_some (sym is)))
asks_none reply.ReadOnly is = refl
asks_none (reply.Answered j) is = refl
asks_none reply.RolledBack is = refl
asks_none reply.Released is = refl
asks_none (reply.Refused why) is = refl

-- ---- statements that write are no ROLLBACK

pub idle_of_key : {X : Type 0} (statement : Statement) → is_some (key_written statement) ≡ true → IsIdleFor statement X → X
idle_of_key st.Begin is x = x
idle_of_key st.Commit is x = x
idle_of_key st.Rollback is x = absurd (false≢true is)
idle_of_key (st.Create table schema) is x = x
idle_of_key (st.DropTable table) is x = x
idle_of_key (st.Insert table values) is x = x
idle_of_key (st.Select table at) is x = x
idle_of_key (st.Update table sets at) is x = x
idle_of_key (st.Delete table at) is x = x
