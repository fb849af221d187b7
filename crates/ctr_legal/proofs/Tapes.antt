-- What holds along a tape of whichever sessions: the base stays, what was asked stays before what is
-- asked later, no name is held by recovery where none was, and its answers are the commits answered.
use Rattle.std.proofs.Common.{◌≡◌, ◌⊎◌, ⊎_elim, ℕ, ◌+◌, cond, List, [], ◌∷◌, ◌++◌, Option, Some, None, refl, sym, ◌∙◌, ap, subst, arith}
use Rattle.std.proofs.lemmas.List.{append-nil, append_assoc}
use Rattle.ctr_types.specs.declared.statement.Statement.{Statement}
use Rattle.ctr_types.specs.declared.statement.Line.{Line}
use Rattle.ctr_types.specs.declared.tape.Act.{Act}
use Rattle.ctr_types.specs.declared.tape.Reply.{Reply}
use Rattle.ctr_types.specs.declared.tape.Reply.TheVariants as reply
use Rattle.ctr_types.specs.declared.tape.Entry.{Entry}
use Rattle.ctr_model.specs.declared.database.Change.{Change}
use Rattle.ctr_model.specs.declared.state.State.{State}
use Rattle.ctr_model.specs.declared.state.Transaction.{Transaction}
use Rattle.ctr_model.specs.declared.tape.Point.{Point}
use Rattle.ctr_model.specs.State.{transaction_of}
use Rattle.ctr_model.specs.Reply.{reply_outside, reply_from, MayStandFor, without_name, next_inside, next_outside, next_from, next_state}
use Rattle.ctr_model.specs.Tape.{statement_of, passed, final, Legal, Comes, Allowed, is_answer}
use Rattle.ctr_model.specs.Texts.{answers}
use Rattle.ctr_model.specs.Laws.{StatesGrow, asked_by}
use Rattle.ctr_model.proofs.Outside.{reply_outside-cases, next_outside-cases}

pub final_append : (lines : List Line) (p : Point) (es more : List Entry) → final lines p (es ++ more) ≡ final lines (final lines p es) more
final_append lines p [] more = refl
final_append lines p (e ∷ es) more = final_append lines (passed lines p e) es more

pub base_on : StatesGrow → (lines : List Line) (p : Point) (es : List Entry) → (final lines p es).state.base ≡ p.state.base
base_on grow lines p [] = refl
base_on grow lines p (e ∷ es) = base_on grow lines (passed lines p e) es ∙ (grow p.state e.session e.act (statement_of lines e.session e.statement) e.reply).base

-- what is asked in a stretch comes behind what was asked before
pub asked_on : StatesGrow → (lines : List Line) (p : Point) (es : List Entry) → (more : List (List Change)) × ((final lines p es).state.asked ≡ p.state.asked ++ more)
asked_on grow lines p [] = ([], sym (append-nil p.state.asked))
asked_on grow lines p (e ∷ es) =
    let rest = asked_on grow lines (passed lines p e) es in
    let one = grow p.state e.session e.act (statement_of lines e.session e.statement) e.reply in
    let first = asked_by e.reply (transaction_of p.state e.session) in
    (first ++ rest.0, rest.1 ∙ ap (λ (l : List (List Change)). l ++ rest.0) one.asked ∙ append_assoc p.state.asked first rest.0)

-- ---- names that recovery holds

inside_none : (state : State) (s : ℕ) (me : Transaction) (a : Act) (of : Option Statement) (r : Reply) → state.stuck ≡ [] → (next_inside state s me a of r).stuck ≡ []
inside_none state s me a of (reply.Began n) none = none
inside_none state s me a of reply.Granted none = none
inside_none state s me a of (reply.Rows rows) none = none
inside_none state s me a of reply.Done none = none
inside_none state s me a of (reply.Asked k) none = none
inside_none state s me a of reply.ReadOnly none = none
inside_none state s me a of (reply.Answered k) none = none
inside_none state s me a of reply.RolledBack none = none
inside_none state s me a of reply.Released none = none
inside_none state s me a of (reply.Refused why) none = none

outside_none : (state : State) (s : ℕ) (a : Act) (of : Option Statement) (r : Reply) → state.stuck ≡ [] → (next_outside state s a of r).stuck ≡ []
outside_none state s a of r none = next_outside-cases (λ r new. new.stuck ≡ []) state s (λ n. none) (λ r. none) (λ name. ap (without_name name) none) a of r

next_none : (state : State) (s : ℕ) (a : Act) (of : Option Statement) (r : Reply) → state.stuck ≡ [] → (next_state state s a of r).stuck ≡ []
next_none state s a of r none = elim (transaction_of state s) as (λ o. (next_from state s o a of r).stuck ≡ []) [
  | Some me ↦ inside_none state s me a of r none
  | None ↦ outside_none state s a of r none
]

pub stuck_on : (lines : List Line) (p : Point) (es : List Entry) → p.state.stuck ≡ [] → (final lines p es).state.stuck ≡ []
stuck_on lines p [] none = none
stuck_on lines p (e ∷ es) none = stuck_on lines (passed lines p e) es (next_none p.state e.session e.act (statement_of lines e.session e.statement) e.reply none)

-- ---- commits that are answered

abbrev one_if : Reply → ℕ
one_if r = cond (is_answer r) 1 0

-- a session in no transaction isn't answered a commit
outside_unanswered : (state : State) (a : Act) (statement : Statement) (r : Reply) → (r ≡ reply_outside state a) ⊎ MayStandFor statement (reply_outside state a) r → one_if r ≡ 0
outside_unanswered state a statement r = reply_outside-cases (λ a given. (r ≡ given) ⊎ MayStandFor statement given r → one_if r ≡ 0) state
    (⊎_elim (λ is. ap one_if is) (λ is. ap one_if is)) (λ a. ⊎_elim (λ is. ap one_if is) (λ is. absurd is)) (λ name. ⊎_elim (λ is. ap one_if is) (λ is. absurd is)) a

inside_answers : (state : State) (s : ℕ) (me : Transaction) (a : Act) (of : Option Statement) (r : Reply) → (next_inside state s me a of r).answered ≡ state.answered + one_if r
inside_answers state s me a of (reply.Began n) = omega arith
inside_answers state s me a of reply.Granted = omega arith
inside_answers state s me a of (reply.Rows rows) = omega arith
inside_answers state s me a of reply.Done = omega arith
inside_answers state s me a of (reply.Asked k) = omega arith
inside_answers state s me a of reply.ReadOnly = omega arith
inside_answers state s me a of (reply.Answered k) = refl
inside_answers state s me a of reply.RolledBack = omega arith
inside_answers state s me a of reply.Released = omega arith
inside_answers state s me a of (reply.Refused why) = omega arith

outside_answers : (state : State) (s : ℕ) (a : Act) (of : Option Statement) (r : Reply) → one_if r ≡ 0 → (next_outside state s a of r).answered ≡ state.answered + one_if r
outside_answers state s a of r = next_outside-cases (λ r new. one_if r ≡ 0 → new.answered ≡ state.answered + one_if r) state s
    (λ n none. omega arith) (λ r none. omega (arith, none)) (λ name none. omega arith) a of r

next_answers : (state : State) (s : ℕ) (a : Act) (statement : Statement) (of : Option Statement) (r : Reply) → Allowed state s a statement r → (next_state state s a of r).answered ≡ state.answered + one_if r
next_answers state s a statement of r allowed = elim (transaction_of state s) as (λ o. (r ≡ reply_from state s o a statement) ⊎ MayStandFor statement (reply_from state s o a statement) r → (next_from state s o a of r).answered ≡ state.answered + one_if r) [
  | Some me ↦ λ is. inside_answers state s me a of r
  | None ↦ λ is. outside_answers state s a of r (outside_unanswered state a statement r is)
] allowed

released_none_more : (state : State) (s : ℕ) (a : Act) (of : Option Statement) → (next_state state s a of reply.Released).answered ≡ state.answered + 0
released_none_more state s a of = elim (transaction_of state s) as (λ o. (next_from state s o a of reply.Released).answered ≡ state.answered + 0) [
  | Some me ↦ omega arith
  | None ↦ outside_answers state s a of reply.Released refl
]

comes_answers : (lines : List Line) (p : Point) (e : Entry) → Comes lines p e → (passed lines p e).state.answered ≡ p.state.answered + one_if e.reply
comes_answers lines p e comes =
    let of = statement_of lines e.session e.statement in
    ⊎_elim
    (λ next. next_answers p.state e.session e.act next.0 of e.reply next.2.allowed)
    (λ release. subst (λ r. (next_state p.state e.session e.act of r).answered ≡ p.state.answered + one_if r) (sym release.released) (released_none_more p.state e.session e.act of))
    comes.one_of

pub answers_on : (lines : List Line) (p : Point) (es : List Entry) → Legal lines p es → (final lines p es).state.answered ≡ p.state.answered + answers es
answers_on lines p [] legal = omega arith
answers_on lines p (e ∷ es) legal = omega (arith, answers_on lines (passed lines p e) es legal.1, comes_answers lines p e legal.0)
