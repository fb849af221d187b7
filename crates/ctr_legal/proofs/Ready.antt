-- Each session is ready for its next act, after an act of its own or of another's.
use Rattle.std.proofs.Common.{◌≡◌, ◌⊎◌, inl, inr, ℕ, zero, suc, ◌+◌, ◌≤◌, ◌==◌, ℤ, Bool, true, false, not, List, [], ◌∷◌, ◌++◌, length, Option, Some, None, refl, sym, ◌∙◌, ap, subst}
use Rattle.std.specs.Prelude.{is_some, is_none, nat_le, ◌&&◌, ◌||◌, slice_get}
use Rattle.std.specs.List.{list_any}
use Rattle.std.specs.Ordering.{nat_cmp}
use Rattle.std.specs.FinMap.Entries.{find, put}
use Rattle.std.proofs.lemmas.Bool.{false≢true, true≢false, eq-eqb}
use Rattle.std.proofs.lemmas.List.{take-append-le}
use Rattle.ctr_types.specs.declared.statement.Statement.{Statement}
use Rattle.ctr_types.specs.declared.statement.Statement.TheVariants as st
use Rattle.ctr_types.specs.declared.tape.Act.{Act}
use Rattle.ctr_types.specs.declared.tape.Act.TheVariants as act
use Rattle.ctr_types.specs.declared.tape.Reply.{Reply}
use Rattle.ctr_types.specs.declared.tape.Reply.TheVariants as reply
use Rattle.ctr_types.specs.declared.tape.Refusal.TheVariants as refusal
use Rattle.ctr_model.specs.declared.state.KeyLock.{KeyLock}
use Rattle.ctr_model.specs.declared.state.State.{State}
use Rattle.ctr_model.specs.declared.state.Transaction.{Transaction}
use Rattle.ctr_model.specs.Maps.{without}
use Rattle.ctr_model.specs.Database.{table_at, after_all}
use Rattle.ctr_model.specs.State.{same_name, rows_at, transaction_of, with_transaction, view, begun}
use Rattle.ctr_model.specs.Refusals.{table_of, key_of, key_written, creates, changes_schema, is_lock_of, when}
use Rattle.ctr_model.specs.Reply.{MayStandFor, reply_from, granted, with_lock, on_table, with_use, changes_of, next_inside, next_outside, next_from, next_state}
use Rattle.ctr_model.specs.Tape.{acts_of, goes_on, IsInTurn, Allowed}
use Rattle.ctr_model.proofs.Sessions.{find-put-other, find-put-same, find-without-other, find-without-same}
use Rattle.ctr_versions.proofs.Keys.{some_is}
use Rattle.ctr_versions.proofs.Written.{same_itself, int_itself}
use Rattle.ctr_legal.specs.Kept.{IsKept}
use Rattle.ctr_legal.specs.Ready.{HasKey, MayWrite, IsUnrefused, Tells, TellsOutside, TellsOf, IsUnasked, MayWriteIn, IsReady}
use Rattle.ctr_legal.specs.Laws.{RepliesTell}
use Rattle.ctr_legal.proofs.Keep.{grants}
use Rattle.ctr_legal.proofs.Telling.{allowed_tells, allowed_outside, next_kept, by_outside, outside_kept}

pub absurd_some : {A B : Type 0} (x : B) → None ≡ Some x → A
absurd_some x is = absurd (false≢true (ap is_some is))

-- ---- a statement's acts in order

one_act : {A : Type 0} (x : Act) (made : ℕ) (a b : Act) → slice_get (x ∷ []) made ≡ Some a → slice_get (x ∷ []) (suc made) ≡ Some b → A
one_act x zero a b is next = absurd_some b next
one_act x (suc made) a b is next = absurd_some a is

two_acts : (x y : Act) (made : ℕ) (a b : Act) → slice_get (x ∷ y ∷ []) made ≡ Some a → slice_get (x ∷ y ∷ []) (suc made) ≡ Some b → (a ≡ x) × (b ≡ y)
two_acts x y zero a b is next = (sym (some_is x a is), sym (some_is y b next))
two_acts x y (suc zero) a b is next = absurd_some b next
two_acts x y (suc (suc made)) a b is next = absurd_some a is

-- behind a Lock comes a Write, and behind an Ask an Answer
pub next_act : (state : State) (s : ℕ) (statement : Statement) (made : ℕ) (a b : Act) → slice_get (acts_of state s statement) made ≡ Some a → slice_get (acts_of state s statement) (suc made) ≡ Some b → ((a ≡ act.Lock) × (b ≡ act.Write)) ⊎ ((a ≡ act.Ask) × (b ≡ act.Answer))
next_act state s st.Begin made a b is next = one_act act.Begin made a b is next
next_act state s st.Rollback made a b is next = one_act act.Rollback made a b is next
next_act state s (st.Select table at) made a b is next = one_act act.Read made a b is next
next_act state s st.Commit made a b is next = inr (two_acts act.Ask act.Answer made a b is next)
next_act state s (st.Create table schema) made a b is next = inl (two_acts act.Lock act.Write made a b is next)
next_act state s (st.DropTable table) made a b is next = inl (two_acts act.Lock act.Write made a b is next)
next_act state s (st.Insert table values) made a b is next = inl (two_acts act.Lock act.Write made a b is next)
next_act state s (st.Update table sets at) made a b is next = inl (two_acts act.Lock act.Write made a b is next)
next_act state s (st.Delete table at) made a b is next = inl (two_acts act.Lock act.Write made a b is next)

-- which act it is, as a number
abbrev tag : Act → ℕ
tag act.Begin = 0
tag act.Read = 1
tag act.Lock = 2
tag act.Write = 3
tag act.Ask = 4
tag act.Answer = 5
tag act.Rollback = 6
tag (act.Release name) = 7

pub apart_acts : {A : Type 0} (a b c : Act) → a ≡ b → a ≡ c → (tag b == tag c) ≡ false → A
apart_acts {A = A} a b c one two apart = absurd (false≢true (sym apart ∙ eq-eqb (tag b) (tag c) (ap tag (sym one ∙ two))))

one_other : {A : Type 0} (x : Act) (made : ℕ) → (tag x == tag act.Ask) ≡ false → slice_get (x ∷ []) made ≡ Some act.Ask → A
one_other x zero apart is = apart_acts x x act.Ask refl (some_is x act.Ask is) apart
one_other x (suc made) apart is = absurd_some act.Ask is

two_others : {A : Type 0} (made : ℕ) → slice_get (act.Lock ∷ act.Write ∷ []) made ≡ Some act.Ask → A
two_others zero is = apart_acts act.Lock act.Lock act.Ask refl (some_is act.Lock act.Ask is) refl
two_others (suc zero) is = apart_acts act.Write act.Write act.Ask refl (some_is act.Write act.Ask is) refl
two_others (suc (suc made)) is = absurd_some act.Ask is

-- an Ask is the first act of a COMMIT
ask_first : (state : State) (s : ℕ) (statement : Statement) (made : ℕ) → slice_get (acts_of state s statement) made ≡ Some act.Ask → (statement ≡ st.Commit) × (made ≡ 0)
ask_first state s st.Begin made is = one_other act.Begin made refl is
ask_first state s st.Rollback made is = one_other act.Rollback made refl is
ask_first state s (st.Select table at) made is = one_other act.Read made refl is
ask_first state s st.Commit zero is = (refl, refl)
ask_first state s st.Commit (suc zero) is = apart_acts act.Answer act.Answer act.Ask refl (some_is act.Answer act.Ask is) refl
ask_first state s st.Commit (suc (suc made)) is = absurd_some act.Ask is
ask_first state s (st.Create table schema) made is = two_others made is
ask_first state s (st.DropTable table) made is = two_others made is
ask_first state s (st.Insert table values) made is = two_others made is
ask_first state s (st.Update table sets at) made is = two_others made is
ask_first state s (st.Delete table at) made is = two_others made is

-- so it isn't the last
pub ask_goes_on : (state : State) (s : ℕ) (statement : Statement) (made : ℕ) → slice_get (acts_of state s statement) made ≡ Some act.Ask → nat_le (made + 2) (length (acts_of state s statement)) ≡ true
ask_goes_on state s statement made is = let first = ask_first state s statement made is in rw (first.0, first.1) refl

pub answer_next : (state : State) (s : ℕ) (statement : Statement) (made : ℕ) → slice_get (acts_of state s statement) made ≡ Some act.Ask → slice_get (acts_of state s statement) (suc made) ≡ Some act.Answer
answer_next state s statement made is = let first = ask_first state s statement made is in rw (first.0, first.1) refl

-- the acts are the same at every state
pub acts_same : (a b : State) (s : ℕ) (statement : Statement) → acts_of a s statement ≡ acts_of b s statement
acts_same a b s st.Begin = refl
acts_same a b s st.Commit = refl
acts_same a b s st.Rollback = refl
acts_same a b s (st.Create table schema) = refl
acts_same a b s (st.DropTable table) = refl
acts_same a b s (st.Insert table values) = refl
acts_same a b s (st.Select table at) = refl
acts_same a b s (st.Update table sets at) = refl
acts_same a b s (st.Delete table at) = refl

-- for the first act of a statement it is enough that no commit is asked
pub first_ready : (state at : State) (s : ℕ) (statement : Statement) (a : Act) (t : Option Transaction) → IsUnasked t → slice_get (acts_of at s statement) 0 ≡ Some a → IsReady state statement a t
first_ready state at s st.Begin a t unasked is = subst (λ a. IsReady state st.Begin a t) (some_is act.Begin a is) unasked
first_ready state at s st.Commit a t unasked is = subst (λ a. IsReady state st.Commit a t) (some_is act.Ask a is) unasked
first_ready state at s st.Rollback a t unasked is = subst (λ a. IsReady state st.Rollback a t) (some_is act.Rollback a is) unasked
first_ready state at s (st.Create table schema) a t unasked is = subst (λ a. IsReady state (st.Create table schema) a t) (some_is act.Lock a is) (refl, unasked)
first_ready state at s (st.DropTable table) a t unasked is = subst (λ a. IsReady state (st.DropTable table) a t) (some_is act.Lock a is) (refl, unasked)
first_ready state at s (st.Insert table values) a t unasked is = subst (λ a. IsReady state (st.Insert table values) a t) (some_is act.Lock a is) (refl, unasked)
first_ready state at s (st.Select table key) a t unasked is = subst (λ a. IsReady state (st.Select table key) a t) (some_is act.Read a is) unasked
first_ready state at s (st.Update table sets key) a t unasked is = subst (λ a. IsReady state (st.Update table sets key) a t) (some_is act.Lock a is) (refl, unasked)
first_ready state at s (st.Delete table key) a t unasked is = subst (λ a. IsReady state (st.Delete table key) a t) (some_is act.Lock a is) (refl, unasked)

-- ---- after an act of the session

locked_asked : (k : Option ℤ) (o : Option (List ℕ)) (me : Transaction) → (on_table (with_lock k) o me).asked ≡ me.asked
locked_asked k None me = refl
locked_asked None (Some name) me = refl
locked_asked (Some key) (Some name) me = refl

used_asked : (o : Option (List ℕ)) (me : Transaction) → (on_table with_use o me).asked ≡ me.asked
used_asked None me = refl
used_asked (Some name) me = refl

last_any : {X : Type 0} (test : X → Bool) (xs : List X) (x : X) → test x ≡ true → list_any test (xs ++ x ∷ []) ≡ true
last_any test [] x is = ap (λ b. b || false) is
last_any test (y ∷ ys) x is = later (test y) (list_any test (ys ++ x ∷ [])) (last_any test ys x is)
  where
    later : (a b : Bool) → b ≡ true → (a || b) ≡ true
    later true b e = refl
    later false b e = e

module _ (state : State) (s : ℕ) (me : Transaction) where
  -- a statement of a row that is granted its lock
  key_granted : (statement : Statement) (name : List ℕ) (key : ℤ) → table_of statement ≡ Some name → key_written statement ≡ Some key → creates statement ≡ false → changes_schema statement ≡ is_none (key_written statement) → IsUnrefused state s me act.Lock statement
      → MayWrite (with_transaction s (record me { writer = true; locks = me.locks ++ record { table = name; key = key } ∷ []; uses = me.uses ++ name ∷ [] }) state) (record me { writer = true; locks = me.locks ++ record { table = name; key = key } ∷ []; uses = me.uses ++ name ∷ [] }) statement
  key_granted statement name key named keyed creating locks free =
      let new : Transaction = record me { writer = true; locks = me.locks ++ record { table = name; key = key } ∷ []; uses = me.uses ++ name ∷ [] } in
      let lock : KeyLock = record { table = name; key = key } in
      record {
        locks = locks;
        unasked = free.unasked;
        writer = refl;
        under = λ other is. let same = some_is name other (sym named ∙ is) in subst (λ n. HasKey new n (key_written statement)) same (subst (HasKey new name) (sym keyed)
            (last_any (is_lock_of name key) me.locks lock ((λ i. same_itself name i && int_itself key i)), last_any (λ n. same_name n name) me.uses name (same_itself name)));
        there = λ other is keyed_. let same = some_is name other (sym named ∙ is) in subst (λ n. is_some (table_at (view state me) n) ≡ true) same
            (present (table_at (view state me) name) (creates statement) creating (grants state s me act.Lock statement name named free.none).present);
      }
    where
      present : {X : Type 0} (o : Option X) (b : Bool) → b ≡ false → when (is_none o && not b) refusal.NoTable ≡ None → is_some o ≡ true
      present (Some x) b off is = refl
      present None b off is = absurd (true≢false (ap is_some (ap (λ b. when (not b) refusal.NoTable) (sym off) ∙ is)))

  named_granted : (statement : Statement) (name : List ℕ) → table_of statement ≡ Some name → key_written statement ≡ None → changes_schema statement ≡ is_none (key_written statement) → me.asked ≡ None
      → MayWrite (with_transaction s (record me { writer = true; holds = me.holds ++ name ∷ [] }) state) (record me { writer = true; holds = me.holds ++ name ∷ [] }) statement
  named_granted statement name named keyed locks unasked =
      let new : Transaction = record me { writer = true; holds = me.holds ++ name ∷ [] } in
      record {
        locks = locks;
        unasked = unasked;
        writer = refl;
        under = λ other is. let same = some_is name other (sym named ∙ is) in subst (λ n. HasKey new n (key_written statement)) same (subst (HasKey new name) (sym keyed) (last_any (λ n. same_name n name) me.holds name (same_itself name)));
        there = λ other is keyed_. absurd (false≢true (sym (ap is_some keyed) ∙ keyed_));
      }

  granted_ready : (statement : Statement) → changes_schema statement ≡ is_none (key_written statement) → IsUnrefused state s me act.Lock statement → MayWrite (with_transaction s (granted act.Lock statement me) state) (granted act.Lock statement me) statement
  granted_ready st.Begin locks free = absurd (false≢true locks)
  granted_ready st.Commit locks free = absurd (false≢true locks)
  granted_ready st.Rollback locks free = absurd (false≢true locks)
  granted_ready (st.Select table at) locks free = absurd (false≢true locks)
  granted_ready (st.Create table schema) locks free = named_granted (st.Create table schema) table refl refl locks free.unasked
  granted_ready (st.DropTable table) locks free = named_granted (st.DropTable table) table refl refl locks free.unasked
  granted_ready (st.Insert table values) locks free = key_granted (st.Insert table values) table (key_of values) refl refl refl locks free
  granted_ready (st.Update table sets at) locks free = key_granted (st.Update table sets at) table at.key refl refl refl locks free
  granted_ready (st.Delete table at) locks free = key_granted (st.Delete table at) table at.key refl refl refl locks free

  -- a Lock that goes on
  granted_after : (statement : Statement) (a : Act) (r : Reply) → Tells state s me statement a r → a ≡ act.Lock → goes_on r ≡ true → MayWriteIn (next_inside state s me a (Some statement) r) statement (transaction_of (next_inside state s me a (Some statement) r) s)
  granted_after statement a (reply.Began n) tells is goes = absurd tells
  granted_after statement a reply.Granted tells is goes =
      let new = granted act.Lock statement me in
      subst (λ b. MayWriteIn (with_transaction s (granted b statement me) state) statement (find nat_cmp s (put nat_cmp s (granted b statement me) state.sessions))) (sym tells.0)
      (subst (MayWriteIn (with_transaction s new state) statement) (sym (find-put-same s new state.sessions)) (granted_ready statement tells.1 tells.2))
  granted_after statement a (reply.Rows rows) tells is goes = apart_acts a act.Lock act.Read is tells.0 refl
  granted_after statement a reply.Done tells is goes = apart_acts a act.Lock act.Write is tells.0 refl
  granted_after statement a (reply.Asked k) tells is goes = apart_acts a act.Lock act.Ask is tells.0 refl
  granted_after statement a reply.ReadOnly tells is goes = absurd (false≢true goes)
  granted_after statement a (reply.Answered k) tells is goes = apart_acts a act.Lock act.Answer is tells.0 refl
  granted_after statement a reply.RolledBack tells is goes = apart_acts a act.Lock act.Rollback is tells.0 refl
  granted_after statement a reply.Released tells is goes = absurd tells
  granted_after statement a (reply.Refused why) tells is goes = absurd (false≢true goes)

  unasked_put : (new : Transaction) → new.asked ≡ None → IsUnasked (find nat_cmp s (put nat_cmp s new state.sessions))
  unasked_put new unasked = subst IsUnasked (sym (find-put-same s new state.sessions)) unasked

  unasked_without : IsUnasked (find nat_cmp s (without nat_cmp s state.sessions))
  unasked_without = subst IsUnasked (sym (find-without-same s state.sessions)) tt

  -- it has asked for its commit, and else it hasn't
  either_after : (statement : Statement) (a : Act) (r : Reply) → transaction_of state s ≡ Some me → Tells state s me statement a r → IsUnasked (transaction_of (next_inside state s me a (Some statement) r) s) ⊎ ((a ≡ act.Ask) × (goes_on r ≡ true))
  either_after statement a (reply.Began n) at tells = absurd tells
  either_after statement a reply.Granted at tells = inl (subst (λ b. IsUnasked (find nat_cmp s (put nat_cmp s (granted b statement me) state.sessions))) (sym tells.0) (unasked_put (granted act.Lock statement me) (locked_asked (key_written statement) (table_of statement) me ∙ tells.2.unasked)))
  either_after statement a (reply.Rows rows) at tells = inl (unasked_put (on_table with_use (table_of statement) me) (used_asked (table_of statement) me ∙ tells.1.unasked))
  either_after statement a reply.Done at tells = inl (unasked_put (record me { own = me.own ++ changes_of (view state me) statement }) tells.1.unasked)
  either_after statement a (reply.Asked k) at tells = inr (tells.0, refl)
  either_after statement a reply.ReadOnly at tells = inl unasked_without
  either_after statement a (reply.Answered k) at tells = inl unasked_without
  either_after statement a reply.RolledBack at tells = inl unasked_without
  either_after statement a reply.Released at tells = absurd tells
  either_after statement a (reply.Refused why) at tells = inl (subst IsUnasked (sym at) tells)

  -- ---- the others are as they were

  other_session : (statement : Statement) (a : Act) (r : Reply) (q : ℕ) → (q == s) ≡ false → transaction_of (next_inside state s me a (Some statement) r) q ≡ transaction_of state q
  other_session statement a (reply.Began n) q two = refl
  other_session statement a reply.Granted q two = find-put-other q s (granted a statement me) state.sessions two
  other_session statement a (reply.Rows rows) q two = find-put-other q s (on_table with_use (table_of statement) me) state.sessions two
  other_session statement a reply.Done q two = find-put-other q s (record me { own = me.own ++ changes_of (view state me) statement }) state.sessions two
  other_session statement a (reply.Asked k) q two = find-put-other q s (record me { asked = Some k }) state.sessions two
  other_session statement a reply.ReadOnly q two = find-without-other q s state.sessions two
  other_session statement a (reply.Answered k) q two = find-without-other q s state.sessions two
  other_session statement a reply.RolledBack q two = find-without-other q s state.sessions two
  other_session statement a reply.Released q two = refl
  other_session statement a (reply.Refused why) q two = refl

  same_rows : (statement : Statement) (a : Act) (r : Reply) (j : ℕ) → j ≤ length state.asked → rows_at (next_inside state s me a (Some statement) r) j ≡ rows_at state j
  same_rows statement a (reply.Began n) j le = refl
  same_rows statement a reply.Granted j le = refl
  same_rows statement a (reply.Rows rows) j le = refl
  same_rows statement a reply.Done j le = refl
  same_rows statement a (reply.Asked k) j le = ap (λ ts. after_all ts state.base) (take-append-le j state.asked (me.own ∷ []) le)
  same_rows statement a reply.ReadOnly j le = refl
  same_rows statement a (reply.Answered k) j le = refl
  same_rows statement a reply.RolledBack j le = refl
  same_rows statement a reply.Released j le = refl
  same_rows statement a (reply.Refused why) j le = refl

outside_session : (state : State) (s : ℕ) (a : Act) (statement : Option Statement) (r : Reply) (q : ℕ) → (q == s) ≡ false → TellsOutside state a r → transaction_of (next_outside state s a statement r) q ≡ transaction_of state q
outside_session state s a statement r q two tells = by_outside state a (λ r. transaction_of (next_outside state s a statement r) q ≡ transaction_of state q)
    (λ n is. find-put-other q s (begun n) state.sessions two) (λ why. refl) r tells

outside_rows : (state : State) (s : ℕ) (a : Act) (statement : Option Statement) (r : Reply) (j : ℕ) → TellsOutside state a r → rows_at (next_outside state s a statement r) j ≡ rows_at state j
outside_rows state s a statement r j tells = by_outside state a (λ r. rows_at (next_outside state s a statement r) j ≡ rows_at state j) (λ n is. refl) (λ why. refl) r tells

outside_after : (state : State) (s : ℕ) (a : Act) (statement : Option Statement) (r : Reply) → transaction_of state s ≡ None → TellsOutside state a r → IsUnasked (transaction_of (next_outside state s a statement r) s)
outside_after state s a statement r none tells = by_outside state a (λ r. IsUnasked (transaction_of (next_outside state s a statement r) s))
    (λ n is. subst IsUnasked (sym (find-put-same s (begun n) state.sessions)) refl) (λ why. subst IsUnasked (sym none) tt) r tells

outside_granted : {A : Type 0} (state : State) (a : Act) (r : Reply) → TellsOutside state a r → a ≡ act.Lock → goes_on r ≡ true → A
outside_granted {A} state a r tells is = by_outside state a (λ r. goes_on r ≡ true → A)
    (λ n told goes. apart_acts a act.Lock act.Begin is told.0 refl) (λ why goes. absurd (false≢true goes)) r tells

-- ---- one act

-- What an act of a session comes to, in a transaction or in none.
pub record ComesTo (state next : State) (s : ℕ) (statement : Statement) (a : Act) (r : Reply) : Type 0 where
  pub kept : IsKept next
  pub either : IsUnasked (transaction_of next s) ⊎ ((a ≡ act.Ask) × (goes_on r ≡ true))
  pub goes : a ≡ act.Lock → goes_on r ≡ true → MayWriteIn next statement (transaction_of next s)
  pub others : (q : ℕ) → (q == s) ≡ false → transaction_of next q ≡ transaction_of state q
  pub rows : (j : ℕ) → j ≤ length state.asked → rows_at next j ≡ rows_at state j

pub comes_to : (state : State) (s : ℕ) (statement : Statement) (a : Act) (r : Reply) → IsKept state → IsReady state statement a (transaction_of state s) → IsInTurn state s a → Allowed state s a statement r
    → ComesTo state (next_state state s a (Some statement) r) s statement a r
comes_to state s statement a r kept ready turn allowed =
    elim (transaction_of state s) as (λ o. transaction_of state s ≡ o → IsReady state statement a o → (r ≡ reply_from state s o a statement) ⊎ MayStandFor statement (reply_from state s o a statement) r
    → ComesTo state (next_from state s o a (Some statement) r) s statement a r) [
      | Some me ↦ λ at. λ mine. λ is. let tells = allowed_tells state s me statement a r mine turn at is in record {
        kept = next_kept state s kept me at statement a r tells;
        either = either_after state s me statement a r at tells;
        goes = granted_after state s me statement a r tells;
        others = other_session state s me statement a r;
        rows = same_rows state s me statement a r;
      }
      | None ↦ λ at. λ mine. λ is. let tells = allowed_outside state a statement r mine is in record {
        kept = outside_kept state s a (Some statement) r kept at tells;
        either = inl (outside_after state s a (Some statement) r at tells);
        goes = λ lock goes. outside_granted state a r tells lock goes;
        others = λ q two. outside_session state s a (Some statement) r q two tells;
        rows = λ j le. outside_rows state s a (Some statement) r j tells;
      }
    ] refl ready allowed

-- what a reply tells, and what the others keep
pub replies_tell : RepliesTell
replies_tell state s statement a r kept ready turn allowed =
    let comes = comes_to state s statement a r kept ready turn allowed in
    record {
      tells = elim (transaction_of state s) as (λ o. transaction_of state s ≡ o → IsReady state statement a o → (r ≡ reply_from state s o a statement) ⊎ MayStandFor statement (reply_from state s o a statement) r → TellsOf state s o statement a r) [
        | Some me ↦ λ at. λ mine. λ is. allowed_tells state s me statement a r mine turn at is
        | None ↦ λ at. λ mine. λ is. allowed_outside state a statement r mine is
      ] refl ready allowed;
      own = comes.either;
      others = comes.others;
      rows = comes.rows;
    }
