-- What an entry of a session does to how far sessions are, to their transactions, and to the names that recovery holds.
use Rattle.std.proofs.Common.{◌≡◌, ℕ, zero, suc, ◌+◌, ◌==◌, Bool, true, false, cond, List, [], ◌∷◌, ◌++◌, Option, Some, None, refl, sym, ◌∙◌, ap}
use Rattle.std.specs.Prelude.{unwrap_or, is_some, not, ◌&&◌, slice_get}
use Rattle.std.proofs.lemmas.Bool.{false≢true}
use Rattle.ctr_types.specs.declared.statement.Statement.{Statement}
use Rattle.ctr_types.specs.declared.statement.Statement.TheVariants as st
use Rattle.ctr_types.specs.declared.statement.Line.{Line}
use Rattle.ctr_types.specs.declared.tape.Act.{Act}
use Rattle.ctr_types.specs.declared.tape.Act.TheVariants as act
use Rattle.ctr_types.specs.declared.tape.Entry.{Entry}
use Rattle.ctr_types.specs.declared.tape.Reply.{Reply}
use Rattle.ctr_types.specs.declared.tape.Reply.TheVariants as reply
use Rattle.ctr_model.specs.declared.state.State.{State}
use Rattle.ctr_model.specs.declared.state.Transaction.{Transaction}
use Rattle.ctr_model.specs.declared.tape.Point.{Point}
use Rattle.ctr_model.specs.declared.tape.Progress.{Progress}
use Rattle.ctr_model.specs.Refusals.{changes_schema, key_written}
use Rattle.ctr_model.specs.Reply.{next_state, next_from, next_inside, next_outside, released}
use Rattle.ctr_model.specs.State.{transaction_of}
use Rattle.ctr_model.specs.Tape.{acts_of, statement_of, progress_of, goes_on, advanced, Comes, passed_by, passed, final, Legal}
use Rattle.ctr_model.proofs.Sessions.{find-put-other, find-put-same, find-without-other, find-without-same}
use Rattle.ctr_versions.proofs.Keys.{some_is}
use Rattle.ctr_control.specs.ctr_writing.ctr_looks.Selecting.{IsSelect}
use Rattle.ctr_exec.specs.Acting.{IsActAt, ends_statement}

-- ---- the last entry of a legal tape

pub last_comes : (lines : List Line) (p : Point) (es : List Entry) (e : Entry) → Legal lines p (es ++ e ∷ []) → Comes lines (final lines p es) e
last_comes lines p [] e legal = legal.0
last_comes lines p (x ∷ es) e legal = last_comes lines (passed lines p x) es e legal.1

-- ---- how far its session is

-- one act more is told of the statement
abbrev pub one_more : ℕ → Progress
one_more f = record { finished = f; made = 1 }

-- it is finished
abbrev pub one_done : ℕ → Progress
one_done f = record { finished = f + 1; made = 0 }

at_most : (b : Bool) (f : ℕ) (more done : Progress) → b ≡ false → cond b more done ≡ done
at_most b f more done is = ap (λ b. cond b more done) is

and_false : (b : Bool) → (b && false) ≡ false
and_false true = refl
and_false false = refl

off : (r : Reply) → not (goes_on r) ≡ true → goes_on r ≡ false
off r is = by (goes_on r) is
  where
    by : (b : Bool) → not b ≡ true → b ≡ false
    by true is = absurd (false≢true is)
    by false is = refl

none_some : {A : Type 0} {x : A} → None ≡ Some x → ⊥
none_some is = false≢true (ap is_some is)

module _ (state : State) (s f : ℕ) where
  -- where one act is all, it is finished by any reply
  single : (x : Act) (r : Reply) → advanced (x ∷ []) r (record { finished = f; made = 0 }) ≡ one_done f
  single x r = at_most (goes_on r && false) f (one_more f) (one_done f) (and_false (goes_on r))

  -- the first of two, where the statement doesn't go on
  first_off : (x y : Act) (r : Reply) → goes_on r ≡ false → advanced (x ∷ y ∷ []) r (record { finished = f; made = 0 }) ≡ one_done f
  first_off x y r is = at_most (goes_on r && true) f (one_more f) (one_done f) (ap (λ b. b && true) is)

  -- and the second
  second : (x y : Act) (r : Reply) → advanced (x ∷ y ∷ []) r (record { finished = f; made = 1 }) ≡ one_done f
  second x y r = at_most (goes_on r && false) f (record { finished = f; made = 2 }) (one_done f) (and_false (goes_on r))

  -- a statement of two acts, of which the first ends it where it doesn't go on
  two_acts : (x y z : Act) (r : Reply) (m : ℕ) → (x ≡ z → ends_statement z r ≡ true → goes_on r ≡ false) → slice_get (x ∷ y ∷ []) m ≡ Some z → ends_statement z r ≡ true
      → advanced (x ∷ y ∷ []) r (record { finished = f; made = m }) ≡ one_done f
  two_acts x y z r zero stops at ends = first_off x y r (stops (some_is x z at) ends)
  two_acts x y z r (suc zero) stops at ends = second x y r
  two_acts x y z r (suc (suc m)) stops at ends = absurd (none_some at)

  one_act : (x z : Act) (r : Reply) (m : ℕ) → slice_get (x ∷ []) m ≡ Some z → advanced (x ∷ []) r (record { finished = f; made = m }) ≡ one_done f
  one_act x z r zero at = single x r
  one_act x z r (suc m) at = absurd (none_some at)

  lock_stops : (z : Act) (r : Reply) → act.Lock ≡ z → ends_statement z r ≡ true → goes_on r ≡ false
  lock_stops z r is ends = off r (ap (λ x. ends_statement x r) is ∙ ends)

  ask_stops : (z : Act) (r : Reply) → act.Ask ≡ z → ends_statement z r ≡ true → goes_on r ≡ false
  ask_stops z r is ends = off r (ap (λ x. ends_statement x r) is ∙ ends)

  -- An act that ends its statement finishes it.
  pub act_ends : (statement : Statement) (z : Act) (r : Reply) (m : ℕ) → slice_get (acts_of state s statement) m ≡ Some z → ends_statement z r ≡ true
      → advanced (acts_of state s statement) r (record { finished = f; made = m }) ≡ one_done f
  act_ends st.Begin z r m at ends = one_act act.Begin z r m at
  act_ends st.Commit z r m at ends = two_acts act.Ask act.Answer z r m (ask_stops z r) at ends
  act_ends st.Rollback z r m at ends = one_act act.Rollback z r m at
  act_ends (st.Create table schema) z r m at ends = two_acts act.Lock act.Write z r m (lock_stops z r) at ends
  act_ends (st.DropTable table) z r m at ends = two_acts act.Lock act.Write z r m (lock_stops z r) at ends
  act_ends (st.Insert table values) z r m at ends = two_acts act.Lock act.Write z r m (lock_stops z r) at ends
  act_ends (st.Select table at_) z r m at ends = one_act act.Read z r m at
  act_ends (st.Update table sets at_) z r m at ends = two_acts act.Lock act.Write z r m (lock_stops z r) at ends
  act_ends (st.Delete table at_) z r m at ends = two_acts act.Lock act.Write z r m (lock_stops z r) at ends

  -- A Lock that is granted, and a commit that is asked for, go on.
  pub lock_goes : (statement : Statement) → slice_get (acts_of state s statement) 0 ≡ Some act.Lock → advanced (acts_of state s statement) reply.Granted (record { finished = f; made = 0 }) ≡ one_more f
  lock_goes st.Begin at = absurd (cc at)
  lock_goes st.Commit at = absurd (cc at)
  lock_goes st.Rollback at = absurd (cc at)
  lock_goes (st.Create table schema) at = refl
  lock_goes (st.DropTable table) at = refl
  lock_goes (st.Insert table values) at = refl
  lock_goes (st.Select table at_) at = absurd (cc at)
  lock_goes (st.Update table sets at_) at = refl
  lock_goes (st.Delete table at_) at = refl

  pub ask_goes : (statement : Statement) (k : ℕ) → slice_get (acts_of state s statement) 0 ≡ Some act.Ask → advanced (acts_of state s statement) (reply.Asked k) (record { finished = f; made = 0 }) ≡ one_more f
  ask_goes st.Begin k at = absurd (cc at)
  ask_goes st.Commit k at = refl
  ask_goes st.Rollback k at = absurd (cc at)
  ask_goes (st.Create table schema) k at = absurd (cc at)
  ask_goes (st.DropTable table) k at = absurd (cc at)
  ask_goes (st.Insert table values) k at = absurd (cc at)
  ask_goes (st.Select table at_) k at = absurd (cc at)
  ask_goes (st.Update table sets at_) k at = absurd (cc at)
  ask_goes (st.Delete table at_) k at = absurd (cc at)

-- ---- the acts of a kind of statement

pub read_at : (s : ℕ) (statement : Statement) → IsSelect statement → IsActAt s statement 0 act.Read
read_at s st.Begin is = absurd is
read_at s st.Commit is = absurd is
read_at s st.Rollback is = absurd is
read_at s (st.Create table schema) is = absurd is
read_at s (st.DropTable table) is = absurd is
read_at s (st.Insert table values) is = absurd is
read_at s (st.Select table at_) is = λ state. refl
read_at s (st.Update table sets at_) is = absurd is
read_at s (st.Delete table at_) is = absurd is

-- a Lock, and then its Write
abbrev pub IsLocked : ℕ → Statement → Type 0
IsLocked s statement = IsActAt s statement 0 act.Lock × IsActAt s statement 1 act.Write

pub row_acts : (s : ℕ) (statement : Statement) → is_some (key_written statement) ≡ true → IsLocked s statement
row_acts s st.Begin is = absurd (false≢true is)
row_acts s st.Commit is = absurd (false≢true is)
row_acts s st.Rollback is = absurd (false≢true is)
row_acts s (st.Create table schema) is = absurd (false≢true is)
row_acts s (st.DropTable table) is = absurd (false≢true is)
row_acts s (st.Insert table values) is = (λ state. refl, λ state. refl)
row_acts s (st.Select table at_) is = absurd (false≢true is)
row_acts s (st.Update table sets at_) is = (λ state. refl, λ state. refl)
row_acts s (st.Delete table at_) is = (λ state. refl, λ state. refl)

pub table_acts : (s : ℕ) (statement : Statement) → changes_schema statement ≡ true → IsLocked s statement
table_acts s st.Begin is = absurd (false≢true is)
table_acts s st.Commit is = absurd (false≢true is)
table_acts s st.Rollback is = absurd (false≢true is)
table_acts s (st.Create table schema) is = (λ state. refl, λ state. refl)
table_acts s (st.DropTable table) is = (λ state. refl, λ state. refl)
table_acts s (st.Insert table values) is = absurd (false≢true is)
table_acts s (st.Select table at_) is = absurd (false≢true is)
table_acts s (st.Update table sets at_) is = absurd (false≢true is)
table_acts s (st.Delete table at_) is = absurd (false≢true is)

-- ---- what a release is

abbrev pub is_release : Act → Bool
is_release act.Begin = false
is_release act.Read = false
is_release act.Lock = false
is_release act.Write = false
is_release act.Ask = false
is_release act.Answer = false
is_release act.Rollback = false
is_release (act.Release name) = true

-- no statement has a release among its acts
release_first : (x z : Act) (m : ℕ) → is_release x ≡ false → slice_get (x ∷ []) m ≡ Some z → is_release z ≡ false
release_first x z zero is at = ap is_release (sym (some_is x z at)) ∙ is
release_first x z (suc m) is at = absurd (none_some at)

release_two : (x y z : Act) (m : ℕ) → is_release x ≡ false → is_release y ≡ false → slice_get (x ∷ y ∷ []) m ≡ Some z → is_release z ≡ false
release_two x y z zero is his at = ap is_release (sym (some_is x z at)) ∙ is
release_two x y z (suc m) is his at = release_first y z m his at

pub never_released : (state : State) (s : ℕ) (statement : Statement) (z : Act) (m : ℕ) → slice_get (acts_of state s statement) m ≡ Some z → is_release z ≡ false
never_released state s st.Begin z m at = release_first act.Begin z m refl at
never_released state s st.Commit z m at = release_two act.Ask act.Answer z m refl refl at
never_released state s st.Rollback z m at = release_first act.Rollback z m refl at
never_released state s (st.Create table schema) z m at = release_two act.Lock act.Write z m refl refl at
never_released state s (st.DropTable table) z m at = release_two act.Lock act.Write z m refl refl at
never_released state s (st.Insert table values) z m at = release_two act.Lock act.Write z m refl refl at
never_released state s (st.Select table at_) z m at = release_first act.Read z m refl at
never_released state s (st.Update table sets at_) z m at = release_two act.Lock act.Write z m refl refl at
never_released state s (st.Delete table at_) z m at = release_two act.Lock act.Write z m refl refl at

-- an act that is none leaves the names that recovery holds
pub same_stuck : (state : State) (s : ℕ) (z : Act) (statement : Option Statement) (r : Reply) → is_release z ≡ false → (next_state state s z statement r).stuck ≡ state.stuck
same_stuck state s z statement r own = elim (transaction_of state s) as (λ (o : Option Transaction). (next_from state s o z statement r).stuck ≡ state.stuck) [ Some t ↦ inside t r | None ↦ outside r z own ]
  where
    inside : (t : Transaction) (r : Reply) → (next_inside state s t z statement r).stuck ≡ state.stuck
    inside t (reply.Began n) = refl
    inside t reply.Granted = refl
    inside t (reply.Rows rows) = refl
    inside t reply.Done = refl
    inside t (reply.Asked k) = refl
    inside t reply.ReadOnly = refl
    inside t (reply.Answered k) = refl
    inside t reply.RolledBack = refl
    inside t reply.Released = refl
    inside t (reply.Refused why) = refl

    outside : (r : Reply) (z : Act) → is_release z ≡ false → (next_outside state s z statement r).stuck ≡ state.stuck
    outside (reply.Began n) z own = refl
    outside reply.Granted z own = refl
    outside (reply.Rows rows) z own = refl
    outside reply.Done z own = refl
    outside (reply.Asked k) z own = refl
    outside reply.ReadOnly z own = refl
    outside (reply.Answered k) z own = refl
    outside reply.RolledBack z own = refl
    outside reply.Released act.Begin own = refl
    outside reply.Released act.Read own = refl
    outside reply.Released act.Lock own = refl
    outside reply.Released act.Write own = refl
    outside reply.Released act.Ask own = refl
    outside reply.Released act.Answer own = refl
    outside reply.Released act.Rollback own = refl
    outside reply.Released (act.Release name) own = absurd (false≢true (sym own))
    outside (reply.Refused why) z own = refl

-- who is answered is in no transaction then
pub answered_gone : (state : State) (s k : ℕ) (statement : Option Statement) (t : Transaction) → transaction_of state s ≡ Some t → transaction_of (next_state state s act.Answer statement (reply.Answered k)) s ≡ None
answered_gone state s k statement t is = ap (λ o. transaction_of (next_from state s o act.Answer statement (reply.Answered k)) s) is ∙ find-without-same s state.sessions

-- another session is in the transaction that it was in
pub others_stay : (state : State) (q s : ℕ) (two : (q == s) ≡ false) (z : Act) (statement : Option Statement) (r : Reply) → transaction_of (next_state state s z statement r) q ≡ transaction_of state q
others_stay state q s two z statement r = elim (transaction_of state s) as (λ (o : Option Transaction). transaction_of (next_from state s o z statement r) q ≡ transaction_of state q) [ Some t ↦ inside t r | None ↦ outside r z ]
  where
    inside : (t : Transaction) (r : Reply) → transaction_of (next_inside state s t z statement r) q ≡ transaction_of state q
    inside t (reply.Began n) = refl
    inside t reply.Granted = find-put-other q s _ state.sessions two
    inside t (reply.Rows rows) = find-put-other q s _ state.sessions two
    inside t reply.Done = find-put-other q s _ state.sessions two
    inside t (reply.Asked k) = find-put-other q s _ state.sessions two
    inside t reply.ReadOnly = find-without-other q s state.sessions two
    inside t (reply.Answered k) = find-without-other q s state.sessions two
    inside t reply.RolledBack = find-without-other q s state.sessions two
    inside t reply.Released = refl
    inside t (reply.Refused why) = refl

    released_too : (z : Act) → transaction_of (released z state) q ≡ transaction_of state q
    released_too act.Begin = refl
    released_too act.Read = refl
    released_too act.Lock = refl
    released_too act.Write = refl
    released_too act.Ask = refl
    released_too act.Answer = refl
    released_too act.Rollback = refl
    released_too (act.Release name) = refl

    outside : (r : Reply) (z : Act) → transaction_of (next_outside state s z statement r) q ≡ transaction_of state q
    outside (reply.Began n) z = find-put-other q s _ state.sessions two
    outside reply.Granted z = refl
    outside (reply.Rows rows) z = refl
    outside reply.Done z = refl
    outside (reply.Asked k) z = refl
    outside reply.ReadOnly z = refl
    outside (reply.Answered k) z = refl
    outside reply.RolledBack z = refl
    outside reply.Released z = released_too z
    outside (reply.Refused why) z = refl

-- ---- the point behind an entry of a session's statement

module _ (lines : List Line) (p : Point) (e : Entry) (statement : Statement) (is_it : statement_of lines e.session e.statement ≡ Some statement) where
  pub passed_is : passed lines p e ≡ passed_by (Some statement) p e
  passed_is = ap (λ o. passed_by o p e) is_it

  pub progress_mine : progress_of (passed lines p e) e.session ≡ advanced (acts_of p.state e.session statement) e.reply (progress_of p e.session)
  progress_mine = ap (λ (q : Point). progress_of q e.session) passed_is
      ∙ ap (λ o. unwrap_or o (record { finished = 0; made = 0 })) (find-put-same e.session (advanced (acts_of p.state e.session statement) e.reply (progress_of p e.session)) p.progress)

  pub progress_other : (q : ℕ) → (q == e.session) ≡ false → progress_of (passed lines p e) q ≡ progress_of p q
  progress_other q two = ap (λ (z : Point). progress_of z q) passed_is
      ∙ ap (λ o. unwrap_or o (record { finished = 0; made = 0 })) (find-put-other q e.session (advanced (acts_of p.state e.session statement) e.reply (progress_of p e.session)) p.progress two)

  pub state_is : (passed lines p e).state ≡ next_state p.state e.session e.act (Some statement) e.reply
  state_is = ap (λ (q : Point). q.state) passed_is
