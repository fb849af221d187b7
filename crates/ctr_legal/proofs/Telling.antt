-- What each reply that is allowed tells of the state in which it was given, and what it keeps.
use Rattle.std.proofs.Common.{◌≡◌, ◌⊎◌, inl, inr, ⊎_elim, ℕ, ◌+◌, ℤ, Bool, true, false, List, [], ◌∷◌, ◌++◌, length, Option, Some, None, refl, sym, ◌∙◌, ap, subst}
use Rattle.std.specs.Prelude.{is_some, is_none, option_and_then, if◌then◌else◌}
use Rattle.std.specs.List.{AllByRecursion}
use Rattle.std.specs.Ordering.{nat_cmp}
use Rattle.std.specs.FinMap.Entries.{find}
use Rattle.std.proofs.lemmas.Bool.{false≢true, true≢false}
use Rattle.ctr_types.specs.declared.value.Column.{Column}
use Rattle.ctr_types.specs.declared.value.Row.{Row}
use Rattle.ctr_types.specs.declared.statement.Set.{Set}
use Rattle.ctr_types.specs.declared.statement.Statement.{Statement}
use Rattle.ctr_types.specs.declared.statement.Statement.TheVariants as st
use Rattle.ctr_types.specs.declared.tape.Act.{Act}
use Rattle.ctr_types.specs.declared.tape.Act.TheVariants as act
use Rattle.ctr_types.specs.declared.tape.Reply.{Reply}
use Rattle.ctr_types.specs.declared.tape.Reply.TheVariants as reply
use Rattle.ctr_types.specs.declared.tape.Refusal.{Refusal}
use Rattle.ctr_types.specs.declared.tape.Refusal.TheVariants as refusal
use Rattle.ctr_model.specs.declared.limits.TheConstants.{CATALOG_ENTRIES, MOST_PAGES}
use Rattle.ctr_model.specs.declared.state.State.{State}
use Rattle.ctr_model.specs.declared.state.Transaction.{Transaction}
use Rattle.ctr_model.specs.Database.{table_at}
use Rattle.ctr_model.specs.State.{transaction_of, with_transaction, view, begun}
use Rattle.ctr_model.specs.Refusals.{table_of, key_of, key_written, changes_schema, others, first_session, is_busy, key_refusals, refusal_of, write_refusal, row_of, columns_of, updated, update_refusal, when}
use Rattle.ctr_model.specs.Reply.{refused_or, reply_inside, reply_outside, MayStandFor, granted, on_table, with_use, put_of, changes_of, next_inside, next_outside}
use Rattle.ctr_model.specs.Tape.{IsInTurn}
use Rattle.ctr_model.proofs.Determined.{by_stand}
use Rattle.ctr_versions.specs.Keys.{row_written}
use Rattle.ctr_legal.specs.Kept.{IsKept}
use Rattle.ctr_legal.specs.Ready.{HasKey, MayWrite, IsUnrefused, Tells, TellsOutside, IsReady}
use Rattle.ctr_legal.proofs.Cover.{create_of_name, drop_of_name}
use Rattle.ctr_legal.proofs.Keep.{grants, key_free, kept_use, kept_lock, kept_hold, kept_row, kept_name, kept_asked, kept_end, kept_answered, kept_begin, kept_itself}

-- ---- what a reply tells

-- what may stand in the place of Done is a refusal
room_refused : (statement : Statement) (given : Reply) → MayStandFor statement reply.Done given → (why : Refusal) × (given ≡ reply.Refused why)
room_refused (st.Create table schema) given is = (refusal.CatalogFull CATALOG_ENTRIES, is)
room_refused (st.Insert table values) given is = (refusal.Full MOST_PAGES, is)
room_refused (st.Update table sets at) given is = (refusal.Full MOST_PAGES, is)
room_refused (st.Delete table at) given is = (refusal.Full MOST_PAGES, is)
room_refused st.Begin given is = absurd is
room_refused st.Commit given is = absurd is
room_refused st.Rollback given is = absurd is
room_refused (st.DropTable table) given is = absurd is
room_refused (st.Select table at) given is = absurd is

-- what may stand in the place of a reply is a refusal
stands_refused : (statement : Statement) (r given : Reply) → MayStandFor statement r given → (why : Refusal) × (given ≡ reply.Refused why)
stands_refused statement r given is = by_stand statement (λ given. (why : Refusal) × (given ≡ reply.Refused why)) (λ given is. (refusal.OutOfMemory, is)) (room_refused statement) r given is

module _ (state : State) (s : ℕ) (me : Transaction) (statement : Statement) where
  refused_tells : (a : Act) (why : Option Refusal) (r : Reply) → me.asked ≡ None → (why ≡ None → Tells state s me statement a r) → Tells state s me statement a (refused_or why r)
  refused_tells a None r unasked tells = tells refl
  refused_tells a (Some why) r unasked tells = unasked

  -- the reply of the model
  reply_tells : (a : Act) → IsReady state statement a (Some me) → IsInTurn state s a → transaction_of state s ≡ Some me → Tells state s me statement a (reply_inside state s me a statement)
  reply_tells act.Begin ready turn is = ready
  reply_tells act.Read ready turn is = refused_tells act.Read (refusal_of state s me act.Read statement) _ ready (λ none. (refl, record { unasked = ready; none = none }))
  reply_tells act.Lock ready turn is = refused_tells act.Lock (refusal_of state s me act.Lock statement) reply.Granted ready.1 (λ none. (refl, ready.0, record { unasked = ready.1; none = none }))
  reply_tells act.Write ready turn is = refused_tells act.Write (write_refusal (view state me) statement) reply.Done ready.unasked (λ none. (refl, ready, none))
  reply_tells act.Ask ready turn is = by_writer me.writer refl
    where
      by_writer : (b : Bool) → me.writer ≡ b → Tells state s me statement act.Ask (if b then reply.Asked (length state.asked + 1) else reply.ReadOnly)
      by_writer true writer = (refl, ready, writer, refl)
      by_writer false reader = (refl, ready, reader)
  reply_tells act.Answer ready turn is = (refl, ap (option_and_then (λ (t : Transaction). t.asked)) (sym is) ∙ turn)
  reply_tells act.Rollback ready turn is = (refl, ready)
  reply_tells (act.Release name) ready turn is = absurd ready

  unasked_by : (a : Act) → IsReady state statement a (Some me) → (me.asked ≡ None) ⊎ (a ≡ act.Answer)
  unasked_by act.Begin ready = inl ready
  unasked_by act.Read ready = inl ready
  unasked_by act.Lock ready = inl ready.1
  unasked_by act.Write ready = inl ready.unasked
  unasked_by act.Ask ready = inl ready
  unasked_by act.Answer ready = inr refl
  unasked_by act.Rollback ready = inl ready
  unasked_by (act.Release name) ready = absurd ready

  -- and each that is allowed
  pub allowed_tells : (a : Act) (r : Reply) → IsReady state statement a (Some me) → IsInTurn state s a → transaction_of state s ≡ Some me → (r ≡ reply_inside state s me a statement) ⊎ MayStandFor statement (reply_inside state s me a statement) r → Tells state s me statement a r
  allowed_tells a r ready turn is allowed = ⊎_elim
      (λ same. subst (Tells state s me statement a) (sym same) (reply_tells a ready turn is))
      (λ stands. let why = stands_refused statement (reply_inside state s me a statement) r stands in
      ⊎_elim
      (λ unasked. subst (Tells state s me statement a) (sym why.1) unasked)
      (λ answer. absurd (subst (λ (b : Act). MayStandFor statement (reply_inside state s me b statement) r) answer stands))
      (unasked_by a ready))
      allowed

outside_tells : (state : State) (a : Act) (statement : Statement) → IsReady state statement a None → TellsOutside state a (reply_outside state a)
outside_tells state act.Begin statement ready = (refl, refl)
outside_tells state act.Read statement ready = tt
outside_tells state act.Lock statement ready = tt
outside_tells state act.Write statement ready = tt
outside_tells state act.Ask statement ready = tt
outside_tells state act.Answer statement ready = tt
outside_tells state act.Rollback statement ready = tt
outside_tells state (act.Release name) statement ready = absurd ready

pub allowed_outside : (state : State) (a : Act) (statement : Statement) (r : Reply) → IsReady state statement a None → (r ≡ reply_outside state a) ⊎ MayStandFor statement (reply_outside state a) r → TellsOutside state a r
allowed_outside state a statement r ready allowed = ⊎_elim
    (λ same. subst (TellsOutside state a) (sym same) (outside_tells state a statement ready))
    (λ stands. let why = stands_refused statement (reply_outside state a) r stands in subst (TellsOutside state a) (sym why.1) tt)
    allowed

-- ---- what each reply keeps

-- an UPDATE that isn't refused has a new row
pub updated_row : (cs : List Column) (sets : List Set) (row : Option Row) → update_refusal cs sets row ≡ None → (w : Row) × (option_and_then (updated cs sets) row ≡ Some w)
updated_row cs sets None none = absurd (true≢false (ap is_some none))
updated_row cs sets (Some row) none = elim (updated cs sets row) as (λ o. when (is_none o) refusal.OutOfRange ≡ None → (w : Row) × (o ≡ Some w)) [
  | Some w ↦ λ e. (w, refl)
  | None ↦ λ e. absurd (true≢false (ap is_some e))
] none

module _ (state : State) (s : ℕ) (kept : IsKept state) (me : Transaction) (at : find nat_cmp s state.sessions ≡ Some me) where
  -- a name is held
  hold_kept : (statement : Statement) (name : List ℕ) → table_of statement ≡ Some name → changes_schema statement ≡ true → IsUnrefused state s me act.Lock statement → IsKept (with_transaction s (record me { writer = true; holds = me.holds ++ name ∷ [] }) state)
  hold_kept statement name named changes free =
      let g = grants state s me act.Lock statement name named free.none in
      kept_hold state s kept me at free.unasked name (ap (λ b. first_session (is_busy b name) (others s state)) (sym changes) ∙ g.idle) g.unchanged g.unstuck

  -- a key is locked
  key_kept : (statement : Statement) (name : List ℕ) (key : ℤ) → table_of statement ≡ Some name → key_written statement ≡ Some key → IsUnrefused state s me act.Lock statement
      → IsKept (with_transaction s (record me { writer = true; locks = me.locks ++ record { table = name; key = key } ∷ []; uses = me.uses ++ name ∷ [] }) state)
  key_kept statement name key named keyed free =
      let g = grants state s me act.Lock statement name named free.none in
      kept_lock state s kept me at free.unasked (changes_schema statement) name key g.idle g.unchanged g.unstuck (key_free state s me name key (subst (λ o. AllByRecursion (λ (r : Option Refusal). r ≡ None) (key_refusals state s me name o)) keyed g.keys))

  locked_kept : (statement : Statement) → changes_schema statement ≡ is_none (key_written statement) → IsUnrefused state s me act.Lock statement → IsKept (with_transaction s (granted act.Lock statement me) state)
  locked_kept st.Begin is free = absurd (false≢true is)
  locked_kept st.Commit is free = absurd (false≢true is)
  locked_kept st.Rollback is free = absurd (false≢true is)
  locked_kept (st.Select table key) is free = absurd (false≢true is)
  locked_kept (st.Create table schema) is free = hold_kept (st.Create table schema) table refl refl free
  locked_kept (st.DropTable table) is free = hold_kept (st.DropTable table) table refl refl free
  locked_kept (st.Insert table values) is free = key_kept (st.Insert table values) table (key_of values) refl refl free
  locked_kept (st.Update table sets key) is free = key_kept (st.Update table sets key) table key.key refl refl free
  locked_kept (st.Delete table key) is free = key_kept (st.Delete table key) table key.key refl refl free

  used_kept : (statement : Statement) → IsUnrefused state s me act.Read statement → IsKept (with_transaction s (on_table with_use (table_of statement) me) state)
  used_kept statement free = elim (table_of statement) as (λ o. table_of statement ≡ o → IsKept (with_transaction s (on_table with_use o me) state)) [
    | None ↦ λ is. kept_itself state s kept me at free.unasked
    | Some name ↦ λ is. let g = grants state s me act.Read statement name is free.none in kept_use state s kept me at free.unasked (changes_schema statement) name g.idle g.unchanged g.unstuck
  ] refl

  -- a row is written under its lock
  row_kept : (statement : Statement) (name : List ℕ) (key : ℤ) (v : Option Row) → table_of statement ≡ Some name → key_written statement ≡ Some key → changes_of (view state me) statement ≡ row_written name key v ∷ [] → MayWrite state me statement
      → IsKept (with_transaction s (record me { own = me.own ++ changes_of (view state me) statement }) state)
  row_kept statement name key v named keyed changes given =
      let under = subst (HasKey me name) keyed (given.under name named) in
      subst (λ cs. IsKept (with_transaction s (record me { own = me.own ++ cs }) state)) (sym changes)
      (kept_row state s kept me at given.unasked given.writer name key v under.0 under.1)

  done_kept : (statement : Statement) → MayWrite state me statement → write_refusal (view state me) statement ≡ None → IsKept (with_transaction s (record me { own = me.own ++ changes_of (view state me) statement }) state)
  done_kept st.Begin given none = absurd (false≢true given.locks)
  done_kept st.Commit given none = absurd (false≢true given.locks)
  done_kept st.Rollback given none = absurd (false≢true given.locks)
  done_kept (st.Select table key) given none = absurd (false≢true given.locks)
  done_kept (st.Create table schema) given none = kept_name state s kept me at given.unasked given.writer table _ (create_of_name table schema) (given.under table refl)
  done_kept (st.DropTable table) given none = kept_name state s kept me at given.unasked given.writer table _ (drop_of_name table) (given.under table refl)
  done_kept (st.Insert table values) given none = row_kept (st.Insert table values) table (key_of values) (Some (record { values = values })) refl refl refl given
  done_kept (st.Update table sets key) given none =
      let t = table_at (view state me) table in
      let new = updated_row (columns_of t) sets (row_of t key.key) none in
      row_kept (st.Update table sets key) table key.key (Some new.0) refl refl (ap (put_of table key.key) new.1) given
  done_kept (st.Delete table key) given none = row_kept (st.Delete table key) table key.key None refl refl refl given

  -- whatever the reply
  pub next_kept : (statement : Statement) (a : Act) (r : Reply) → Tells state s me statement a r → IsKept (next_inside state s me a (Some statement) r)
  next_kept statement a (reply.Began n) tells = absurd tells
  next_kept statement a reply.Granted tells = subst (λ b. IsKept (with_transaction s (granted b statement me) state)) (sym tells.0) (locked_kept statement tells.1 tells.2)
  next_kept statement a (reply.Rows rows) tells = used_kept statement tells.1
  next_kept statement a reply.Done tells = done_kept statement tells.1 tells.2
  next_kept statement a (reply.Asked k) tells = subst (λ k. IsKept (with_transaction s (record me { asked = Some k }) (record state { asked = state.asked ++ me.own ∷ [] }))) (sym tells.3) (kept_asked state s kept me at tells.1)
  next_kept statement a reply.ReadOnly tells = kept_end state s kept me at tells.1
  next_kept statement a (reply.Answered k) tells = kept_answered state s me kept at tells.1
  next_kept statement a reply.RolledBack tells = kept_end state s kept me at tells.1
  next_kept statement a reply.Released tells = absurd tells
  next_kept statement a (reply.Refused why) tells = kept

-- outside a transaction a Begin is granted, and every other act is refused
pub by_outside : (state : State) (a : Act) (P : Reply → Type 0) → ((n : ℕ) → (a ≡ act.Begin) × (n ≡ state.answered) → P (reply.Began n)) → ((why : Refusal) → P (reply.Refused why)) → (r : Reply) → TellsOutside state a r → P r
by_outside state a P began refused (reply.Began n) tells = began n tells
by_outside state a P began refused reply.Granted tells = absurd tells
by_outside state a P began refused (reply.Rows rows) tells = absurd tells
by_outside state a P began refused reply.Done tells = absurd tells
by_outside state a P began refused (reply.Asked k) tells = absurd tells
by_outside state a P began refused reply.ReadOnly tells = absurd tells
by_outside state a P began refused (reply.Answered k) tells = absurd tells
by_outside state a P began refused reply.RolledBack tells = absurd tells
by_outside state a P began refused reply.Released tells = absurd tells
by_outside state a P began refused (reply.Refused why) tells = refused why

pub outside_kept : (state : State) (s : ℕ) (a : Act) (statement : Option Statement) (r : Reply) → IsKept state → find nat_cmp s state.sessions ≡ None → TellsOutside state a r → IsKept (next_outside state s a statement r)
outside_kept state s a statement r kept none tells = by_outside state a (λ r. IsKept (next_outside state s a statement r))
    (λ n is. subst (λ n. IsKept (with_transaction s (begun n) state)) (sym is.1) (kept_begin state s kept none)) (λ why. kept) r tells
