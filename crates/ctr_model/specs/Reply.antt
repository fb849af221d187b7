-- The reply to each act, by plain maps, and the state that it leaves.
use Rattle.std.specs.Prelude.{◌≡◌, ℕ, ℤ, ◌+◌, true, not, List, [], ◌∷◌, ◌++◌, length, map, Option, Some, None, if◌then◌else◌, option_and_then}
use Rattle.std.specs.Option.{option_to_list}
use Rattle.std.specs.List.{filter}
use Rattle.ctr_types.specs.declared.value.Row.{Row}
use Rattle.ctr_types.specs.declared.statement.Statement.{Statement}
use Rattle.ctr_types.specs.declared.statement.Statement.TheVariants as st
use Rattle.ctr_types.specs.declared.statement.KeyIs.{KeyIs}
use Rattle.ctr_types.specs.declared.tape.Refusal.{Refusal}
use Rattle.ctr_types.specs.declared.tape.Refusal.TheVariants as refusal
use Rattle.ctr_types.specs.declared.tape.Act.{Act}
use Rattle.ctr_types.specs.declared.tape.Act.TheVariants as act
use Rattle.ctr_types.specs.declared.tape.Reply.{Reply}
use Rattle.ctr_types.specs.declared.tape.Reply.TheVariants as reply
use Rattle.ctr_model.specs.declared.limits.TheConstants.{CATALOG_ENTRIES, MOST_PAGES}
use Rattle.ctr_model.specs.declared.database.Change.{Change}
use Rattle.ctr_model.specs.declared.database.Change.TheVariants as change
use Rattle.ctr_model.specs.Database.{Database, Table, table_at, row_at}
use Rattle.ctr_model.specs.State.{State, Transaction, same_name, transaction_of, with_transaction, without_transaction, view, begun}
use Rattle.ctr_model.specs.Refusals.{table_of, key_of, key_locked, refusal_of, write_refusal, row_of, columns_of, updated}

-- ---- the reply

-- a refusal, or else this reply
abbrev pub refused_or : Option Refusal → Reply → Reply
refused_or None r = r
refused_or (Some why) r = reply.Refused why

-- all rows of a table in order of key, or the one of a key
abbrev pub rows_in : Option KeyIs → Table → List Row
rows_in None table = map (λ e. e.1) table.rows
rows_in (Some at) table = option_to_list (row_at table at.key)

-- The rows of a table under a condition on its key; none where there is no table.
abbrev pub rows_found : Option KeyIs → Option Table → List Row
rows_found at None = []
rows_found at (Some table) = rows_in at table

-- The rows that a Read of a statement gives, by the database that the session sees.
abbrev pub rows_read : Database → Statement → List Row
rows_read db st.Begin = []
rows_read db st.Commit = []
rows_read db st.Rollback = []
rows_read db (st.Create table schema) = []
rows_read db (st.DropTable table) = []
rows_read db (st.Insert table values) = []
rows_read db (st.Select table at) = rows_found at (table_at db table)
rows_read db (st.Update table sets at) = []
rows_read db (st.Delete table at) = []

-- to a session in this transaction, for an act of its statement; Release is of no statement
abbrev pub reply_inside : State → ℕ → Transaction → Act → Statement → Reply
reply_inside state s me act.Begin statement = reply.Refused refusal.InTransaction
reply_inside state s me act.Read statement =
    refused_or (refusal_of state s me act.Read statement)
    (reply.Rows (record { rows = rows_read (view state me) statement }))
reply_inside state s me act.Lock statement =
    refused_or (refusal_of state s me act.Lock statement) reply.Granted
reply_inside state s me act.Write statement =
    refused_or (write_refusal (view state me) statement) reply.Done
reply_inside state s me act.Ask statement =
    if me.writer then reply.Asked (length state.asked + 1) else reply.ReadOnly
reply_inside state s me act.Answer statement = reply.Answered (state.answered + 1)
reply_inside state s me act.Rollback statement = reply.RolledBack
reply_inside state s me (act.Release name) statement = reply.Released

-- to a session in no transaction
abbrev pub reply_outside : State → Act → Reply
reply_outside state act.Begin = reply.Began state.answered
reply_outside state act.Read = reply.Refused refusal.NoTransaction
reply_outside state act.Lock = reply.Refused refusal.NoTransaction
reply_outside state act.Write = reply.Refused refusal.NoTransaction
reply_outside state act.Ask = reply.Refused refusal.NoTransaction
reply_outside state act.Answer = reply.Refused refusal.NoTransaction
reply_outside state act.Rollback = reply.Refused refusal.NoTransaction
reply_outside state (act.Release name) = reply.Released

-- to a session in this transaction, or in none
abbrev pub reply_from : State → ℕ → Option Transaction → Act → Statement → Reply
reply_from state s None a statement = reply_outside state a
reply_from state s (Some me) a statement = reply_inside state s me a statement

-- The reply to an act of a session's statement. An act of no statement is one of recovery, which is
-- in no transaction.
abbrev pub reply_to : State → ℕ → Act → Option Statement → Reply
reply_to state s a None = reply_outside state a
reply_to state s a (Some statement) = reply_from state s (transaction_of state s) a statement

-- want of room in the files may stand for Done: no catalog entry is free for a table, or no page
-- for a row
abbrev pub IsWantOfRoom : Statement → Reply → Type 0
IsWantOfRoom st.Begin given = ⊥
IsWantOfRoom st.Commit given = ⊥
IsWantOfRoom st.Rollback given = ⊥
IsWantOfRoom (st.Create table schema) given =
    given ≡ reply.Refused (refusal.CatalogFull CATALOG_ENTRIES)
IsWantOfRoom (st.DropTable table) given = ⊥
IsWantOfRoom (st.Insert table values) given = given ≡ reply.Refused (refusal.Full MOST_PAGES)
IsWantOfRoom (st.Select table at) given = ⊥
IsWantOfRoom (st.Update table sets at) given = given ≡ reply.Refused (refusal.Full MOST_PAGES)
IsWantOfRoom (st.Delete table at) given = given ≡ reply.Refused (refusal.Full MOST_PAGES)

-- Three replies that may stand in the place of that one: memory is wanting, no catalog entry is
-- free, or no page is.
abbrev pub MayStandFor : Statement → Reply → Reply → Type 0
MayStandFor statement (reply.Began n) given = given ≡ reply.Refused refusal.OutOfMemory
MayStandFor statement reply.Granted given = given ≡ reply.Refused refusal.OutOfMemory
MayStandFor statement (reply.Rows rows) given = given ≡ reply.Refused refusal.OutOfMemory
MayStandFor statement reply.Done given = IsWantOfRoom statement given
MayStandFor statement (reply.Asked k) given = ⊥
MayStandFor statement reply.ReadOnly given = ⊥
MayStandFor statement (reply.Answered k) given = ⊥
MayStandFor statement reply.RolledBack given = ⊥
MayStandFor statement reply.Released given = ⊥
MayStandFor statement (reply.Refused why) given = ⊥

-- ---- the next state

-- a use of the table
abbrev pub with_use : List ℕ → Transaction → Transaction
with_use name me = record me { uses = me.uses ++ name ∷ [] }

-- a lock of a key brings a use of its table; where there is no key the name is held
abbrev pub with_lock : Option ℤ → List ℕ → Transaction → Transaction
with_lock None name me = record me { writer = true; holds = me.holds ++ name ∷ [] }
with_lock (Some key) name me = record me {
  writer = true;
  locks = me.locks ++ record { table = name; key = key } ∷ [];
  uses = me.uses ++ name ∷ [];
}

-- what a statement's table brings, where it has one
abbrev pub on_table : (List ℕ → Transaction → Transaction) → Option (List ℕ) → Transaction
    → Transaction
on_table brings None me = me
on_table brings (Some name) me = brings name me

-- the transaction with what an act of the statement was granted
abbrev pub granted : Act → Statement → Transaction → Transaction
granted act.Begin statement me = me
granted act.Read statement me = me
granted act.Lock statement me =
    on_table (with_lock (key_locked act.Lock statement)) (table_of statement) me
granted act.Write statement me = me
granted act.Ask statement me = me
granted act.Answer statement me = me
granted act.Rollback statement me = me
granted (act.Release name) statement me = me

-- the change that a new row of the key is, where there is one
abbrev pub put_of : List ℕ → ℤ → Option Row → List Change
put_of table key None = []
put_of table key (Some row) = change.Put table key row ∷ []

-- the changes of a Write that is done, in order
abbrev pub changes_of : Database → Statement → List Change
changes_of db st.Begin = []
changes_of db st.Commit = []
changes_of db st.Rollback = []
changes_of db (st.Create table schema) = change.Create table schema ∷ []
changes_of db (st.DropTable table) = change.Drop table ∷ []
changes_of db (st.Insert table values) =
    change.Put table (key_of values) (record { values = values }) ∷ []
changes_of db (st.Select table at) = []
changes_of db (st.Update table sets at) =
    let t = table_at db table in
    put_of table at.key (option_and_then (updated (columns_of t) sets) (row_of t at.key))
changes_of db (st.Delete table at) = change.Remove table at.key ∷ []

-- A transaction with what a granted act brings it; an act of no statement brings nothing.
abbrev pub with_granted : Act → Option Statement → Transaction → Transaction
with_granted a None me = me
with_granted a (Some statement) me = granted a statement me

-- what rows that were read bring: a use of their table
abbrev pub with_read : Option Statement → Transaction → Transaction
with_read None me = me
with_read (Some statement) me = on_table with_use (table_of statement) me

-- what a Write that is done brings: its changes, by what the transaction sees
abbrev pub with_changes : Database → Option Statement → Transaction → Transaction
with_changes db None me = me
with_changes db (Some statement) me = record me { own = me.own ++ changes_of db statement }

-- After a reply to a session in this transaction. None begins another there, and none releases a
-- name.
abbrev pub next_inside : State → ℕ → Transaction → Act → Option Statement → Reply → State
next_inside state s me a statement (reply.Began n) = state
next_inside state s me a statement reply.Granted =
    with_transaction s (with_granted a statement me) state
next_inside state s me a statement (reply.Rows rows) =
    with_transaction s (with_read statement me) state
next_inside state s me a statement reply.Done =
    with_transaction s (with_changes (view state me) statement me) state
next_inside state s me a statement (reply.Asked k) =
    with_transaction s (record me { asked = Some k })
    (record state { asked = state.asked ++ me.own ∷ [] })
next_inside state s me a statement reply.ReadOnly = without_transaction s state
next_inside state s me a statement (reply.Answered k) =
    without_transaction s (record state { answered = state.answered + 1 })
next_inside state s me a statement reply.RolledBack = without_transaction s state
next_inside state s me a statement reply.Released = state
next_inside state s me a statement (reply.Refused why) = state

-- the names but this one
abbrev pub without_name : List ℕ → List (List ℕ) → List (List ℕ)
without_name name names = filter (λ n. not (same_name n name)) names

-- recovery no longer holds the name that the act releases
abbrev pub released : Act → State → State
released act.Begin state = state
released act.Read state = state
released act.Lock state = state
released act.Write state = state
released act.Ask state = state
released act.Answer state = state
released act.Rollback state = state
released (act.Release name) state = record state { stuck = without_name name state.stuck }

-- after a reply to a session in no transaction, which may begin one, or to recovery
abbrev pub next_outside : State → ℕ → Act → Option Statement → Reply → State
next_outside state s a statement (reply.Began n) = with_transaction s (begun n) state
next_outside state s a statement reply.Granted = state
next_outside state s a statement (reply.Rows rows) = state
next_outside state s a statement reply.Done = state
next_outside state s a statement (reply.Asked k) = state
next_outside state s a statement reply.ReadOnly = state
next_outside state s a statement (reply.Answered k) = state
next_outside state s a statement reply.RolledBack = state
next_outside state s a statement reply.Released = released a state
next_outside state s a statement (reply.Refused why) = state

-- after a reply to a session in this transaction, or in none
abbrev pub next_from : State → ℕ → Option Transaction → Act → Option Statement → Reply → State
next_from state s None a statement r = next_outside state s a statement r
next_from state s (Some me) a statement r = next_inside state s me a statement r

-- The state that a reply leaves, to an act of a session's statement, or to recovery, whose acts are
-- of none.
abbrev pub next_state : State → ℕ → Act → Option Statement → Reply → State
next_state state s a statement r = next_from state s (transaction_of state s) a statement r
