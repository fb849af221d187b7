-- Why an act is refused: each cause by itself, and the first that applies.
use Rattle.std.specs.Prelude.{ℕ, ◌+◌, ℤ, pos, negsuc, ◌+ℤ◌, int_lt, nat_le, Bool, true, false, not, ◌&&◌, ◌||◌, List, [], ◌∷◌, ◌++◌, length, take, drop, Option, Some, None, is_some, is_none, if◌then◌else◌, option_and_then}
use Rattle.std.specs.Option.{option_map}
use Rattle.std.specs.List.{list_any}
use Rattle.std.specs.Ordering.{nat_cmp, int_eq}
use Rattle.ctr_types.specs.declared.value.Column.{Column}
use Rattle.ctr_types.specs.declared.value.Kind.{Kind}
use Rattle.ctr_types.specs.declared.value.Kind.TheVariants as kind
use Rattle.ctr_types.specs.declared.value.Row.{Row}
use Rattle.ctr_types.specs.declared.value.Value.{Value}
use Rattle.ctr_types.specs.declared.value.Value.TheVariants as value
use Rattle.ctr_types.specs.declared.statement.Statement.{Statement}
use Rattle.ctr_types.specs.declared.statement.Statement.TheVariants as st
use Rattle.ctr_types.specs.declared.statement.KeyIs.{KeyIs}
use Rattle.ctr_types.specs.declared.statement.Set.{Set}
use Rattle.ctr_types.specs.declared.statement.SetTo.{SetTo}
use Rattle.ctr_types.specs.declared.statement.SetTo.TheVariants as to
use Rattle.ctr_types.specs.declared.tape.Act.{Act}
use Rattle.ctr_types.specs.declared.tape.Act.TheVariants as act
use Rattle.ctr_types.specs.declared.tape.Refusal.{Refusal}
use Rattle.ctr_types.specs.declared.tape.Refusal.TheVariants as refusal
use Rattle.ctr_model.specs.declared.database.Change.{Change}
use Rattle.ctr_model.specs.declared.database.Change.TheVariants as change
use Rattle.ctr_model.specs.declared.state.KeyLock.{KeyLock}
use Rattle.ctr_model.specs.Maps.{without}
use Rattle.ctr_model.specs.Database.{Database, Table, table_at, row_at}
use Rattle.ctr_model.specs.State.{State, Transaction, same_name, has_name, view}

-- the first that is there
abbrev pub first_of : {A : Type 0} → List (Option A) → Option A
first_of [] = None
first_of (None ∷ xs) = first_of xs
first_of (Some x ∷ xs) = Some x

-- ---- what a statement speaks of

-- The table that a statement names, if it names one.
abbrev pub table_of : Statement → Option (List ℕ)
table_of st.Begin = None
table_of st.Commit = None
table_of st.Rollback = None
table_of (st.Create table schema) = Some table
table_of (st.DropTable table) = Some table
table_of (st.Insert table values) = Some table
table_of (st.Select table at) = Some table
table_of (st.Update table sets at) = Some table
table_of (st.Delete table at) = Some table

-- the key of a new row: its first value
abbrev pub key_of : List Value → ℤ
key_of [] = pos 0
key_of (value.Int n ∷ vs) = n
key_of (value.Chars text ∷ vs) = pos 0

-- the key of the row that it writes
abbrev pub key_written : Statement → Option ℤ
key_written st.Begin = None
key_written st.Commit = None
key_written st.Rollback = None
key_written (st.Create table schema) = None
key_written (st.DropTable table) = None
key_written (st.Insert table values) = Some (key_of values)
key_written (st.Select table at) = None
key_written (st.Update table sets at) = Some at.key
key_written (st.Delete table at) = Some at.key

-- The key that an act of it locks: a Lock that of the row, where it writes one. Else it locks none;
-- a Lock is then of the table's name.
abbrev pub key_locked : Act → Statement → Option ℤ
key_locked act.Begin statement = None
key_locked act.Read statement = None
key_locked act.Lock statement = key_written statement
key_locked act.Write statement = None
key_locked act.Ask statement = None
key_locked act.Answer statement = None
key_locked act.Rollback statement = None
key_locked (act.Release name) statement = None

-- A statement makes a table.
abbrev pub creates : Statement → Bool
creates st.Begin = false
creates st.Commit = false
creates st.Rollback = false
creates (st.Create table schema) = true
creates (st.DropTable table) = false
creates (st.Insert table values) = false
creates (st.Select table at) = false
creates (st.Update table sets at) = false
creates (st.Delete table at) = false

-- A statement makes or drops a table.
abbrev pub changes_schema : Statement → Bool
changes_schema st.Begin = false
changes_schema st.Commit = false
changes_schema st.Rollback = false
changes_schema (st.Create table schema) = true
changes_schema (st.DropTable table) = true
changes_schema (st.Insert table values) = false
changes_schema (st.Select table at) = false
changes_schema (st.Update table sets at) = false
changes_schema (st.Delete table at) = false

-- ---- what others have done

-- the transactions of the other sessions
abbrev pub others : ℕ → State → List (ℕ × Transaction)
others s state = without nat_cmp s state.sessions

-- the first session whose transaction passes the test, in order of number
abbrev pub first_session : (Transaction → Bool) → List (ℕ × Transaction) → Option ℕ
first_session test [] = None
first_session test (e ∷ es) = if test e.1 then Some e.0 else first_session test es

-- the lock is of this key in this table
abbrev pub is_lock_of : List ℕ → ℤ → KeyLock → Bool
is_lock_of table key lock = same_name lock.table table && int_eq lock.key key

-- the transaction keeps others from the name, which they want for a change of schema or not
abbrev pub is_busy : Bool → List ℕ → Transaction → Bool
is_busy schema name t = has_name name t.holds || (schema && has_name name t.uses)

-- the transaction has the key's lock
abbrev pub has_lock : List ℕ → ℤ → Transaction → Bool
has_lock table key t = list_any (is_lock_of table key) t.locks

-- Who keeps a session from the name: recovery, which is 0, or another session that holds it or,
-- for a statement that makes or drops a table, uses it.
abbrev pub busy_by : State → ℕ → Statement → List ℕ → Option ℕ
busy_by state s statement name =
    if has_name name state.stuck then Some 0 else
    first_session (is_busy (changes_schema statement) name) (others s state)

-- who else has the lock of the key
abbrev pub locked_by : State → ℕ → List ℕ → ℤ → Option ℕ
locked_by state s table key = first_session (has_lock table key) (others s state)

-- the change makes or drops a table of this name
abbrev pub is_schema_change : List ℕ → Change → Bool
is_schema_change name (change.Put table key row) = false
is_schema_change name (change.Remove table key) = false
is_schema_change name (change.Create table schema) = same_name table name
is_schema_change name (change.Drop table) = same_name table name

-- the change makes a table of this name
abbrev pub is_create_of : List ℕ → Change → Bool
is_create_of name (change.Put table key row) = false
is_create_of name (change.Remove table key) = false
is_create_of name (change.Create table schema) = same_name table name
is_create_of name (change.Drop table) = false

-- the change writes the row of this key
abbrev pub is_write_of : List ℕ → ℤ → Change → Bool
is_write_of name key (change.Put table k row) = same_name table name && int_eq k key
is_write_of name key (change.Remove table k) = same_name table name && int_eq k key
is_write_of name key (change.Create table schema) = false
is_write_of name key (change.Drop table) = false

-- the change writes the row of the key or, where none is given, makes or drops the table
abbrev pub is_touching : List ℕ → Option ℤ → Change → Bool
is_touching name None c = is_schema_change name c
is_touching name (Some key) c = is_write_of name key c

-- the commits answered since the transaction's snapshot was taken
abbrev pub answered_since : State → Transaction → List (List Change)
answered_since state me = drop me.snapshot (take state.answered state.asked)

-- the number of the last commit that has such a change, where the first one's number is given
abbrev pub last_with : (Change → Bool) → ℕ → List (List Change) → Option ℕ
last_with test number [] = None
last_with test number (t ∷ ts) =
    first_of (last_with test (number + 1) ts ∷ (if list_any test t then Some number else None) ∷ [])

-- the last commit since the snapshot that made or dropped a table of this name
abbrev pub schema_changed_by : State → Transaction → List ℕ → Option ℕ
schema_changed_by state me name =
    last_with (is_touching name None) (me.snapshot + 1) (answered_since state me)

-- The last commit since the snapshot that wrote the row. No other has written a key of a table that
-- the transaction itself made.
abbrev pub row_changed_by : State → Transaction → List ℕ → ℤ → Option ℕ
row_changed_by state me name key =
    if list_any (is_create_of name) me.own then None else
    last_with (is_touching name (Some key)) (me.snapshot + 1) (answered_since state me)

-- ---- values; a name that several columns bear means the first of them

-- the value is of a column's kind
abbrev pub fits : Kind → Value → Bool
fits kind.Int (value.Int n) = true
fits (kind.Chars most) (value.Chars text) = nat_le (length text) most
fits kind.Int (value.Chars text) = false
fits (kind.Chars most) (value.Int n) = false

-- The position of the first bad value, counted on from `at`: it doesn't fit its column, or is
-- surplus. Where values are missing, the position of the first that is.
abbrev pub bad_from : ℕ → List Column → List Value → Option ℕ
bad_from at [] [] = None
bad_from at [] (v ∷ vs) = Some at
bad_from at (c ∷ cs) [] = Some at
bad_from at (c ∷ cs) (v ∷ vs) = if fits c.kind v then bad_from (at + 1) cs vs else Some at

-- the first column has this name
abbrev pub is_first_column : List ℕ → List Column → Bool
is_first_column name [] = false
is_first_column name (c ∷ cs) = same_name name c.name

-- the kind of the column of this name, where there is one
abbrev pub kind_of : List ℕ → List Column → Option Kind
kind_of name [] = None
kind_of name (c ∷ cs) = if same_name name c.name then Some c.kind else kind_of name cs

-- A column's kind, if there is one, is INT.
abbrev pub is_int : Option Kind → Bool
is_int None = false
is_int (Some kind.Int) = true
is_int (Some (kind.Chars most)) = false

-- A value fits a column of the kind, if there is one.
abbrev pub suits : Option Kind → Value → Bool
suits None v = false
suits (Some k) v = fits k v

-- the literal doesn't fit the column, or one of the sum's columns is no INT column
abbrev pub bad_right_side : List Column → List ℕ → SetTo → Bool
bad_right_side cs column (to.Is v) = not (suits (kind_of column cs) v)
bad_right_side cs column (to.Sum other n) =
    not (is_int (kind_of column cs) && is_int (kind_of other cs))

-- one of the assignments is to the column
abbrev pub is_assigned : List ℕ → List Set → Bool
is_assigned name sets = list_any (λ set. same_name set.column name) sets

-- the column is unknown, the first or assigned before, or the right side doesn't suit it
abbrev pub is_bad_set : List Column → List Set → Set → Bool
is_bad_set cs before set =
    is_none (kind_of set.column cs) || is_first_column set.column cs
    || is_assigned set.column before || bad_right_side cs set.column set.to

-- the position of the first bad assignment after these
abbrev pub bad_set_after : List Column → List Set → List Set → Option ℕ
bad_set_after cs before [] = None
bad_set_after cs before (set ∷ sets) =
    if is_bad_set cs before set then Some (length before + 1) else
    bad_set_after cs (before ++ set ∷ []) sets

-- 0 where the column of WHERE isn't the first
abbrev pub bad_where : List Column → KeyIs → Option ℕ
bad_where cs at = if is_first_column at.column cs then None else Some 0

-- the position of the first bad value or assignment, or 0 for a bad WHERE
abbrev pub bad_value : List Column → Statement → Option ℕ
bad_value cs st.Begin = None
bad_value cs st.Commit = None
bad_value cs st.Rollback = None
bad_value cs (st.Create table schema) = None
bad_value cs (st.DropTable table) = None
bad_value cs (st.Insert table values) = bad_from 1 cs values
bad_value cs (st.Select table None) = None
bad_value cs (st.Select table (Some at)) = bad_where cs at
bad_value cs (st.Update table sets at) = first_of (bad_where cs at ∷ bad_set_after cs [] sets ∷ [])
bad_value cs (st.Delete table at) = bad_where cs at

-- ---- at Lock and Read

-- the refusal, where the cause is there
abbrev pub when : Bool → Refusal → Option Refusal
when b r = if b then Some r else None

-- the table must be there, or for CREATE must not
abbrev pub presence_refusals : Statement → Option Table → List (Option Refusal)
presence_refusals statement table =
    when (is_none table && not (creates statement)) refusal.NoTable
    ∷ when (is_some table && creates statement) refusal.TableExists ∷ []

-- nobody keeps the session from the name, and the table is the one of its snapshot
abbrev pub name_refusals : State → ℕ → Transaction → Statement → List ℕ → List (Option Refusal)
name_refusals state s me statement name =
    option_map refusal.TableBusy (busy_by state s statement name)
    ∷ option_map refusal.SchemaChanged (schema_changed_by state me name) ∷ []

-- the values suit the table, where it is there
abbrev pub value_refusals : Statement → Option Table → List (Option Refusal)
value_refusals statement None = []
value_refusals statement (Some table) =
    option_map refusal.BadValue (bad_value table.schema.columns statement) ∷ []

-- Where a key is locked: nobody else has its lock, and the row is the one of the snapshot.
abbrev pub key_refusals : State → ℕ → Transaction → List ℕ → Option ℤ → List (Option Refusal)
key_refusals state s me name None = []
key_refusals state s me name (Some key) =
    option_map refusal.RowLocked (locked_by state s name key)
    ∷ option_map refusal.RowChanged (row_changed_by state me name key) ∷ []

-- All of these in their order, for an act of the statement on the table of this name in the
-- session's view.
abbrev pub table_refusals : State → ℕ → Transaction → Act → Statement → List ℕ
    → List (Option Refusal)
table_refusals state s me a statement name =
    let table = table_at (view state me) name in
    presence_refusals statement table ++ name_refusals state s me statement name
    ++ value_refusals statement table ++ key_refusals state s me name (key_locked a statement)

-- why a Lock or a Read is refused, where it is
abbrev pub refusal_of : State → ℕ → Transaction → Act → Statement → Option Refusal
refusal_of state s me a statement =
    option_and_then (λ name. first_of (table_refusals state s me a statement name))
    (table_of statement)

-- ---- at Write

-- the value of a column in a row, as a number
abbrev pub number_in : List ℕ → List Column → List Value → ℤ
number_in name [] vs = pos 0
number_in name (c ∷ cs) [] = pos 0
number_in name (c ∷ cs) (value.Int n ∷ vs) =
    if same_name name c.name then n else number_in name cs vs
number_in name (c ∷ cs) (value.Chars text ∷ vs) =
    if same_name name c.name then pos 0 else number_in name cs vs

-- a sum, where it is a whole number of 64 bits
abbrev pub sum_of : ℤ → ℤ → Option Value
sum_of a b = let z = a +ℤ b in
    if not (int_lt z (negsuc 9223372036854775807)) && int_lt z (pos 9223372036854775808)
    then Some (value.Int z) else None

-- what a right side gives, by the row as it was; none where a sum is out of range
abbrev pub right_side : List Column → List Value → SetTo → Option Value
right_side cs old (to.Is v) = Some v
right_side cs old (to.Sum other n) = sum_of (number_in other cs old) n

-- the values, with this one in the column of the name
abbrev pub with_value : List ℕ → Value → List Column → List Value → List Value
with_value name new [] vs = vs
with_value name new (c ∷ cs) [] = []
with_value name new (c ∷ cs) (v ∷ vs) =
    if same_name name c.name then new ∷ vs else v ∷ with_value name new cs vs

-- The values with these assignments made, each by the row as it was before all of them; none where
-- a sum is out of range.
abbrev pub assigned : List Column → List Value → List Set → List Value → Option (List Value)
assigned cs old [] vs = Some vs
assigned cs old (set ∷ sets) vs =
    option_and_then (λ new. assigned cs old sets (with_value set.column new cs vs))
    (right_side cs old set.to)

-- the row of a key in a table, where both are there
abbrev pub row_of : Option Table → ℤ → Option Row
row_of None key = None
row_of (Some table) key = row_at table key

-- the columns of a table, where it is there
abbrev pub columns_of : Option Table → List Column
columns_of None = []
columns_of (Some table) = table.schema.columns

-- the row that the assignments make of a row; none where a sum is out of range
abbrev pub updated : List Column → List Set → Row → Option Row
updated cs sets row =
    option_map (λ (vs : List Value). record { values = vs })
    (assigned cs row.values sets row.values)

-- the row must be there, and each sum in its range
abbrev pub update_refusal : List Column → List Set → Option Row → Option Refusal
update_refusal cs sets None = Some refusal.NotFound
update_refusal cs sets (Some row) = when (is_none (updated cs sets row)) refusal.OutOfRange

-- why a Write is refused, where it is
abbrev pub write_refusal : Database → Statement → Option Refusal
write_refusal db st.Begin = None
write_refusal db st.Commit = None
write_refusal db st.Rollback = None
write_refusal db (st.Create table schema) = None
write_refusal db (st.DropTable table) = None
write_refusal db (st.Insert table values) =
    when (is_some (row_of (table_at db table) (key_of values))) refusal.Duplicate
write_refusal db (st.Select table at) = None
write_refusal db (st.Update table sets at) =
    let t = table_at db table in update_refusal (columns_of t) sets (row_of t at.key)
write_refusal db (st.Delete table at) =
    when (is_none (row_of (table_at db table) at.key)) refusal.NotFound
