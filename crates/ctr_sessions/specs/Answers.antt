-- What an engine answers a session, by versions, snapshots and what its locks say alone.
use Rattle.std.specs.Prelude.{ℕ, ℤ, Bool, not, ◌&&◌, List, [], ◌∷◌, ◌++◌, Option, Some, None, is_some, is_none, if◌then◌else◌, option_and_then}
use Rattle.std.specs.Option.{option_map}
use Rattle.ctr_types.specs.declared.value.Column.{Column}
use Rattle.ctr_types.specs.declared.value.Row.{Row}
use Rattle.ctr_types.specs.declared.statement.Statement.{Statement}
use Rattle.ctr_types.specs.declared.statement.Statement.TheVariants as st
use Rattle.ctr_types.specs.declared.tape.Refusal.{Refusal}
use Rattle.ctr_types.specs.declared.tape.Refusal.TheVariants as refusal
use Rattle.ctr_types.specs.declared.tape.Act.{Act}
use Rattle.ctr_model.specs.declared.database.Table.{Table}
use Rattle.ctr_model.specs.Refusals.{table_of, key_locked, creates, bad_value, when, first_of, updated, update_refusal}
use Rattle.ctr_model.specs.Reply.{rows_found}
use Rattle.ctr_versions.specs.Chains.{value_seen, newest_since, written_by}
use Rattle.ctr_versions.specs.Xids.{number_of}
use Rattle.ctr_versions.specs.Versions.{Made, names_at, rows_of, table_seen}
use Rattle.ctr_versions.specs.Engine.{SessionHeld, session_sees}
use Rattle.ctr_sessions.specs.Sessions.{Begun}

-- Where a session stands that is to be answered: the versions, its own number and snapshot, of how
-- many commits that is, and what the locks say: who keeps it from the statement's table, and who
-- else has the lock of a key there.
pub record Seat : Type 0 where
  pub db : Begun
  pub session : SessionHeld
  pub since : ℕ
  pub busy : Option ℕ
  pub locked : ℤ → Option ℕ

-- ---- what is seen

-- the versions that the session sees
abbrev pub seat_sees : Seat → ℕ → Bool
seat_sees seat = session_sees seat.db.engine.xids seat.session

-- the table that it sees under a name
abbrev pub made_seen : Seat → List ℕ → Option Made
made_seen seat name = value_seen (seat_sees seat) (names_at seat.db.engine.versions name)

-- its columns, where it is there
abbrev pub columns_seen : Option Made → List Column
columns_seen None = []
columns_seen (Some made) = made.schema.columns

-- the row of a key that it sees in a table
abbrev pub row_seen : Seat → Option Made → ℤ → Option Row
row_seen seat None key = None
row_seen seat (Some made) key =
    value_seen (seat_sees seat) (rows_of seat.db.engine.versions made.id key)

-- a table with its rows, as it sees them
abbrev pub with_rows : Seat → Made → Table
with_rows seat made = table_seen (seat_sees seat) seat.db.engine.versions made

-- The rows that a Read of a statement gives, by what a session sees.
abbrev pub rows_seen : Seat → Statement → List Row
rows_seen seat st.Begin = []
rows_seen seat st.Commit = []
rows_seen seat st.Rollback = []
rows_seen seat (st.Create table schema) = []
rows_seen seat (st.DropTable table) = []
rows_seen seat (st.Insert table values) = []
rows_seen seat (st.Select table at) =
    rows_found at (option_map (with_rows seat) (made_seen seat table))
rows_seen seat (st.Update table sets at) = []
rows_seen seat (st.Delete table at) = []

-- ---- refusals of a Lock and of a Read

-- the commit of a newer version of the name
abbrev pub name_newer : Seat → List ℕ → Option ℕ
name_newer seat name =
    newest_since (number_of seat.db.engine.xids) seat.since
    (names_at seat.db.engine.versions name)

-- The commit of a newer version of the row; in a table that the session made itself nobody else has
-- one.
abbrev pub row_newer : Seat → List ℕ → ℤ → Option Made → Option ℕ
row_newer seat name key None = None
row_newer seat name key (Some made) =
    if is_some (written_by seat.session.me (names_at seat.db.engine.versions name)) then None else
    newest_since (number_of seat.db.engine.xids) seat.since
    (rows_of seat.db.engine.versions made.id key)

-- the values suit the table, where it is there
abbrev pub values_refused : Statement → Option Made → List (Option Refusal)
values_refused statement None = []
values_refused statement (Some made) =
    option_map refusal.BadValue (bad_value made.schema.columns statement) ∷ []

-- where a key is locked: nobody else has its lock, and the row is the one of the snapshot
abbrev pub keys_refused : Seat → List ℕ → Option Made → Option ℤ → List (Option Refusal)
keys_refused seat name made None = []
keys_refused seat name made (Some key) =
    option_map refusal.RowLocked (seat.locked key)
    ∷ option_map refusal.RowChanged (row_newer seat name key made) ∷ []

-- each refusal in its order, for the table that is seen under the name
abbrev pub refusals_seen : Seat → Act → Statement → List ℕ → Option Made → List (Option Refusal)
refusals_seen seat a statement name made =
    when (is_none made && not (creates statement)) refusal.NoTable
    ∷ when (is_some made && creates statement) refusal.TableExists
    ∷ option_map refusal.TableBusy seat.busy
    ∷ option_map refusal.SchemaChanged (name_newer seat name)
    ∷ (values_refused statement made ++ keys_refused seat name made (key_locked a statement))

-- why a Lock or a Read is refused
abbrev pub refusal_seen : Seat → Act → Statement → Option Refusal
refusal_seen seat a statement =
    option_and_then (λ name. first_of (refusals_seen seat a statement name (made_seen seat name)))
    (table_of statement)

-- ---- Write of a row

-- why it is refused, by the table's columns and the row that is there
abbrev pub write_refused : List Column → Statement → Option Row → Option Refusal
write_refused cs st.Begin row = None
write_refused cs st.Commit row = None
write_refused cs st.Rollback row = None
write_refused cs (st.Create table schema) row = None
write_refused cs (st.DropTable table) row = None
write_refused cs (st.Insert table values) row = when (is_some row) refusal.Duplicate
write_refused cs (st.Select table at) row = None
write_refused cs (st.Update table sets at) row = update_refusal cs sets row
write_refused cs (st.Delete table at) row = when (is_none row) refusal.NotFound

-- the row that it leaves, or none
abbrev pub row_left : List Column → Statement → Option Row → Option Row
row_left cs st.Begin row = None
row_left cs st.Commit row = None
row_left cs st.Rollback row = None
row_left cs (st.Create table schema) row = None
row_left cs (st.DropTable table) row = None
row_left cs (st.Insert table values) row = Some (record { values = values })
row_left cs (st.Select table at) row = None
row_left cs (st.Update table sets at) row = option_and_then (updated cs sets) row
row_left cs (st.Delete table at) row = None
