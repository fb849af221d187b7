-- What the changes of the model do to the schema of one table, and to one key of it.
use Rattle.std.specs.Prelude.{◌≡◌, ℕ, ℤ, ◌&&◌, List, [], ◌∷◌, map, Option, Some, None, if◌then◌else◌}
use Rattle.std.specs.Option.{option_or, option_map}
use Rattle.std.specs.Ordering.{int_eq}
use Rattle.ctr_model.specs.types_Row.{Row}
use Rattle.ctr_snap.specs.types_Schema.{Schema}
use Rattle.ctr_model.specs.declared.database.Change.{Change}
use Rattle.ctr_model.specs.declared.database.Change.TheVariants as change
use Rattle.ctr_model.specs.declared.database.Table.{Table}
use Rattle.ctr_model.specs.Database.{Database, table_at, row_at}
use Rattle.ctr_model.specs.State.{same_name}

-- what a change leaves of the table of a name: it is made or dropped, or left alone
abbrev pub schema_change : List ℕ → Change → Option (Option Schema)
schema_change name (change.Put table k row) = None
schema_change name (change.Remove table k) = None
schema_change name (change.Create table schema) =
    if same_name table name then Some (Some schema) else None
schema_change name (change.Drop table) = if same_name table name then Some None else None

-- what a change leaves of a row: it is put or removed, or left alone; a table that is made or
-- dropped has no row
abbrev pub row_change : List ℕ → ℤ → Change → Option (Option Row)
row_change name key (change.Put table k row) =
    if same_name table name && int_eq k key then Some (Some row) else None
row_change name key (change.Remove table k) =
    if same_name table name && int_eq k key then Some None else None
row_change name key (change.Create table schema) =
    if same_name table name then Some None else None
row_change name key (change.Drop table) = if same_name table name then Some None else None

-- what a transaction leaves: its last change that counts
abbrev pub left_by : {V : Type 0} → (Change → Option (Option V)) → List Change → Option (Option V)
left_by f [] = None
left_by f (c ∷ cs) = option_or (left_by f cs) (f c)

-- what each transaction leaves of the table of a name
abbrev pub schema_writes : List ℕ → List (List Change) → List (Option (Option Schema))
schema_writes name ts = map (left_by (schema_change name)) ts

-- what each transaction leaves of a row
abbrev pub row_writes : List ℕ → ℤ → List (List Change) → List (Option (Option Row))
row_writes name key ts = map (left_by (row_change name key)) ts

-- the columns of the table of a name, where there is one
abbrev pub schema_named : Database → List ℕ → Option Schema
schema_named db name = option_map (λ (t : Table). t.schema) (table_at db name)

-- the row of a key, where the table is there
abbrev pub HasRow : Database → List ℕ → ℤ → Option Row → Type 0
HasRow db name key v = (t : Table) → table_at db name ≡ Some t → row_at t key ≡ v

-- the change that a write of a row is: a row is put, or removed where there is none
abbrev pub row_written : List ℕ → ℤ → Option Row → Change
row_written table key None = change.Remove table key
row_written table key (Some row) = change.Put table key row
