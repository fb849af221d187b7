-- A database is tables by name and rows by key. Changes are applied to it one after another.
use Rattle.std.specs.Prelude.{ℕ, ℤ, List, [], ◌∷◌, Option, Some, None}
use Rattle.std.specs.declared.cmp.Ordering.{Ordering}
use Rattle.std.specs.Ordering.{nat_cmp, int_cmp}
use Rattle.std.specs.Cmp.Lexicographic.{slice_cmp}
use Rattle.std.specs.FinMap.Entries.{put, find}
use Rattle.ctr_types.specs.declared.value.Row.{Row}
use Rattle.ctr_model.specs.declared.database.Change.{Change}
use Rattle.ctr_model.specs.declared.database.Change.TheVariants as change
use Rattle.ctr_model.specs.Maps.{without}
pub use Rattle.ctr_model.specs.declared.database.Table.{Table}

-- names in the order of their bytes
abbrev pub name_cmp : List ℕ → List ℕ → Ordering
name_cmp = slice_cmp nat_cmp

-- tables in the order of their names; each has its schema, and rows in the order of their keys
abbrev pub Database : Type 0
Database = List (List ℕ × Table)

-- the table of a name, where there is one
abbrev pub table_at : Database → List ℕ → Option Table
table_at db name = find name_cmp name db

-- the row of a key, where there is one
abbrev pub row_at : Table → ℤ → Option Row
row_at table key = find int_cmp key table.rows

-- the table with this row, new or in place of the one of its key
abbrev pub with_row : ℤ → Row → Table → Table
with_row key row table = record table { rows = put int_cmp key row table.rows }

-- the table but the row of this key
abbrev pub without_row : ℤ → Table → Table
without_row key table = record table { rows = without int_cmp key table.rows }

-- the table that was found under a name is changed; where none was, nothing is
abbrev pub at_found : List ℕ → (Table → Table) → Option Table → Database → Database
at_found name f None db = db
at_found name f (Some table) db = put name_cmp name (f table) db

-- the table of a name is changed, where it is there
abbrev pub at_table : List ℕ → (Table → Table) → Database → Database
at_table name f db = at_found name f (table_at db name) db

-- A row is put or removed in a table that is there; else nothing changes. A created table is empty.
abbrev pub changed : Change → Database → Database
changed (change.Put table key row) db = at_table table (with_row key row) db
changed (change.Remove table key) db = at_table table (without_row key) db
changed (change.Create table schema) db =
    put name_cmp table (record { schema = schema; rows = [] }) db
changed (change.Drop table) db = without name_cmp table db

-- after these changes, in order
abbrev pub after : List Change → Database → Database
after [] db = db
after (c ∷ cs) db = after cs (changed c db)

-- after the changes of these transactions, in order
abbrev pub after_all : List (List Change) → Database → Database
after_all [] db = db
after_all (t ∷ ts) db = after_all ts (after t db)
