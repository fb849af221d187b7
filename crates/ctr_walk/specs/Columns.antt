-- What the bytes of an entry of the catalog that passes its check say of its table's columns.
use Rattle.std.specs.Prelude.{ℕ, ◌+◌, ◌*◌, ◌<◌, ◌≤◌, List}
use Rattle.ctr_bytes.specs.Fields.{field}
use Rattle.ctr_record_effects.specs.page_table_TheConstants.{NAME_MOST, COLUMNS_AT, COLUMN_SIZE, MOST_COLUMNS}

-- There are at most 8 columns, and each has a name, of 1 to 16 bytes.
pub record HaveNames (bytes : List ℕ) : Type 0 where
  pub few : field 1 COLUMNS_AT bytes ≤ MOST_COLUMNS
  pub names : (i : ℕ) → i < field 1 COLUMNS_AT bytes
      → (1 ≤ field 1 (COLUMNS_AT + 1 + COLUMN_SIZE * i) bytes)
      × (field 1 (COLUMNS_AT + 1 + COLUMN_SIZE * i) bytes ≤ NAME_MOST)
