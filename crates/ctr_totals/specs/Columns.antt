-- What is told of the columns of an entry of the catalog.
use Rattle.std.specs.Prelude.{◌≡◌, ◌≢◌, ℕ, ◌+◌, ◌*◌, List, Bool, Result, Ok, Err}
use Rattle.ctr_types.specs.declared.value.Column.{Column}
use Rattle.ctr_bytes.specs.Fields.{field}
use Rattle.ctr_rec.specs.declared.decoding.BadRecord.{BadRecord}
use Rattle.ctr_page.specs.declared.table.TheConstants.{ENTRY_SIZE, COLUMNS_AT, COLUMN_SIZE}
use Rattle.ctr_page.specs.Columns.{columns_in, column_kind_at, entry_at, kind_said, name_in}
use Rattle.ctr_page.specs.Damage.{entry_check}
use Rattle.ctr_totals.specs.Finding.{TellsColumns}

-- where the column of a number begins
abbrev pub column_start : ℕ → ℕ
column_start n = COLUMNS_AT + 1 + COLUMN_SIZE * n

-- the column of a number in the bytes of an entry
abbrev pub column_at : ℕ → List ℕ → Column
column_at n bytes = record {
  name = name_in (column_start n) bytes;
  kind = kind_said (field 1 (column_kind_at (column_start n)) bytes);
}

-- An entry on a page fails its check; or it passes, and where it isn't free it is told whether its
-- table has the columns of a generated script.
abbrev pub ColumnsTold : ℕ → ℕ → List ℕ → Result Bool BadRecord → Type 0
ColumnsTold counted n page (Err bad) = entry_check counted (ENTRY_SIZE * n) page ≡ Err bad
ColumnsTold counted n page (Ok told) = (entry_check counted (ENTRY_SIZE * n) page ≡ Ok tt)
    × ((entry_at n page).state ≢ 0 → TellsColumns (columns_in (entry_at n page).bytes) told)
