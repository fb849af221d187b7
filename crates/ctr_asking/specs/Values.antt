-- What a statement's values are to the columns of the table of an entry.
use Rattle.std.specs.Prelude.{◌≡◌, ℕ, ◌+◌, ◌-◌, ◌*◌, List, Option, Result, Ok, Err, option_and_then}
use Rattle.ctr_types.specs.declared.value.Column.{Column}
use Rattle.ctr_types.specs.declared.statement.Statement.{Statement}
use Rattle.ctr_bytes.specs.Fields.{field}
use Rattle.ctr_model.specs.Refusals.{bad_value}
use Rattle.ctr_rec.specs.declared.decoding.BadRecord.{BadRecord}
use Rattle.ctr_page.specs.declared.table.TheConstants.{ENTRY_SIZE}
use Rattle.ctr_page.specs.Columns.{columns_from, entry_at}
use Rattle.ctr_page.specs.Damage.{entry_check}
use Rattle.ctr_area.specs.Areas.{Title, Area}
use Rattle.ctr_area.specs.Reading.{title_of}
use Rattle.ctr_wishes.specs.ctr_reading.catalog_Columns.{columns_said}

-- the columns that an entry says from a number on
abbrev pub columns_behind : ℕ → List ℕ → List Column
columns_behind i bytes = columns_from (field 1 34 bytes - i) (35 + 18 * i) bytes

-- the first bad value of a statement on the table of a title, none where the entry is free
abbrev pub bad_by : Statement → Title → Option ℕ
bad_by statement title = option_and_then (λ cs. bad_value cs statement) (columns_said title)

-- the first bad value of a statement on the table of an entry of the area, none where the entry is
-- free
abbrev pub bad_in : Statement → Area → ℕ → Option ℕ
bad_in statement area e = bad_by statement (area.title e)

-- An entry on a page fails its check; or it passes, and the first bad value is told.
abbrev pub ValuesSaid : ℕ → Statement → ℕ → List ℕ → Result (Option ℕ) BadRecord → Type 0
ValuesSaid counted statement n page (Err bad) = entry_check counted (ENTRY_SIZE * n) page ≡ Err bad
ValuesSaid counted statement n page (Ok bad) =
    (entry_check counted (ENTRY_SIZE * n) page ≡ Ok tt)
    × (bad ≡ bad_by statement (title_of (entry_at n page)))
