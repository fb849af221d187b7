-- The rows of the loaded table, and the sum of its second column.
use Rattle.std.specs.Prelude.{◌≡◌, ◌≢◌, ℤ, pos, ◌+ℤ◌, List, [], ◌∷◌, length, Option, None, Some, codes}
use Rattle.ctr_types.specs.declared.value.Row.{Row}
use Rattle.ctr_types.specs.declared.value.Value.{Value}
use Rattle.ctr_types.specs.declared.value.Value.TheVariants as value
use Rattle.ctr_model.specs.declared.database.Table.{Table}
use Rattle.ctr_model.specs.Database.{Database, table_at}
use Rattle.ctr_load.specs.Statements.{load_columns}
use Rattle.ctr_totals.specs.declared.counting.Totals.{Totals}

-- the number in the second of these values; 0 where there is none
abbrev pub second_number : List Value → ℤ
second_number (key ∷ (value.Int n ∷ others)) = n
second_number values = pos 0

-- the number in a row's second column
abbrev pub number_of_row : Row → ℤ
number_of_row row = second_number row.values

-- the sum of these numbers of rows
abbrev pub sum_of_rows : List (ℤ × Row) → ℤ
sum_of_rows [] = pos 0
sum_of_rows (r ∷ rs) = number_of_row r.1 +ℤ sum_of_rows rs

-- The totals of a table that has no rows.
abbrev pub no_totals : Totals
no_totals = record { rows = 0; sum = pos 0 }

-- A table with the generated columns has so many rows, and this sum; of a table with others, and of
-- none, nothing is counted.
abbrev pub AreTotalsOf : Option Table → Totals → Type 0
AreTotalsOf None t = t ≡ no_totals
AreTotalsOf (Some table) t =
    (table.schema.columns ≡ load_columns
    → t ≡ record { rows = length table.rows; sum = sum_of_rows table.rows })
    × (table.schema.columns ≢ load_columns → t ≡ no_totals)

-- The totals of a database: those of its table `load`.
abbrev pub AreTotals : Database → Totals → Type 0
AreTotals db t = AreTotalsOf (table_at db (codes "load")) t
