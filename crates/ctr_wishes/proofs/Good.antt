-- A row of a key whose values suit the columns.
use Rattle.std.proofs.Common.{◌≡◌, ℤ, List, Option, None, Some}
use Rattle.ctr_types.specs.declared.value.Column.{Column}
use Rattle.ctr_types.specs.declared.value.Row.{Row}
use Rattle.ctr_model.specs.Refusals.{key_of, bad_from}

abbrev pub IsGood : List Column → ℤ → Row → Type 0
IsGood cs key row = (bad_from 1 cs row.values ≡ None) × (key_of row.values ≡ key)

-- or none
abbrev pub IfGood : List Column → ℤ → Option Row → Type 0
IfGood cs key left = (row : Row) → left ≡ Some row → IsGood cs key row
