-- What a payload says, whatever bytes it has.
use Rattle.std.specs.Prelude.{ℕ, ℤ, List, [], ◌∷◌, map, take, drop}
use Rattle.std.specs.Int.{w64, cast_signed}
use Rattle.ctr_print.specs.types_Column.{Column}
use Rattle.ctr_print.specs.types_Kind.{Kind}
use Rattle.ctr_print.specs.types_Kind.TheVariants as kind
use Rattle.ctr_print.specs.types_Row.{Row}
use Rattle.ctr_print.specs.types_Value.{Value}
use Rattle.ctr_print.specs.types_Value.TheVariants as value
use Rattle.ctr_bytes.specs.Fields.{field}
use Rattle.ctr_value.specs.Payload.{field_width}

-- the value in a field: a number, or as many bytes of text as its length says
abbrev pub value_said : Kind → List ℕ → Value
value_said kind.Int bytes = value.Int (cast_signed w64 (field 8 0 bytes))
value_said (kind.Chars most) bytes = value.Chars (take (field 1 0 bytes) (drop 1 bytes))

-- the values of fields of these kinds, one behind another
abbrev pub values_of : List Kind → List ℕ → List Value
values_of [] bytes = []
values_of (k ∷ ks) bytes = value_said k bytes ∷ values_of ks (drop (field_width k) bytes)

-- the row of a key, by its payload, with columns of these kinds behind the key
abbrev pub row_by_kinds : List Kind → ℤ → List ℕ → Row
row_by_kinds kinds key payload = record { values = value.Int key ∷ values_of kinds payload }

-- the values of these columns' fields
abbrev pub values_in : List Column → List ℕ → List Value
values_in cs bytes = values_of (map (λ (c : Column). c.kind) cs) bytes

-- the values of the row of a key, by its payload
abbrev pub row_values : List Column → ℤ → List ℕ → List Value
row_values cs key payload = value.Int key ∷ values_in (drop 1 cs) payload
