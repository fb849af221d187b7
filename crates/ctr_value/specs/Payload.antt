-- The payload of a row: its values after the key in order, each in the width of its column.
use Rattle.std.specs.Prelude.{◌≡◌, ◌⊎◌, ℕ, ℤ, ◌+◌, ◌-◌, ◌<◌, ◌≤◌, List, [], ◌∷◌, ◌++◌, length, take, drop, slice_index, replicate, FitsSigned}
use Rattle.std.specs.Int.{w64, cast_unsigned}
use Rattle.ctr_print.specs.types_Column.{Column}
use Rattle.ctr_print.specs.types_Kind.{Kind}
use Rattle.ctr_print.specs.types_Kind.TheVariants as kind
use Rattle.ctr_print.specs.types_Value.{Value}
use Rattle.ctr_print.specs.types_Value.TheVariants as value
use Rattle.ctr_print.specs.ctr_model.Refusals.{key_of}
use Rattle.ctr_bytes.specs.Fields.{spelled}
use Rattle.ctr_value.specs.declared.payload.PayloadError.{PayloadError}
use Rattle.ctr_value.specs.declared.payload.PayloadError.TheVariants as error

-- ---- what a row is

-- a value of a column: a whole number of 64 bits, or a text that isn't too long
abbrev pub IsOf : Kind → Value → Type 0
IsOf kind.Int (value.Int n) = FitsSigned w64 n
IsOf (kind.Chars most) (value.Chars text) = length text ≤ most
IsOf kind.Int (value.Chars text) = ⊥
IsOf (kind.Chars most) (value.Int n) = ⊥

-- as many values as columns, each of its column
abbrev pub AreOf : List Column → List Value → Type 0
AreOf [] [] = Unit {0}
AreOf [] (v ∷ vs) = ⊥
AreOf (c ∷ cs) [] = ⊥
AreOf (c ∷ cs) (v ∷ vs) = IsOf c.kind v × AreOf cs vs

-- the first column is there, and is an INT
abbrev pub IsKeyed : List Column → Type 0
IsKeyed [] = ⊥
IsKeyed (c ∷ cs) = c.kind ≡ kind.Int

-- the values of a row of these columns, the first of them its key
abbrev pub IsRow : List Column → List Value → Type 0
IsRow cs vs = IsKeyed cs × AreOf cs vs

-- ---- what is written

-- 8 bytes for a number; a length and room for the longest text
abbrev pub field_width : Kind → ℕ
field_width kind.Int = 8
field_width (kind.Chars most) = most + 1

-- the bytes of fields of these kinds
abbrev pub kinds_width : List Kind → ℕ
kinds_width [] = 0
kinds_width (k ∷ ks) = field_width k + kinds_width ks

-- the bytes of these columns' fields
abbrev pub width : List Column → ℕ
width [] = 0
width (c ∷ cs) = field_width c.kind + width cs

-- a number in two's complement; a text after its length, with zeros after it
abbrev pub field_of : Kind → Value → List ℕ
field_of kind.Int (value.Int n) = spelled 8 (cast_unsigned w64 n)
field_of (kind.Chars most) (value.Chars text) =
    length text ∷ (text ++ replicate (most - length text) 0)
field_of kind.Int (value.Chars text) = []
field_of (kind.Chars most) (value.Int n) = []

-- the fields of these columns, which are those after the key, in order
abbrev pub payload_of : List Column → List Value → List ℕ
payload_of [] vs = []
payload_of (c ∷ cs) [] = []
payload_of (c ∷ cs) (v ∷ vs) = field_of c.kind v ++ payload_of cs vs

-- ---- which bytes spell it: any may follow a text

-- the field of such a column with this value
abbrev pub IsField : Kind → Value → List ℕ → Type 0
IsField kind.Int (value.Int n) bytes = bytes ≡ spelled 8 (cast_unsigned w64 n)
IsField (kind.Chars most) (value.Chars text) bytes =
    (padding : List ℕ) × (length padding ≡ most - length text)
    × (bytes ≡ length text ∷ (text ++ padding))
IsField kind.Int (value.Chars text) bytes = ⊥
IsField (kind.Chars most) (value.Int n) bytes = ⊥

-- the fields of these values, one after another
abbrev pub IsPayload : List Column → List Value → List ℕ → Type 0
IsPayload [] [] bytes = bytes ≡ []
IsPayload [] (v ∷ vs) bytes = ⊥
IsPayload (c ∷ cs) [] bytes = ⊥
IsPayload (c ∷ cs) (v ∷ vs) bytes =
    (front : List ℕ) × (rest : List ℕ) × IsField c.kind v front × IsPayload cs vs rest
    × (bytes ≡ front ++ rest)

-- Values are those of a row of the key, and the payload is that of its columns behind the key.
abbrev pub IsRowOf : List Column → ℤ → List ℕ → List Value → Type 0
IsRowOf cs key bytes vs = IsRow cs vs × (key_of vs ≡ key) × IsPayload (drop 1 cs) (drop 1 vs) bytes

-- ---- what is refused

-- a value of the column is spelled at this place
abbrev pub HasField : Kind → ℕ → List ℕ → Type 0
HasField k at bytes = (v : Value) × IsOf k v × IsField k v (take (field_width k) (drop at bytes))

-- the text's length is above the most
abbrev pub IsBadField : Kind → ℕ → List ℕ → ℕ → ℕ → ℕ → Type 0
IsBadField kind.Int at bytes place want got = ⊥
IsBadField (kind.Chars most) at bytes place want got =
    (place ≡ at) × (want ≡ most) × (got ≡ slice_index bytes at) × (most < got)

-- the first bad field of those from a place on
abbrev pub HasBadField : List Column → ℕ → List ℕ → ℕ → ℕ → ℕ → Type 0
HasBadField [] at bytes place want got = ⊥
HasBadField (c ∷ cs) at bytes place want got =
    IsBadField c.kind at bytes place want got
    ⊎ (HasField c.kind at bytes × HasBadField cs (at + field_width c.kind) bytes place want got)

-- The payload hasn't the width of the columns; or else its first bad field.
abbrev pub IsBadPayload : List Column → List ℕ → ℕ → ℕ → ℕ → Type 0
IsBadPayload cs bytes place want got =
    ((place ≡ 0) × (want ≡ width cs) × (got ≡ length bytes) × (want ≡ got → ⊥))
    ⊎ ((length bytes ≡ width cs) × HasBadField cs 0 bytes place want got)

-- why it isn't read: memory ran out, or what is bad at a place of it
abbrev pub IsNoPayload : (ℕ → ℕ → ℕ → Type 0) → PayloadError → Type 0
IsNoPayload Bad error.OutOfMemory = Unit {0}
IsNoPayload Bad (error.Bad at want got) = Bad at want got × (want ≡ got → ⊥)
