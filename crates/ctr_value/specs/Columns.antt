-- The columns of a table: which there may be, and their bytes, in a record and on a page.
use Rattle.std.specs.Prelude.{ℕ, zero, suc, ◌-◌, ◌<◌, ◌≤◌, List, [], ◌∷◌, ◌++◌, length}
use Rattle.std.specs.List.{AllByRecursion}
use Rattle.ctr_print.specs.types_Names.{IsName}
use Rattle.ctr_print.specs.types_Kind.{Kind}
use Rattle.ctr_print.specs.types_Kind.TheVariants.{Int, Chars}
use Rattle.ctr_print.specs.types_Column.{Column}

-- ---- which there may be

-- INT, or a text with room for 1 to so many bytes
abbrev pub KindFits : ℕ → Kind → Type 0
KindFits most Int = Unit {0}
KindFits most (Chars n) = (1 ≤ n) × (n ≤ most)

-- a name of 1 to 16 bytes, and such a kind
abbrev pub ColumnFits : ℕ → Column → Type 0
ColumnFits most c = IsName c.name × KindFits most c.kind

-- 1 to 8 columns; the first is INT, as a text of at most 0 bytes is none
abbrev pub ColumnsFit : List Column → Type 0
ColumnsFit [] = ⊥
ColumnsFit (c ∷ cs) = ColumnFits 0 c × AllByRecursion (ColumnFits 64) cs × (length cs < 8)

-- ---- their bytes

-- a byte of length, and the name
abbrev pub name_bytes : List ℕ → List ℕ
name_bytes name = length name ∷ name

-- So many bytes that are zero.
abbrev pub zeros : ℕ → List ℕ
zeros zero = []
zeros (suc n) = 0 ∷ zeros n

-- 0 for INT, n for TEXT(n)
abbrev pub kind_number : Kind → ℕ
kind_number Int = 0
kind_number (Chars n) = n

-- 18 bytes: the name's length, the name with zeros up to 16 bytes, the kind
abbrev pub column_bytes : Column → List ℕ
column_bytes c = name_bytes c.name ++ (zeros (16 - length c.name) ++ (kind_number c.kind ∷ []))
