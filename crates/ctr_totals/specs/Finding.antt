-- How the loaded table is found.
use Rattle.std.specs.Prelude.{◌≡◌, ◌<◌, ℕ, Bool, true, false, List, Option, None, Some, codes}
use Rattle.ctr_types.specs.declared.value.Column.{Column}
use Rattle.ctr_load.specs.Statements.{load_columns}
use Rattle.ctr_area.specs.Areas.{Title, Area}
use Rattle.ctr_area.specs.Images.{is_standing}

-- The table of a title stands, and its name is `load`.
abbrev pub IsLoad : (ℕ → Bool) → Title → Type 0
IsLoad committed title = (is_standing committed title ≡ true) × (title.name ≡ codes "load")

-- so it is, or it isn't
abbrev pub TellsLoad : (ℕ → Bool) → Title → Bool → Type 0
TellsLoad committed title true = IsLoad committed title
TellsLoad committed title false = IsLoad committed title → ⊥

-- One of the 32 entries has such a table; or none has.
abbrev pub FindsLoad : (ℕ → Bool) → Area → Option ℕ → Type 0
FindsLoad committed area None = (e : ℕ) → e < 32 → IsLoad committed (area.title e) → ⊥
FindsLoad committed area (Some e) = (e < 32) × IsLoad committed (area.title e)

-- A test of columns says that they are those of a generated script, or that they aren't.
abbrev pub TellsColumns : List Column → Bool → Type 0
TellsColumns columns true = columns ≡ load_columns
TellsColumns columns false = columns ≡ load_columns → ⊥

-- a column is this one, or it isn't
abbrev pub TellsColumn : Column → Column → Bool → Type 0
TellsColumn a b true = a ≡ b
TellsColumn a b false = a ≡ b → ⊥
