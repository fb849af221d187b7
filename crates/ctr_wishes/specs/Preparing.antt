-- What a Write will do, by the pages.
use Rattle.std.specs.Prelude.{◌≡◌, ℕ, ℤ, Bool, List, FitsSigned, Option, None, Some}
use Rattle.std.specs.Int.{w64}
use Rattle.ctr_types.specs.declared.value.Column.{Column}
use Rattle.ctr_types.specs.declared.value.Row.{Row}
use Rattle.ctr_types.specs.declared.value.Schema.{Schema}
use Rattle.ctr_types.specs.declared.statement.Statement.{Statement}
use Rattle.ctr_types.specs.declared.tape.Refusal.TheVariants as refusal
use Rattle.ctr_model.specs.Refusals.{key_written}
use Rattle.ctr_value.specs.Columns.{ColumnsFit}
use Rattle.ctr_area.specs.Areas.{Area}
use Rattle.ctr_reading.specs.catalog_SchemaRefusal.{SchemaRefusal}
use Rattle.ctr_reading.specs.catalog_SchemaRefusal.TheVariants as without
use Rattle.ctr_reading.specs.catalog_Columns.{columns_there}
use Rattle.ctr_reading.specs.chain_ReadRefusal.{ReadRefusal}
use Rattle.ctr_reading.specs.chain_ReadRefusal.TheVariants as unread
use Rattle.ctr_reading.specs.Reading.{IsRowSeen}
use Rattle.ctr_wishes.specs.declared.making.Prepared.{Prepared}
use Rattle.ctr_wishes.specs.declared.making.Prepared.TheVariants.{Refused}
use Rattle.ctr_wishes.specs.Heads.{IsWished}

-- ---- the columns

-- why columns aren't read, as a reading is refused
abbrev pub schema_read : SchemaRefusal → ReadRefusal
schema_read (without.Store fault) = unread.Store fault
schema_read without.OutOfMemory = unread.OutOfMemory

-- the columns that were read, or none
abbrev pub columns_read : Option Schema → Option (List Column)
columns_read None = None
columns_read (Some schema) = Some schema.columns

-- ---- what is prepared

-- In the table of an entry, which has these columns, the row of the statement's key is this one, as
-- a test shows it, and the statement comes to that.
pub record IsMadeOf (test : ℕ → Bool) (area : Area) (e : ℕ) (statement : Statement)
    (cs : List Column) (p : Prepared) : Type 0 where
  pub key : ℤ
  pub row : Option Row
  pub written : key_written statement ≡ Some key
  pub wide : FitsSigned w64 key
  pub columns : ColumnsFit cs
  pub seen : IsRowSeen test area e key row
  pub wished : IsWished cs statement row p

-- that, where the entry has columns; where it is free there is no table
abbrev pub IsMadeIn : (ℕ → Bool) → Area → ℕ → Statement → Option (List Column) → Prepared → Type 0
IsMadeIn test area e statement None p = p ≡ Refused refusal.NoTable
IsMadeIn test area e statement (Some cs) p = IsMadeOf test area e statement cs p

-- What is prepared is what a statement comes to by an entry of the catalog, and by the row that is
-- seen.
abbrev pub IsPrepared : (ℕ → Bool) → Area → ℕ → Statement → Prepared → Type 0
IsPrepared test area e statement p = IsMadeIn test area e statement (columns_there area e) p
