-- The columns of the table of an entry of the catalog.
use Rattle.std.specs.Prelude.{◌≡◌, ℕ, ◌+◌, ◌*◌, ◌/◌, ◌==◌, List, ⊤, Option, None, Some, IsSome, Result, Ok, Err, if◌then◌else◌}
use Rattle.ctr_types.specs.declared.memory.OutOfMemory.{OutOfMemory}
use Rattle.ctr_types.specs.declared.value.Column.{Column}
use Rattle.ctr_types.specs.declared.value.Schema.{Schema}
use Rattle.ctr_disk.specs.declared.fault.StoreFault.{StoreFault}
use Rattle.ctr_rec.specs.declared.decoding.BadRecord.{BadRecord}
use Rattle.ctr_names.specs.page_table_TheConstants.{ENTRY_SIZE}
use Rattle.ctr_names.specs.page_Columns.{entry_at}
use Rattle.ctr_names.specs.page_Damage.{entry_check}
use Rattle.ctr_names.specs.page_BadChain.{BadChain}
use Rattle.ctr_names.specs.page_BadChain.TheVariants.{OnPage, TooLong}
use Rattle.ctr_names.specs.area_Areas.{Title, Area}
use Rattle.ctr_alloc.specs.area_Reading.{title_of}
use Rattle.ctr_catalog.specs.declared.columns.SchemaRefusal.{SchemaRefusal}
use Rattle.ctr_catalog.specs.declared.columns.SchemaRefusal.TheVariants as refusal

-- the columns of the table of a title, none where the entry is free
abbrev pub columns_said : Title → Option (List Column)
columns_said title = if title.state == 0 then None else Some title.columns

-- the columns of the table that an entry of the area has, none where it is free
abbrev pub columns_there : Area → ℕ → Option (List Column)
columns_there area e = columns_said (area.title e)

-- What was given are these columns, or none where there are none. Memory runs out only where there
-- are some.
abbrev pub GivesColumns : Option (List Column) → Result (Option Schema) OutOfMemory → Type 0
GivesColumns columns (Ok None) = columns ≡ None
GivesColumns columns (Ok (Some schema)) = columns ≡ Some schema.columns
GivesColumns columns (Err e) = IsSome columns

-- an entry on a page fails its check; or it passes, and its columns are given
abbrev pub ColumnsSaid : ℕ → ℕ → List ℕ → Result (Result (Option Schema) OutOfMemory) BadRecord
    → Type 0
ColumnsSaid counted n page (Err bad) = entry_check counted (ENTRY_SIZE * n) page ≡ Err bad
ColumnsSaid counted n page (Ok given) = (entry_check counted (ENTRY_SIZE * n) page ≡ Ok tt)
    × GivesColumns (columns_said (title_of (entry_at n page))) given

-- what the reading of an entry ends with: its damage, on its page; or it passes
abbrev pub EndsChecked : {A : Type 0} → Result ⊤ BadRecord → ℕ → Result A BadChain → Type 0
EndsChecked check e (Ok x) = check ≡ Ok tt
EndsChecked check e (Err (OnPage q bad)) = (check ≡ Err bad) × (q ≡ 1 + e / 16)
EndsChecked check e (Err (TooLong last most)) = ⊥

-- An answer, of which want of memory is no fault of the store.
abbrev pub as_given : Result (Option Schema) SchemaRefusal
    → Result (Result (Option Schema) OutOfMemory) StoreFault
as_given (Ok schema) = Ok (Ok schema)
as_given (Err (refusal.Store fault)) = Err fault
as_given (Err refusal.OutOfMemory) = Ok (Err (record {}))
