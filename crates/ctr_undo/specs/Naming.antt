-- The names of the tables of what is left of undo, as they are read from the catalog.
use Rattle.std.specs.Prelude.{◌≡◌, ℕ, ◌*◌, ◌==◌, List, [], ◌∷◌, ⊤, Option, None, Some, Result, Ok, Err, IfOk, if◌then◌else◌}
use Rattle.ctr_types.specs.declared.memory.OutOfMemory.{OutOfMemory}
use Rattle.ctr_disk.specs.declared.fault.StoreFault.{StoreFault}
use Rattle.ctr_rec.specs.declared.decoding.BadRecord.{BadRecord}
use Rattle.ctr_rec.specs.declared.record.SlogItem.{SlogItem}
use Rattle.ctr_rec.specs.declared.record.SlogItem.TheVariants.{AllocOf, FreeOf, CreateOf, DropOf}
use Rattle.ctr_page.specs.declared.table.TheConstants.{ENTRY_SIZE}
use Rattle.ctr_page.specs.Columns.{entry_at}
use Rattle.ctr_page.specs.Damage.{entry_check}
use Rattle.ctr_area.specs.Areas.{Title, Area}
use Rattle.ctr_area.specs.Reading.{title_of}
use Rattle.ctr_undo.specs.declared.naming.NamesRefusal.{NamesRefusal}
use Rattle.ctr_undo.specs.declared.naming.NamesRefusal.TheVariants as refusal

-- ---- what is read

-- the name of the table of a title, none where the entry is free
abbrev pub name_said : Title → Option (List ℕ)
name_said title = if title.state == 0 then None else Some title.name

-- A call gives this name, or memory ran out.
abbrev pub GivesName : Option (List ℕ) → Result (Option (List ℕ)) OutOfMemory → Type 0
GivesName name given = IfOk given (λ found. found ≡ name)

-- an entry on a page fails its check; or it passes, and its name is given
abbrev pub NameSaid : ℕ → ℕ → List ℕ → Result (Result (Option (List ℕ)) OutOfMemory) BadRecord
    → Type 0
NameSaid counted n page (Err bad) = entry_check counted (ENTRY_SIZE * n) page ≡ Err bad
NameSaid counted n page (Ok given) = (entry_check counted (ENTRY_SIZE * n) page ≡ Ok tt)
    × GivesName (name_said (title_of (entry_at n page))) given

-- The name of the table of an item: of a page there is none, nor of an entry that is free.
abbrev pub name_read : Area → SlogItem → Option (List ℕ)
name_read area (AllocOf x p) = None
name_read area (FreeOf p) = None
name_read area (CreateOf x e) = name_said (area.title e)
name_read area (DropOf x e) = name_said (area.title e)

-- a name that is there, as a list
abbrev pub name_listed : Option (List ℕ) → List (List ℕ)
name_listed None = []
name_listed (Some name) = name ∷ []

-- ---- what is answered

-- by what was found: memory runs out, or the store fails
abbrev pub answered : {T : Type 0} → Result (Result T OutOfMemory) StoreFault
    → Result T NamesRefusal
answered (Ok (Ok x)) = Ok x
answered (Ok (Err e)) = Err refusal.OutOfMemory
answered (Err fault) = Err (refusal.Store fault)

-- What an answer is to the store whose pages are read: want of memory is no fault of it.
abbrev pub named_by : {T : Type 0} → Result T NamesRefusal → Result ⊤ StoreFault
named_by (Ok x) = Ok tt
named_by (Err (refusal.Store fault)) = Err fault
named_by (Err refusal.OutOfMemory) = Ok tt
