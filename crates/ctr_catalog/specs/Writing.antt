-- What makes a table leaves, and what undoes an item of the secondary log.
use Rattle.std.specs.Prelude.{◌≢◌, ◌⊎◌, ℕ, ◌+◌, ◌/◌, List, ⊤, Option, None, Some, Result, Ok, Err}
use Rattle.ctr_disk.specs.declared.disk.Disk.{Ghosts}
use Rattle.ctr_disk.specs.Image.{Image}
use Rattle.ctr_disk.specs.declared.fault.StoreFault.{StoreFault}
use Rattle.ctr_rec.specs.declared.record.Record.{Record}
use Rattle.ctr_rec.specs.declared.record.SlogItem.{SlogItem}
use Rattle.ctr_rec.specs.declared.record.SlogItem.TheVariants.{AllocOf, FreeOf, CreateOf, DropOf}
use Rattle.ctr_names.specs.page_Searching.{IsFirst}
use Rattle.ctr_names.specs.page_BadChain.{BadChain}
use Rattle.ctr_names.specs.area_Areas.{Area}
use Rattle.ctr_alloc.specs.area_Reading.{area_of}
use Rattle.ctr_alloc.specs.store_Store.{View, LeavesPage}
use Rattle.ctr_alloc.specs.walk_OneRecord.{LogsOne, WhyNotLogged}
use Rattle.ctr_alloc.specs.walk_Damage.{EndsTold, ReadsPages}
use Rattle.ctr_alloc.specs.record_effects_States.{pages_in}
use Rattle.ctr_alloc.specs.record_effects_Changing.{free_record, uncreate_record, undrop_record}
use Rattle.ctr_catalog.specs.declared.writing.CatalogRefusal.{CatalogRefusal}
use Rattle.ctr_catalog.specs.declared.writing.CatalogRefusal.TheVariants.{CatalogFull, Store}
use Rattle.ctr_catalog.specs.Free.{EndsCatalog, is_free_entry}

-- ---- a new table

-- The lowest entry of the catalog that is free, where one is.
abbrev pub HasLowestFree : (ℕ → List ℕ) → Option ℕ → Type 0
HasLowestFree pages found = IsFirst (is_free_entry (area_of pages)) 0 32 found

-- Where the making of a table ends, by the entries of the catalog: it has the lowest free one; or
-- none is free; or one is damaged, as that is told; or there is a free one and its record was
-- refused, for one of the two causes that there are.
abbrev pub EndsMaking : {D : Type 0} → (BadChain → StoreFault) → (ℕ → Record) → View D → View D
    → Result ℕ CatalogRefusal → Type 0
EndsMaking told made a b (Ok e) = HasLowestFree (pages_in a.now) (Some e)
EndsMaking told made a b (Err CatalogFull) = HasLowestFree (pages_in a.now) None
EndsMaking told made a b (Err (Store cause)) =
    EndsTold told (EndsCatalog a.now.counted (pages_in a.now)) (Err cause)
    ⊎ ((e : ℕ) × HasLowestFree (pages_in a.now) (Some e) × WhyNotLogged (made e) a b cause)

-- Its record is logged, by the entry; where no entry is free, or one is damaged, pages were read;
-- where the store refused, nothing is logged.
abbrev pub MakesTable : {D : Type 0} → Image → Ghosts D → (ℕ → Record) → View D → View D
    → Result ℕ CatalogRefusal → Type 0
MakesTable first g made a b (Ok e) = LogsOne {T = ℕ} first g (made e) a b (Ok e)
MakesTable first g made a b (Err CatalogFull) = LeavesPage {T = ⊤} first g a b (Ok tt)
MakesTable first g made a b (Err (Store cause)) = ReadsPages {T = ℕ} first g a b (Err cause)
    ⊎ ((e : ℕ) × LogsOne {T = ℕ} first g (made e) a b (Err cause))

-- ---- an item

-- the record that undoes it; of a page, with the byte in which the page has its bit
abbrev pub undo_record : SlogItem → ℕ → Record
undo_record (AllocOf x p) byte = free_record p byte
undo_record (FreeOf p) byte = free_record p byte
undo_record (CreateOf x e) byte = uncreate_record e
undo_record (DropOf x e) byte = undrop_record e

-- the page that this record is on: that of the map of allocated pages, or of the entry
abbrev pub undo_page : SlogItem → ℕ
undo_page (AllocOf x p) = 0
undo_page (FreeOf p) = 0
undo_page (CreateOf x e) = 1 + e / 16
undo_page (DropOf x e) = 1 + e / 16

-- a table that was made has an entry
abbrev pub HasMade : SlogItem → Area → Type 0
HasMade (AllocOf x p) area = Unit {0}
HasMade (FreeOf p) area = Unit {0}
HasMade (CreateOf x e) area = (area.title e).state ≢ 0
HasMade (DropOf x e) area = Unit {0}
