-- The records that change pages, each with the bytes that it lays. x is a transaction, p a page, e
-- an entry of the catalog.
use Rattle.std.specs.Prelude.{◌≡◌, ℕ, ◌+◌, ◌*◌, ◌/◌, ◌%◌, true, false, List, [], ◌∷◌, Some}
use Rattle.ctr_area.specs.ctr_bytes.Fields.{spelled}
use Rattle.ctr_redo.specs.rec_Overlay.{Overlay}
use Rattle.ctr_redo.specs.rec_Record.{Record}
use Rattle.ctr_redo.specs.rec_Record.TheVariants.{Alloc, Format, Link, Free, Unlink, Create, Uncreate, Drop, Undrop}
use Rattle.ctr_redo.specs.Overlaid.{overlay_of}
use Rattle.ctr_area.specs.types_Column.{Column}
use Rattle.ctr_area.specs.ctr_page.declared.header.Header.{Header}
use Rattle.ctr_area.specs.ctr_page.declared.rows.Place.{Place}
use Rattle.ctr_area.specs.ctr_page.declared.table.TheConstants.{ENTRY_SIZE, DROPPER_AT, FIRSTS_AT, VERSIONS_AT}
use Rattle.ctr_area.specs.ctr_page.Places.{start_of}
use Rattle.ctr_area.specs.ctr_page.Making.{header_bytes}
use Rattle.ctr_area.specs.ctr_page.Columns.{new_entry_bytes}

-- bytes over those of a page from a place on
abbrev pub laid_at : ℕ → ℕ → List ℕ → Overlay
laid_at p at bytes = record { page = p; clear = false; offset = at; bytes = bytes }

-- bytes on a page that is cleared first
abbrev pub laid_clear : ℕ → List ℕ → Overlay
laid_clear p bytes = record { page = p; clear = true; offset = 0; bytes = bytes }

-- bytes over those of an entry of the catalog from a place in it on
abbrev pub laid_in_entry : ℕ → ℕ → List ℕ → Overlay
laid_in_entry e at bytes = laid_at (1 + e / 16) (ENTRY_SIZE * (e % 16) + at) bytes

-- ---- pages: allocated, made empty, at the front of a chain, and free again

-- the byte of page 0 in which the page has its bit
abbrev pub alloc_record : ℕ → ℕ → ℕ → Record
alloc_record x p byte = Alloc x p (laid_at 0 (p / 8) (byte ∷ []))

-- The record of a page that is free again, with the byte of the allocation map.
abbrev pub free_record : ℕ → ℕ → Record
free_record p byte = Free p (laid_at 0 (p / 8) (byte ∷ []))

-- the header of an empty page
abbrev pub format_record : ℕ → ℕ → Header → Record
format_record x p h = Format x p (laid_clear p (header_bytes h))

-- a bucket's chain begins with the page
abbrev pub link_record : ℕ → ℕ → ℕ → ℕ → Record
link_record x p e bucket = Link x p (laid_in_entry e (FIRSTS_AT + 4 * bucket) (spelled 4 p))

-- the chain of versions begins with the page
abbrev pub link_older_record : ℕ → ℕ → ℕ → Record
link_older_record x p e = Link x p (laid_in_entry e VERSIONS_AT (spelled 4 p))

-- a bucket's chain begins with the next page of the one that leaves it
abbrev pub unlink_record : ℕ → ℕ → ℕ → ℕ → Record
unlink_record p next e bucket = Unlink p (laid_in_entry e (FIRSTS_AT + 4 * bucket) (spelled 4 next))

-- The record by which a page leaves the chain of versions of its table.
abbrev pub unlink_older_record : ℕ → ℕ → ℕ → Record
unlink_older_record p next e = Unlink p (laid_in_entry e VERSIONS_AT (spelled 4 next))

-- ---- tables

-- the entry of a new table
abbrev pub create_record : ℕ → ℕ → List ℕ → List Column → Record
create_record x e name columns =
    Create x e (laid_at (1 + e / 16) (ENTRY_SIZE * (e % 16)) (new_entry_bytes x name columns))

-- The record by which a table's entry is dead, since its making is undone.
abbrev pub uncreate_record : ℕ → Record
uncreate_record e = Uncreate e (laid_in_entry e 0 (2 ∷ []))

-- The record by which a transaction drops the table of an entry.
abbrev pub drop_record : ℕ → ℕ → Record
drop_record x e = Drop x e (laid_in_entry e DROPPER_AT (spelled 8 x))

-- The record by which nobody dropped the table of an entry, since its drop is undone.
abbrev pub undrop_record : ℕ → Record
undrop_record e = Undrop e (laid_in_entry e DROPPER_AT (spelled 8 0))

-- ---- what stands at a place of a page

-- bytes over what stands at a place, where what stands on the page has this size
abbrev pub laid_on_place : Place → ℕ → List ℕ → Overlay
laid_on_place at size bytes = laid_at at.page (start_of size at.slot) bytes

-- The overlay of a record is the one given.
abbrev pub Lays : Record → Overlay → Type 0
Lays r o = overlay_of r ≡ Some o
