-- The area of pages. A page is read as its own header says: as one of rows or of versions, and by
-- the columns of the entry that it names. So what stands at a place doesn't depend on any chain.
use Rattle.std.specs.Prelude.{ℕ, ◌+◌, ◌*◌, ◌/◌, ◌%◌, ◌^◌, ◌==◌, nat_lt, ℤ, Bool, true, List, [], ◌∷◌, map, drop, slice_index, Some, None, if◌then◌else◌}
use Rattle.std.specs.Option.{option_map}
use Rattle.ctr_versions.specs.types_Row.{Row}
use Rattle.ctr_page.specs.types_Column.{Column}
use Rattle.ctr_page.specs.ctr_value.Payload.{width}
use Rattle.ctr_page.specs.ctr_value.Values.{row_values}
use Rattle.ctr_page.specs.declared.header.Header.{Header}
use Rattle.ctr_page.specs.declared.rows.Place.{Place}
use Rattle.ctr_page.specs.declared.rows.Version.{Version}
use Rattle.ctr_page.specs.declared.rows.RowSlot.{RowSlot}
use Rattle.ctr_page.specs.declared.rows.VersionEntry.{VersionEntry}
use Rattle.ctr_page.specs.declared.entry.CatalogEntry.{CatalogEntry}
use Rattle.ctr_page.specs.declared.table.TheConstants.{ENTRY_SIZE}
use Rattle.ctr_page.specs.Places.{slot_size, kept_size, room_for}
use Rattle.ctr_page.specs.Reading.{piece, header_in, slot_at, older_at}
use Rattle.ctr_page.specs.Columns.{entry_in, columns_in, table_name_in, first_in, versions_first_in}
use Rattle.ctr_area.specs.Areas.{Title, Firsts, no_pages, RowVersion, Slot, Older, Area, free_slot, free_older}

-- ---- page 0, and the pages 1 and 2

-- a bit of a byte is 1
abbrev pub has_bit : ℕ → ℕ → Bool
has_bit k byte = byte / 2 ^ k % 2 == 1

-- a page is allocated: a bit of page 0
abbrev pub is_taken : ℕ → List ℕ → Bool
is_taken p page = has_bit (p % 8) (slice_index page (p / 8))

-- the bytes of an entry of the catalog: 16 on page 1, and 16 on page 2; beyond them there are none
abbrev pub entry_bytes : (ℕ → List ℕ) → ℕ → List ℕ
entry_bytes pages e =
    if nat_lt e 32 then piece (ENTRY_SIZE * (e % 16)) ENTRY_SIZE (pages (1 + e / 16)) else []

-- what an entry says beside its pages
abbrev pub title_of : CatalogEntry → Title
title_of entry = record {
  state = entry.state;
  creator = entry.creator;
  dropper = entry.dropper;
  name = table_name_in entry.bytes;
  columns = columns_in entry.bytes;
}

-- the numbers of the buckets
abbrev pub bucket_numbers : List ℕ
bucket_numbers = 0 ∷ 1 ∷ 2 ∷ 3 ∷ 4 ∷ 5 ∷ 6 ∷ 7 ∷ []

-- a free entry has none, whatever its bytes are
abbrev pub firsts_of : CatalogEntry → Firsts
firsts_of entry =
    if entry.state == 0 then no_pages else
    record {
      buckets = map (λ b. first_in b entry.bytes) bucket_numbers;
      versions = versions_first_in entry.bytes;
    }

-- ---- rows

-- the row of a key by its payload, in these columns
abbrev pub row_said : List Column → ℤ → List ℕ → Row
row_said columns key payload = record { values = row_values columns key payload }

-- the version of a row, or of its tombstone, by the bytes of one
abbrev pub version_said : List Column → ℤ → Version → RowVersion
version_said columns key v =
    (v.xid, if v.tombstone == 0 then Some (row_said columns key v.payload) else None)

-- of a slot that isn't used no more is said
abbrev pub slot_said : List Column → RowSlot → Slot
slot_said columns s =
    if s.used == 1 then
    record {
      used = true;
      key = s.key;
      head = version_said columns s.key s.head;
      previous = option_map (version_said columns s.key) s.previous;
      pointer = s.older;
    } else free_slot

-- nor of a version entry
abbrev pub older_said : List Column → VersionEntry → Older
older_said columns e =
    if e.used == 1 then
    record {
      used = true;
      key = e.key;
      version = version_said columns e.key e.version;
      pointer = e.older;
    } else free_older

-- ---- the area

-- the pages 0, 1 and 2 are none of rows or of versions
abbrev pub no_header : Header
no_header = record { kind = 0; entry = 0; bucket = 0; next = 0 }

-- the header of any other
abbrev pub header_on : (ℕ → List ℕ) → ℕ → Header
header_on pages p = if nat_lt p 3 then no_header else header_in (pages p)

-- the columns of the entry that a page names
abbrev pub columns_on : (ℕ → List ℕ) → ℕ → List Column
columns_on pages p = columns_in (entry_bytes pages (header_on pages p).entry)

-- the width of the rows on a page
abbrev pub width_on : (ℕ → List ℕ) → ℕ → ℕ
width_on pages p = width (drop 1 (columns_on pages p))

-- the size of a slot, or of a version entry, of rows so wide
abbrev pub size_of_kind : Bool → ℕ → ℕ
size_of_kind rows w = if rows then slot_size w else kept_size w

-- the size of what stands on it
abbrev pub size_on : (ℕ → List ℕ) → ℕ → ℕ
size_on pages p = size_of_kind ((header_on pages p).kind == 1) (width_on pages p)

-- on a page of rows a slot
abbrev pub slot_on : (ℕ → List ℕ) → Place → Slot
slot_on pages at =
    if (header_on pages at.page).kind == 1 then
    slot_said (columns_on pages at.page) (slot_at (width_on pages at.page) at.slot (pages at.page))
    else free_slot

-- on a page of versions a version entry
abbrev pub older_on : (ℕ → List ℕ) → Place → Older
older_on pages at =
    if (header_on pages at.page).kind == 2 then
    older_said (columns_on pages at.page)
    (older_at (width_on pages at.page) at.slot (pages at.page))
    else free_older

-- the area of pages, by their bytes
abbrev pub area_of : (ℕ → List ℕ) → Area
area_of pages = record {
  title = λ e. title_of (entry_in (entry_bytes pages e));
  firsts = λ e. firsts_of (entry_in (entry_bytes pages e));
  taken = λ p. is_taken p (pages 0);
  header = header_on pages;
  room = λ p. room_for (size_on pages p);
  slot = slot_on pages;
  older = older_on pages;
}
