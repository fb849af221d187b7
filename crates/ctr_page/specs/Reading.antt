-- What stands on a page, whatever bytes it has.
use Rattle.std.specs.Prelude.{ℕ, ◌+◌, List, ◌++◌, length, take, drop, Option, None, Some, ◌==◌, if◌then◌else◌}
use Rattle.std.specs.Int.{w64, cast_signed}
use Rattle.ctr_rec.specs.bytes_Fields.{field}
use Rattle.ctr_page.specs.declared.header.Header.{Header}
use Rattle.ctr_page.specs.declared.rows.Place.{Place}
use Rattle.ctr_page.specs.declared.rows.Version.{Version}
use Rattle.ctr_page.specs.declared.rows.RowSlot.{RowSlot}
use Rattle.ctr_page.specs.declared.rows.VersionEntry.{VersionEntry}
use Rattle.ctr_page.specs.declared.table.TheConstants.{KIND_AT, OWNER_AT, BUCKET_AT, NEXT_AT, KEY_AT, HEAD_AT, TOMBSTONE_AT, VERSION_SIZE}
use Rattle.ctr_page.specs.Places.{has_previous, previous_at, pointer_at, kept_pointer_at, slot_size, kept_size, start_of}

-- so many bytes from a place on
abbrev pub piece : ℕ → ℕ → List ℕ → List ℕ
piece at n bytes = take n (drop at bytes)

-- the bytes with these over those from a place on
abbrev pub put_over : ℕ → List ℕ → List ℕ → List ℕ
put_over at new bytes = take at bytes ++ (new ++ drop (at + length new) bytes)

-- the header of a page of rows or of versions
abbrev pub header_in : List ℕ → Header
header_in page = record {
  kind = field 1 KIND_AT page;
  entry = field 1 OWNER_AT page;
  bucket = field 1 BUCKET_AT page;
  next = field 4 NEXT_AT page;
}

-- ---- slots and version entries, by their own bytes

-- where a slot or a version entry stands
abbrev pub place_in : ℕ → List ℕ → Place
place_in at bytes = record { page = field 4 at bytes; slot = field 2 (at + 4) bytes }

-- a version, whose payload has this width
abbrev pub version_in : ℕ → ℕ → List ℕ → Version
version_in w at bytes = record {
  xid = field 8 at bytes;
  tombstone = field 1 (at + TOMBSTONE_AT) bytes;
  payload = piece (at + VERSION_SIZE) w bytes;
}

-- a version of the transaction 0 is none
abbrev pub if_there : Version → Option Version
if_there v = if v.xid == 0 then None else Some v

-- the version before the head, where the slot has room for one and it is there
abbrev pub previous_in : ℕ → List ℕ → Option Version
previous_in w bytes =
    if has_previous w then if_there (version_in w (previous_at w) bytes) else None

-- The slot of a row that these bytes say.
abbrev pub slot_in : ℕ → List ℕ → RowSlot
slot_in w bytes = record {
  used = field 1 0 bytes;
  key = cast_signed w64 (field 8 KEY_AT bytes);
  head = version_in w HEAD_AT bytes;
  previous = previous_in w bytes;
  older = place_in (pointer_at w) bytes;
}

-- The version entry that these bytes say.
abbrev pub older_in : ℕ → List ℕ → VersionEntry
older_in w bytes = record {
  used = field 1 0 bytes;
  key = cast_signed w64 (field 8 KEY_AT bytes);
  version = version_in w HEAD_AT bytes;
  older = place_in (kept_pointer_at w) bytes;
}

-- ---- by their number on a page

-- the slot of a number, from 0, on a page
abbrev pub slot_at : ℕ → ℕ → List ℕ → RowSlot
slot_at w number page = slot_in w (piece (start_of (slot_size w) number) (slot_size w) page)

-- the version entry of a number, from 0, on a page
abbrev pub older_at : ℕ → ℕ → List ℕ → VersionEntry
older_at w number page = older_in w (piece (start_of (kept_size w) number) (kept_size w) page)
