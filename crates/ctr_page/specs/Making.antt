-- The bytes of what stands on a page, and what has bytes.
use Rattle.std.specs.Prelude.{◌≡◌, ℕ, ◌+◌, ◌^◌, ◌<◌, true, FitsSigned, List, [], ◌++◌, length, drop, replicate, Option, None, Some, if◌then◌else◌}
use Rattle.std.specs.Int.{w64, cast_unsigned}
use Rattle.ctr_rec.specs.bytes_Fields.{spelled}
use Rattle.ctr_page.specs.declared.header.Header.{Header}
use Rattle.ctr_page.specs.declared.rows.Place.{Place}
use Rattle.ctr_page.specs.declared.rows.Version.{Version}
use Rattle.ctr_page.specs.declared.rows.RowSlot.{RowSlot}
use Rattle.ctr_page.specs.declared.rows.VersionEntry.{VersionEntry}
use Rattle.ctr_page.specs.declared.table.TheConstants.{VERSION_SIZE}
use Rattle.ctr_page.specs.Places.{has_previous}

-- ---- bytes

-- The bytes of a page's header.
abbrev pub header_bytes : Header → List ℕ
header_bytes h =
    spelled 1 h.kind ++ spelled 1 h.entry ++ spelled 1 h.bucket ++ spelled 1 0 ++ spelled 4 h.next
    ++ spelled 8 0

-- where the next older version stands
abbrev pub pointer_bytes : Place → List ℕ
pointer_bytes p = spelled 4 p.page ++ spelled 2 p.slot

-- a version: its transaction, whether it is a tombstone, its payload
abbrev pub version_bytes : Version → List ℕ
version_bytes v = spelled 8 v.xid ++ spelled 1 v.tombstone ++ v.payload

-- zeros where there is no version
abbrev pub some_version_bytes : ℕ → Option Version → List ℕ
some_version_bytes w None = replicate (VERSION_SIZE + w) 0
some_version_bytes w (Some v) = version_bytes v

-- nothing where the slot has no room for it
abbrev pub previous_bytes : ℕ → Option Version → List ℕ
previous_bytes w v = if has_previous w then some_version_bytes w v else []

-- a row's slot, of this width
abbrev pub slot_bytes : ℕ → RowSlot → List ℕ
slot_bytes w s =
    spelled 1 s.used ++ spelled 8 (cast_unsigned w64 s.key) ++ version_bytes s.head
    ++ previous_bytes w s.previous ++ pointer_bytes s.older

-- The bytes of a version entry.
abbrev pub kept_bytes : VersionEntry → List ℕ
kept_bytes e =
    spelled 1 e.used ++ spelled 8 (cast_unsigned w64 e.key) ++ version_bytes e.version
    ++ pointer_bytes e.older

-- ---- what has bytes

-- its numbers fit their fields
abbrev pub IsHeader : Header → Type 0
IsHeader h = (h.kind < 256) × (h.entry < 256) × (h.bucket < 256) × (h.next < 256 ^ 4)

-- A place fits its fields: 4 bytes for the page, 2 for the slot.
abbrev pub PlaceFits : Place → Type 0
PlaceFits p = (p.page < 256 ^ 4) × (p.slot < 256 ^ 2)

-- a version with a payload of the width
abbrev pub IsVersion : ℕ → Version → Type 0
IsVersion w v = (v.xid < 256 ^ 8) × (v.tombstone < 256) × (length v.payload ≡ w)

-- one with a number is there only where the slot has room for it
abbrev pub IsPrevious : ℕ → Option Version → Type 0
IsPrevious w None = Unit {0}
IsPrevious w (Some v) = (has_previous w ≡ true) × (0 < v.xid) × IsVersion w v

-- A slot fits its fields, and its versions have payloads of the width.
pub record IsSlot (w : ℕ) (s : RowSlot) : Type 0 where
  pub used : s.used < 256
  pub key : FitsSigned w64 s.key
  pub head : IsVersion w s.head
  pub previous : IsPrevious w s.previous
  pub older : PlaceFits s.older

-- A version entry fits its fields, and has a payload of the width.
pub record IsEntry (w : ℕ) (e : VersionEntry) : Type 0 where
  pub used : e.used < 256
  pub key : FitsSigned w64 e.key
  pub version : IsVersion w e.version
  pub older : PlaceFits e.older

-- ---- putting

-- Bytes are put at a place, up to an end; those before and behind stay.
pub record PutsBytes (at : ℕ) (bytes a b : List ℕ) (end : ℕ) : Type 0 where
  pub long : length b ≡ length a
  pub ends : end ≡ at + length bytes
  pub adds : (front old : List ℕ) → at ≡ length front → a ≡ front ++ drop at old
      → b ≡ (front ++ bytes) ++ drop end old
