-- What is wrong on a page: the first check that fails, in this order. A place is a byte of the
-- page.
use Rattle.std.specs.Prelude.{◌≢◌, ℕ, zero, suc, ◌+◌, ◌-◌, List, [], ◌∷◌, Result, Ok, Err, IfErr, ◌==◌, if◌then◌else◌, ⊤}
use Rattle.ctr_rec.specs.types_Kind.{Kind}
use Rattle.ctr_rec.specs.types_Kind.TheVariants.{Int, Chars}
use Rattle.ctr_rec.specs.bytes_Fields.{field}
use Rattle.ctr_value.specs.Payload.{field_width}
use Rattle.ctr_rec.specs.declared.decoding.BadRecord.{BadRecord}
use Rattle.ctr_rec.specs.bytes_Following.{◌>>=◌}
use Rattle.ctr_rec.specs.Damage.{wrong, expect, at_most}
use Rattle.ctr_page.specs.declared.checks.Chain.{Chain}
use Rattle.ctr_page.specs.declared.checks.Chain.TheVariants.{Rows, Versions}
use Rattle.ctr_page.specs.declared.table.TheConstants.{KIND_AT, OWNER_AT, BUCKET_AT, NEXT_AT, HEAD_AT, TOMBSTONE_AT, VERSION_SIZE, NAME_AT, NAME_MOST, COLUMNS_AT, COLUMN_SIZE, MOST_COLUMNS, FIRSTS_AT}
use Rattle.ctr_page.specs.Places.{has_previous, previous_at, pointer_at, kept_pointer_at, kept_size, room_for}
use Rattle.ctr_page.specs.Columns.{column_kind_at, kinds_width}

-- ---- the header of a page to which a chain leads

-- the kind of the pages of a chain
abbrev pub chain_kind : Chain → ℕ
chain_kind (Rows e b) = 1
chain_kind (Versions e) = 2

-- the entry of the catalog that a chain is of
abbrev pub chain_entry : Chain → ℕ
chain_entry (Rows e b) = e
chain_entry (Versions e) = e

-- The bucket of a chain of rows; 0 for a chain of versions.
abbrev pub chain_bucket : Chain → ℕ
chain_bucket (Rows e b) = b
chain_bucket (Versions e) = 0

-- a page that is named at a place is counted, or is 0
unfoldable pub counted_check : ℕ → ℕ → List ℕ → Result ⊤ BadRecord
counted_check counted at page = at_most at (counted - 1) (field 4 at page)

-- kind, entry, bucket, next page
unfoldable pub header_check : Chain → ℕ → List ℕ → Result ⊤ BadRecord
header_check chain counted page = do
  kind ← expect KIND_AT (chain_kind chain) (field 1 KIND_AT page)
  entry ← expect OWNER_AT (chain_entry chain) (field 1 OWNER_AT page)
  bucket ← expect BUCKET_AT (chain_bucket chain) (field 1 BUCKET_AT page)
  counted_check counted NEXT_AT page

-- ---- slots and version entries that are used

-- a pointer's page is counted, and its slot is one of those on a page of versions
unfoldable pub place_check : ℕ → ℕ → ℕ → List ℕ → Result ⊤ BadRecord
place_check counted w at page = do
  named ← counted_check counted at page
  at_most (at + 4) (room_for (kept_size w) - 1) (field 2 (at + 4) page)

-- of a pointer to no page nothing is checked
unfoldable pub pointer_check : ℕ → ℕ → ℕ → List ℕ → Result ⊤ BadRecord
pointer_check counted w at page =
    if field 4 at page == 0 then Ok tt else place_check counted w at page

-- a text is no longer than its column
abbrev pub text_check : Kind → ℕ → List ℕ → Result ⊤ BadRecord
text_check Int at page = Ok tt
text_check (Chars most) at page = at_most at most (field 1 at page)

-- the texts of a payload
abbrev pub texts_check : List Kind → ℕ → List ℕ → Result ⊤ BadRecord
texts_check [] at page = Ok tt
texts_check (k ∷ ks) at page =
    text_check k at page >>= λ _. texts_check ks (at + field_width k) page

-- whether it is a tombstone, and its texts
unfoldable pub version_check : List Kind → ℕ → List ℕ → Result ⊤ BadRecord
version_check kinds at page = do
  tombstone ← at_most (at + TOMBSTONE_AT) 1 (field 1 (at + TOMBSTONE_AT) page)
  texts_check kinds (at + VERSION_SIZE) page

-- of a version that isn't there nothing is checked
unfoldable pub some_version_check : List Kind → ℕ → List ℕ → Result ⊤ BadRecord
some_version_check kinds at page =
    if field 8 at page == 0 then Ok tt else version_check kinds at page

-- the previous version of a slot, where there is one
unfoldable pub previous_check : List Kind → ℕ → List ℕ → Result ⊤ BadRecord
previous_check kinds start page =
    if has_previous (kinds_width kinds) then
    some_version_check kinds (start + previous_at (kinds_width kinds)) page else Ok tt

-- a slot that is used: its pointer, its head, and the previous version where it has one
unfoldable pub used_slot_check : List Kind → ℕ → ℕ → List ℕ → Result ⊤ BadRecord
used_slot_check kinds counted start page = do
  pointer ← pointer_check counted (kinds_width kinds) (start + pointer_at (kinds_width kinds)) page
  head ← version_check kinds (start + HEAD_AT) page
  previous_check kinds start page

-- a version entry that is used: its pointer and its version
unfoldable pub used_kept_check : List Kind → ℕ → ℕ → List ℕ → Result ⊤ BadRecord
used_kept_check kinds counted start page = do
  pointer ← pointer_check counted (kinds_width kinds)
      (start + kept_pointer_at (kinds_width kinds)) page
  version_check kinds (start + HEAD_AT) page

-- the slot that begins at a place of the page: of a free one nothing more
unfoldable pub slot_check : List Kind → ℕ → ℕ → List ℕ → Result ⊤ BadRecord
slot_check kinds counted start page =
    if field 1 start page == 1 then used_slot_check kinds counted start page
    else at_most start 1 (field 1 start page)

-- The check of a version entry as it stands on its page.
unfoldable pub kept_check : List Kind → ℕ → ℕ → List ℕ → Result ⊤ BadRecord
kept_check kinds counted start page =
    if field 1 start page == 1 then used_kept_check kinds counted start page
    else at_most start 1 (field 1 start page)

-- ---- entries of the catalog

-- a number is from 1 on, and at most so much
unfoldable pub from_1_check : ℕ → ℕ → List ℕ → Result ⊤ BadRecord
from_1_check most at page =
    if field 1 at page == 0 then Err (wrong at 1 0) else at_most at most (field 1 at page)

-- so many first pages from a place on are counted
abbrev pub firsts_check : ℕ → ℕ → ℕ → List ℕ → Result ⊤ BadRecord
firsts_check zero counted at page = Ok tt
firsts_check (suc n) counted at page =
    counted_check counted at page >>= λ _. firsts_check n counted (at + 4) page

-- the length of a column's name, and its kind
unfoldable pub column_check : ℕ → ℕ → List ℕ → Result ⊤ BadRecord
column_check most at page = do
  name ← from_1_check NAME_MOST at page
  at_most (column_kind_at at) most (field 1 (column_kind_at at) page)

-- so many columns behind the first
abbrev pub columns_check : ℕ → ℕ → List ℕ → Result ⊤ BadRecord
columns_check zero at page = Ok tt
columns_check (suc n) at page =
    column_check 64 at page >>= λ _. columns_check n (at + COLUMN_SIZE) page

-- the first pages, the state, the length of the name, the columns: the first is INT
unfoldable pub used_entry_check : ℕ → ℕ → List ℕ → Result ⊤ BadRecord
used_entry_check counted start page = do
  firsts ← firsts_check 9 counted (start + FIRSTS_AT) page
  state ← at_most start 2 (field 1 start page)
  name ← from_1_check NAME_MOST (start + NAME_AT) page
  number ← from_1_check MOST_COLUMNS (start + COLUMNS_AT) page
  key ← column_check 0 (start + COLUMNS_AT + 1) page
  columns_check (field 1 (start + COLUMNS_AT) page - 1) (start + COLUMNS_AT + 1 + COLUMN_SIZE) page

-- the entry that begins at a place of the page: of a free one nothing more
unfoldable pub entry_check : ℕ → ℕ → List ℕ → Result ⊤ BadRecord
entry_check counted start page =
    if field 1 start page == 0 then Ok tt else used_entry_check counted start page

-- where there is damage, what is wanted isn't what is there
abbrev pub DamageDiffers : Result ⊤ BadRecord → Type 0
DamageDiffers checked = IfErr checked (λ e. e.want ≢ e.got)
