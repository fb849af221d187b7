-- What is wrong with the bytes of a record but a Checkpoint: the first check that fails, in this
-- order.
use Rattle.std.specs.Prelude.{◌≡◌, ℕ, ◌+◌, List, length, drop, Option, None, Some, Result, Ok, Err, nat_lt, ◌==◌, if◌then◌else◌, ⊤}
use Rattle.ctr_bytes.specs.Following.{◌>>=◌}
use Rattle.ctr_bytes.specs.Fields.{field}
use Rattle.ctr_rec.specs.declared.decoding.BadRecord.{BadRecord}
use Rattle.ctr_rec.specs.declared.record.Overlay.{Overlay}
use Rattle.ctr_rec.specs.declared.table.Field.{Field}
use Rattle.ctr_rec.specs.declared.table.Layout.{Layout}
use Rattle.ctr_rec.specs.Table.{bytes_of_field, most, flag_at}

-- a number at a place isn't the one that is wanted
abbrev pub wrong : ℕ → ℕ → ℕ → BadRecord
wrong at want got = record { at = at; want = want; got = got }

-- The check that a number wanted at a place is there.
abbrev pub expect : ℕ → ℕ → ℕ → Result ⊤ BadRecord
expect at want got = if want == got then Ok tt else Err (wrong at want got)

-- the flag is the one of the table, where the bytes reach to it
unfoldable pub flag_check : Layout → List ℕ → Result ⊤ BadRecord
flag_check l bytes =
    if nat_lt (flag_at l) (length bytes) then
    expect (flag_at l) l.flag (field 1 (flag_at l) bytes) else Ok tt

-- so many bytes from this offset on lie inside a page, and there are some
unfoldable pub inside_check : ℕ → ℕ → ℕ → Result ⊤ BadRecord
inside_check at offset len =
    if nat_lt 4096 (offset + len) then Err (wrong at 4096 (offset + len)) else
    if len == 0 then Err (wrong at 1 0) else Ok tt

-- the overlay lies so, where the bytes reach behind its place
unfoldable pub overlay_check : Layout → List ℕ → Result ⊤ BadRecord
overlay_check l bytes =
    if l.flag == 0 then Ok tt else
    if nat_lt (length bytes) (flag_at l + 9) then Ok tt else
    inside_check (flag_at l) (field 2 (flag_at l + 5) bytes) (field 2 (flag_at l + 7) bytes)

-- The length by the fields. An overlay whose place isn't there has one byte at least.
unfoldable pub length_wanted : Layout → List ℕ → ℕ
length_wanted l bytes =
    if l.flag == 0 then flag_at l + 1 else
    if nat_lt (length bytes) (flag_at l + 9) then flag_at l + 10 else
    flag_at l + 9 + field 2 (flag_at l + 7) bytes

-- the overlay in bytes that are as long as is wanted
unfoldable pub overlay_in : Layout → List ℕ → Option Overlay
overlay_in l bytes =
    if l.flag == 0 then None else
    Some (record {
      page = field 4 (flag_at l + 1) bytes;
      clear = l.flag == 2;
      offset = field 2 (flag_at l + 5) bytes;
      bytes = drop (flag_at l + 9) bytes;
    })

-- a number at a place is at most so much
unfoldable pub at_most : ℕ → ℕ → ℕ → Result ⊤ BadRecord
at_most at bound got = if nat_lt bound got then Err (wrong at bound got) else Ok tt

-- a field is at most what it may be
unfoldable pub bound_check : Field → ℕ → List ℕ → Result ⊤ BadRecord
bound_check f at bytes = at_most at (most f) (field (bytes_of_field f) at bytes)

-- the checks of a record of a row: flag, overlay, length, fields
unfoldable pub checks : Layout → List ℕ → Result ⊤ BadRecord
checks l bytes = do
  flag ← flag_check l bytes
  overlay ← overlay_check l bytes
  whole ← expect 0 (length_wanted l bytes) (length bytes)
  first ← bound_check l.first 1 bytes
  bound_check l.second (1 + bytes_of_field l.first) bytes

-- an answer is Ok where these checks pass, and else the first that fails
abbrev pub Answers : {A : Type 0} → Result A BadRecord → Result ⊤ BadRecord → Type 0
Answers (Ok r) checked = checked ≡ Ok tt
Answers (Err e) checked = checked ≡ Err e
