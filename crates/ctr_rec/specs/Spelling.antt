-- The bytes of a record.
use Rattle.std.specs.Prelude.{ℕ, ◌+◌, List, ◌++◌, length, Option, None, Some}
use Rattle.ctr_bytes.specs.Fields.{spelled}
use Rattle.ctr_rec.specs.declared.record.Overlay.{Overlay}
use Rattle.ctr_rec.specs.declared.record.Record.{Record}
use Rattle.ctr_rec.specs.declared.record.Parts.{Parts}
use Rattle.ctr_rec.specs.declared.record.Form.{Form}
use Rattle.ctr_rec.specs.declared.record.Form.TheVariants.{Lists, Fields}
use Rattle.ctr_rec.specs.declared.table.Layout.{Layout}
use Rattle.ctr_rec.specs.Table.{bytes_of_field, layout}
use Rattle.ctr_rec.specs.Parts.{form_of}

-- the number and the two fields
abbrev pub field_bytes : Layout → ℕ → ℕ → List ℕ
field_bytes l first second =
    spelled 1 l.number ++ spelled (bytes_of_field l.first) first
    ++ spelled (bytes_of_field l.second) second

-- where an overlay lies: its page, its place in it, its length
abbrev pub place_bytes : List ℕ → ℕ → Overlay → List ℕ
place_bytes front flag o =
    front ++ spelled 1 flag ++ spelled 4 o.page ++ spelled 2 o.offset ++ spelled 2 (length o.bytes)

-- the flag behind the fields, and the overlay where there is one
abbrev pub with_overlay : List ℕ → ℕ → Option Overlay → List ℕ
with_overlay front flag None = front ++ spelled 1 flag
with_overlay front flag (Some o) = place_bytes front flag o ++ o.bytes

-- how many bytes the flag and the overlay have
abbrev pub overlay_len : Option Overlay → ℕ
overlay_len None = 1
overlay_len (Some o) = 9 + length o.bytes

-- the bytes of parts, by their row of the table
abbrev pub parts_bytes : Parts → List ℕ
parts_bytes p =
    with_overlay (field_bytes (layout p.tag) p.first p.second) (layout p.tag).flag p.overlay

-- the bytes of a Checkpoint: its number, the next transaction, its lists, and the flag 0
abbrev pub checkpoint_bytes : ℕ → List ℕ → List ℕ
checkpoint_bytes next lists = spelled 1 1 ++ spelled 8 next ++ lists ++ spelled 1 0

-- the bytes of a record by its form
abbrev pub form_bytes : Form → List ℕ
form_bytes (Lists next lists) = checkpoint_bytes next lists
form_bytes (Fields p) = parts_bytes p

-- the bytes of a record
abbrev pub record_bytes : Record → List ℕ
record_bytes r = form_bytes (form_of r)
