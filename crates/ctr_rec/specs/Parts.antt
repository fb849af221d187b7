-- How a record is spelled, and which parts a record has.
use Rattle.std.specs.Prelude.{◌≡◌, ℕ, ◌+◌, ◌^◌, ◌<◌, ◌≤◌, Bool, length, Option, None, Some, if◌then◌else◌}
use Rattle.ctr_rec.specs.declared.record.Overlay.{Overlay}
use Rattle.ctr_rec.specs.declared.record.Record.{Record}
use Rattle.ctr_rec.specs.declared.record.Record.TheVariants.{Checkpoint, Begin, Commit, Abort, Forget, Alloc, Format, Link, Free, Unlink, Create, Uncreate, Drop, Undrop, Row, Keep, Revert, Trim}
use Rattle.ctr_rec.specs.declared.record.Parts.{Parts}
use Rattle.ctr_rec.specs.declared.record.Form.{Form}
use Rattle.ctr_rec.specs.declared.record.Form.TheVariants.{Lists, Fields}
use Rattle.ctr_rec.specs.declared.table.Tag.{Tag}
use Rattle.ctr_rec.specs.declared.table.Tag.TheVariants as tag
use Rattle.ctr_rec.specs.Table.{layout, most}

-- the parts of a record without an overlay
abbrev pub plain : Tag → ℕ → Form
plain t first = Fields (record { tag = t; first = first; second = 0; overlay = None })

-- the parts of a record with one
abbrev pub laid : Tag → ℕ → ℕ → Overlay → Form
laid t first second o =
    Fields (record { tag = t; first = first; second = second; overlay = Some o })

-- how a record is spelled: a field that it hasn't is 0
abbrev pub form_of : Record → Form
form_of (Checkpoint next lists) = Lists next lists
form_of (Begin x) = plain tag.Begin x
form_of (Commit x) = plain tag.Commit x
form_of (Abort x) = plain tag.Abort x
form_of (Forget x) = plain tag.Forget x
form_of (Alloc x p o) = laid tag.Alloc x p o
form_of (Format x p o) = laid tag.Format x p o
form_of (Link x p o) = laid tag.Link x p o
form_of (Free p o) = laid tag.Free p 0 o
form_of (Unlink p o) = laid tag.Unlink p 0 o
form_of (Create x e o) = laid tag.Create x e o
form_of (Uncreate e o) = laid tag.Uncreate e 0 o
form_of (Drop x e o) = laid tag.Drop x e o
form_of (Undrop e o) = laid tag.Undrop e 0 o
form_of (Row x over o) = laid tag.Row x over o
form_of (Keep x o) = laid tag.Keep x 0 o
form_of (Revert x o) = laid tag.Revert x 0 o
form_of (Trim o) = laid tag.Trim 0 0 o

-- an overlay clears its page where the flag is 2
abbrev pub flag_of : Bool → ℕ
flag_of clear = if clear then 2 else 1

-- The flag is the overlay's. It lays a byte at least, inside a page of 4,096 bytes.
abbrev pub OverlayFits : ℕ → Option Overlay → Type 0
OverlayFits flag None = flag ≡ 0
OverlayFits flag (Some o) =
    (flag ≡ flag_of o.clear) × (o.page < 2 ^ 32) × (1 ≤ length o.bytes)
    × (o.offset + length o.bytes ≤ 4096)

-- the parts are those of a record
pub record PartsFit (p : Parts) : Type 0 where
  pub first : p.first ≤ most (layout p.tag).first
  pub second : p.second ≤ most (layout p.tag).second
  pub overlay : OverlayFits (layout p.tag).flag p.overlay
