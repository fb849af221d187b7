-- The record that bytes are, where they are one.
use Rattle.std.specs.Prelude.{ℕ, ◌+◌, ◌-◌, List, length, take, drop, Option, None, Some, ◌==◌, if◌then◌else◌}
use Rattle.ctr_bytes.specs.Fields.{field}
use Rattle.ctr_rec.specs.declared.record.Overlay.{Overlay}
use Rattle.ctr_rec.specs.declared.record.Parts.{Parts}
use Rattle.ctr_rec.specs.declared.record.Record.{Record}
use Rattle.ctr_rec.specs.declared.record.Record.TheVariants.{Checkpoint, Begin, Commit, Abort, Forget, Alloc, Format, Link, Free, Unlink, Create, Uncreate, Drop, Undrop, Row, Keep, Revert, Trim}
use Rattle.ctr_rec.specs.declared.table.Tag.{Tag}
use Rattle.ctr_rec.specs.declared.table.Tag.TheVariants as tag
use Rattle.ctr_rec.specs.Table.{layout, bytes_of_field}
use Rattle.ctr_rec.specs.Damage.{overlay_in}

-- the row of a number from 2 on
abbrev pub tag_numbered : ℕ → Tag
tag_numbered n =
    if n == 2 then tag.Begin else if n == 3 then tag.Commit else
    if n == 4 then tag.Abort else if n == 5 then tag.Forget else
    if n == 6 then tag.Alloc else if n == 7 then tag.Format else
    if n == 8 then tag.Link else if n == 9 then tag.Free else
    if n == 10 then tag.Unlink else if n == 11 then tag.Create else
    if n == 12 then tag.Uncreate else if n == 13 then tag.Drop else
    if n == 14 then tag.Undrop else if n == 15 then tag.Row else
    if n == 16 then tag.Keep else if n == 17 then tag.Revert else tag.Trim

-- the parts that stand in bytes by a row
abbrev pub parts_read : Tag → List ℕ → Parts
parts_read t bytes = record {
  tag = t;
  first = field (bytes_of_field (layout t).first) 1 bytes;
  second = field (bytes_of_field (layout t).second) (1 + bytes_of_field (layout t).first) bytes;
  overlay = overlay_in (layout t) bytes;
}

-- the record over an overlay; each row that wants one has one
abbrev pub over_its : Option Overlay → (Overlay → Record) → Record
over_its None made = Begin 0
over_its (Some o) made = made o

-- the record of a row with these fields
abbrev pub record_made : Tag → ℕ → ℕ → Option Overlay → Record
record_made tag.Begin a b o = Begin a
record_made tag.Commit a b o = Commit a
record_made tag.Abort a b o = Abort a
record_made tag.Forget a b o = Forget a
record_made tag.Alloc a b o = over_its o (λ l. Alloc a b l)
record_made tag.Format a b o = over_its o (λ l. Format a b l)
record_made tag.Link a b o = over_its o (λ l. Link a b l)
record_made tag.Free a b o = over_its o (λ l. Free a l)
record_made tag.Unlink a b o = over_its o (λ l. Unlink a l)
record_made tag.Create a b o = over_its o (λ l. Create a b l)
record_made tag.Uncreate a b o = over_its o (λ l. Uncreate a l)
record_made tag.Drop a b o = over_its o (λ l. Drop a b l)
record_made tag.Undrop a b o = over_its o (λ l. Undrop a l)
record_made tag.Row a b o = over_its o (λ l. Row a b l)
record_made tag.Keep a b o = over_its o (λ l. Keep a l)
record_made tag.Revert a b o = over_its o (λ l. Revert a l)
record_made tag.Trim a b o = over_its o (λ l. Trim l)

-- The record that its parts make.
abbrev pub record_with : Parts → Record
record_with p = record_made p.tag p.first p.second p.overlay

-- the record in bytes: a Checkpoint has its lists between its next transaction and its flag
unfoldable pub record_in : List ℕ → Record
record_in bytes =
    if field 1 0 bytes == 1
    then Checkpoint (field 8 1 bytes) (take (length bytes - 10) (drop 9 bytes))
    else record_with (parts_read (tag_numbered (field 1 0 bytes)) bytes)
