-- The table of the records.
use Rattle.std.specs.Prelude.{ℕ, ◌^◌, ◌-◌, ◌+◌}
use Rattle.ctr_rec.specs.declared.table.Field.{Field}
use Rattle.ctr_rec.specs.declared.table.Field.TheVariants.{Nothing, Entry, Page, Xid}
use Rattle.ctr_rec.specs.declared.table.Layout.{Layout}
use Rattle.ctr_rec.specs.declared.table.Tag.{Tag}
use Rattle.ctr_rec.specs.declared.table.Tag.TheVariants.{Begin, Commit, Abort, Forget, Alloc, Format, Link, Free, Unlink, Create, Uncreate, Drop, Undrop, Row, Keep, Revert, Trim}

-- how many bytes a field has
abbrev pub bytes_of_field : Field → ℕ
bytes_of_field Nothing = 0
bytes_of_field Entry = 1
bytes_of_field Page = 4
bytes_of_field Xid = 8

-- the greatest number in it: 32 entries of the catalog, 30,000 pages
abbrev pub most : Field → ℕ
most Nothing = 0
most Entry = 31
most Page = 29999
most Xid = 2 ^ 64 - 1

-- a row: the byte with which the record begins, its two fields, the flag of its overlay
abbrev pub row : ℕ → Field → Field → ℕ → Layout
row number first second flag =
    record { number = number; first = first; second = second; flag = flag }

-- The table of records: for each tag its number, its two fields, and the flag of its overlay.
abbrev pub layout : Tag → Layout
layout Begin = row 2 Xid Nothing 0
layout Commit = row 3 Xid Nothing 0
layout Abort = row 4 Xid Nothing 0
layout Forget = row 5 Xid Nothing 0
layout Alloc = row 6 Xid Page 1
layout Format = row 7 Xid Page 2
layout Link = row 8 Xid Page 1
layout Free = row 9 Page Nothing 1
layout Unlink = row 10 Page Nothing 1
layout Create = row 11 Xid Entry 1
layout Uncreate = row 12 Entry Nothing 1
layout Drop = row 13 Xid Entry 1
layout Undrop = row 14 Entry Nothing 1
layout Row = row 15 Xid Xid 1
layout Keep = row 16 Xid Nothing 1
layout Revert = row 17 Xid Nothing 1
layout Trim = row 18 Nothing Nothing 1

-- where the flag stands: behind the number and the fields
abbrev pub flag_at : Layout → ℕ
flag_at l = 1 + bytes_of_field l.first + bytes_of_field l.second
