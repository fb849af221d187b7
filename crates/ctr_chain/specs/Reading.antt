-- The row of a version that was found, as it is read from the page that it stands on.
use Rattle.std.specs.Prelude.{◌≡◌, ℕ, List, ⊤, Option, Result, Ok, Err}
use Rattle.ctr_types.specs.declared.memory.OutOfMemory.{OutOfMemory}
use Rattle.ctr_types.specs.declared.value.Kind.{Kind}
use Rattle.ctr_types.specs.declared.value.Row.{Row}
use Rattle.ctr_rec.specs.declared.decoding.BadRecord.{BadRecord}
use Rattle.ctr_page.specs.declared.rows.Place.{Place}
use Rattle.ctr_page.specs.declared.rows.RowSlot.{RowSlot}
use Rattle.ctr_page.specs.Places.{slot_size}
use Rattle.ctr_page.specs.Reading.{slot_at, older_at}
use Rattle.ctr_page.specs.Columns.{kinds_width}
use Rattle.ctr_pvs.specs.walk_TableOf.{TableOf}
use Rattle.ctr_pvs.specs.walk_Tables.{kinds_said}
use Rattle.ctr_pvs.specs.Reading.{lies_check, kept_on_check, row_on_check}
use Rattle.ctr_chain.specs.declared.seeking.VersionAt.{VersionAt}
use Rattle.ctr_chain.specs.declared.seeking.VersionAt.TheVariants.{Head, Previous, Kept}
use Rattle.ctr_chain.specs.Rows.{head_row, previous_row, kept_row, GivesRow}

-- the place of the slot or version entry that has a version of the row at a place
abbrev pub place_of_version : Place → VersionAt → Place
place_of_version row Head = row
place_of_version row Previous = row
place_of_version row (Kept p) = p

-- A slot of a number lies on a page of a table, and is read; or it doesn't lie there.
abbrev pub ReadAgain : TableOf → ℕ → List ℕ → Result RowSlot BadRecord → Type 0
ReadAgain t number page (Ok s) = s ≡ slot_at (kinds_width (kinds_said t)) number page
ReadAgain t number page (Err bad) =
    lies_check (slot_size (kinds_width (kinds_said t))) number ≡ Err bad

-- what is wrong with that slot or version entry on a page, by the table
abbrev pub found_check : ℕ → TableOf → VersionAt → ℕ → List ℕ → Result ⊤ BadRecord
found_check counted t Head number page = row_on_check counted t.entry (kinds_said t) number page
found_check counted t Previous number page =
    row_on_check counted t.entry (kinds_said t) number page
found_check counted t (Kept p) number page =
    kept_on_check counted t.entry (kinds_said t) number page

-- the row of the version there, by columns of these kinds behind the key
abbrev pub row_there : VersionAt → List Kind → ℕ → List ℕ → Option Row
row_there Head kinds number page = head_row kinds (slot_at (kinds_width kinds) number page)
row_there Previous kinds number page = previous_row kinds (slot_at (kinds_width kinds) number page)
row_there (Kept p) kinds number page = kept_row kinds (older_at (kinds_width kinds) number page)

-- The check of a version on a page passes, and its row is given; or the check tells what is wrong.
abbrev pub RowSaidAt : ℕ → TableOf → VersionAt → ℕ → List ℕ
    → Result (Result (Option Row) OutOfMemory) BadRecord → Type 0
RowSaidAt counted t at number page (Ok given) =
    (found_check counted t at number page ≡ Ok tt)
    × GivesRow (row_there at (kinds_said t) number page) given
RowSaidAt counted t at number page (Err bad) = found_check counted t at number page ≡ Err bad
