-- What is looked at of the versions of a row: their transactions, 0 for none, and where the next
-- one is.
use Rattle.std.specs.Prelude.{◌≡◌, ℕ, ◌==◌, List, Option, None, Some, ⊤, Result, Ok, Err, if◌then◌else◌}
use Rattle.ctr_bytes.specs.Following.{◌>>=◌}
use Rattle.ctr_rec.specs.declared.decoding.BadRecord.{BadRecord}
use Rattle.ctr_page.specs.declared.rows.Place.{Place}
use Rattle.ctr_page.specs.declared.rows.Version.{Version}
use Rattle.ctr_page.specs.declared.rows.RowSlot.{RowSlot}
use Rattle.ctr_page.specs.declared.rows.VersionEntry.{VersionEntry}
use Rattle.ctr_page.specs.Reading.{slot_at, older_at}
use Rattle.ctr_page.specs.Columns.{kinds_width}
use Rattle.ctr_names.specs.area_Areas.{nowhere}
use Rattle.ctr_pvs.specs.walk_TableOf.{TableOf}
use Rattle.ctr_pvs.specs.walk_Tables.{kinds_said}
use Rattle.ctr_pvs.specs.Reading.{versions_there, kept_on_check, row_on_check}
use Rattle.ctr_chain.specs.declared.looking.SlotLook.{SlotLook}
use Rattle.ctr_chain.specs.declared.looking.KeptLook.{KeptLook}

-- whose a version is that may be there
abbrev pub xid_there : Option Version → ℕ
xid_there None = 0
xid_there (Some v) = v.xid

-- a slot that isn't used has none
abbrev pub look_of_slot : RowSlot → SlotLook
look_of_slot s =
    if s.used == 1 then record {
      head = s.head.xid;
      previous = xid_there s.previous;
      older = s.older;
    }
    else record { head = 0; previous = 0; older = nowhere }

-- nor has a version entry
abbrev pub look_of_entry : VersionEntry → KeptLook
look_of_entry e =
    if e.used == 1 then record { xid = e.version.xid; older = e.older }
    else record { xid = 0; older = nowhere }

-- the slot of a table at a place of a page was looked at, or it is damaged
abbrev pub LooksAtRow : ℕ → TableOf → ℕ → List ℕ → Result SlotLook BadRecord → Type 0
LooksAtRow counted t number page (Ok l) =
    (row_on_check counted t.entry (kinds_said t) number page ≡ Ok tt)
    × (l ≡ look_of_slot (slot_at (kinds_width (kinds_said t)) number page))
LooksAtRow counted t number page (Err bad) =
    row_on_check counted t.entry (kinds_said t) number page ≡ Err bad

-- what is wrong with the version entry at a place of a page, by the table
abbrev pub entry_check_at : ℕ → TableOf → Place → List ℕ → Result ⊤ BadRecord
entry_check_at counted t at page =
    versions_there counted t.entry at.page page
    >>= λ _. kept_on_check counted t.entry (kinds_said t) at.slot page

-- the version entry was looked at, or it is damaged
abbrev pub LooksAtEntry : ℕ → TableOf → Place → List ℕ → Result KeptLook BadRecord → Type 0
LooksAtEntry counted t at page (Ok l) =
    (entry_check_at counted t at page ≡ Ok tt)
    × (l ≡ look_of_entry (older_at (kinds_width (kinds_said t)) at.slot page))
LooksAtEntry counted t at page (Err bad) = entry_check_at counted t at page ≡ Err bad
