-- A slot that is lent from its page.
use Rattle.std.specs.Prelude.{◌≡◌, ◌≤◌, ℕ, ◌+◌, IsTrue, List, ⊤, Result, Ok, Err}
use Rattle.std.specs.Option.{option_map}
use Rattle.ctr_disk.specs.declared.disk.Disk.{Ghosts}
use Rattle.ctr_disk.specs.Image.{Image}
use Rattle.ctr_disk.specs.declared.fault.StoreFault.{StoreFault}
use Rattle.ctr_rec.specs.declared.decoding.BadRecord.{BadRecord}
use Rattle.ctr_page.specs.declared.rows.Place.{Place}
use Rattle.ctr_page.specs.declared.rows.Version.{Version}
use Rattle.ctr_page.specs.declared.rows.RowSlot.{RowSlot}
use Rattle.ctr_page.specs.declared.walk.BadChain.{BadChain}
use Rattle.ctr_page.specs.declared.table.TheConstants.{PAGE_SIZE}
use Rattle.ctr_page.specs.Places.{slot_size, start_of}
use Rattle.ctr_page.specs.Columns.{kinds_width}
use Rattle.ctr_passed.specs.area_Reading.{slot_said, header_on, columns_on, width_on, area_of}
use Rattle.ctr_walk.specs.base_Base.{IsSoundImage}
use Rattle.ctr_walk.specs.store_Store.{View}
use Rattle.ctr_walk.specs.Damage.{damage_told, EndsTold, ReadsPages}
use Rattle.ctr_walk.specs.declared.table.TableOf.{TableOf}
use Rattle.ctr_walk.specs.Tables.{kinds_said}
use Rattle.ctr_passed.specs.record_effects_States.{pages_in}
use Rattle.ctr_pvs.specs.declared.slot.LentPart.{LentPart}
use Rattle.ctr_pvs.specs.declared.slot.LentSlot.{LentSlot}
use Rattle.ctr_pvs.specs.Reading.{row_on_check, row_check_at}

-- a version that is lent, as versions are made and read
abbrev pub part_lent : LentPart → Version
part_lent l = record { xid = l.xid; tombstone = l.tombstone; payload = l.payload.now }

-- what is lent, as slots are made and read
abbrev pub slot_lent : LentSlot → RowSlot
slot_lent l = record {
  used = l.used;
  key = l.key;
  head = part_lent l.head;
  previous = option_map part_lent l.previous;
  older = l.older;
}

-- A slot of rows so wide has its bytes on a page at a place.
abbrev pub SlotLiesAt : Place → ℕ → Type 0
SlotLiesAt at w = (w ≤ 2048) × (start_of (slot_size w) at.slot + slot_size w ≤ PAGE_SIZE)

-- What is lent is the slot that the pages have at a place.
abbrev pub IsSlotAt : (ℕ → List ℕ) → Place → LentSlot → Type 0
IsSlotAt pages at l = slot_said (columns_on pages at.page) (slot_lent l) ≡ (area_of pages).slot at

-- The check of a slot passes and tells how wide its row is; or the check tells what is wrong.
abbrev pub RowWidthSaid : ℕ → TableOf → ℕ → List ℕ → Result ℕ BadRecord → Type 0
RowWidthSaid counted t number page (Ok w) =
    (row_on_check counted t.entry (kinds_said t) number page ≡ Ok tt)
    × (w ≡ kinds_width (kinds_said t))
RowWidthSaid counted t number page (Err bad) =
    row_on_check counted t.entry (kinds_said t) number page ≡ Err bad

-- A check of a place passes, and its page is one of rows so wide.
pub record PassesRowAt (check : Result ⊤ BadChain) (pages : ℕ → List ℕ) (at : Place) (w : ℕ)
    : Type 0 where
  pub passes : check ≡ Ok tt
  pub of_kind : (header_on pages at.page).kind ≡ 1
  pub wide : w ≡ width_on pages at.page

-- so it is found, with the width; or what is wrong is
abbrev pub EndsRowAt : Result ⊤ BadChain → (ℕ → List ℕ) → Place → Result ℕ BadChain → Type 0
EndsRowAt check pages at (Ok w) = PassesRowAt check pages at w
EndsRowAt check pages at (Err bad) = check ≡ Err bad

-- All passes, and it is that slot; or what is wrong is told.
abbrev pub SlotSaidAt : ℕ → (ℕ → List ℕ) → Place → Result LentSlot BadChain → Type 0
SlotSaidAt counted pages at (Ok l) =
    (row_check_at counted pages at ≡ Ok tt) × IsSlotAt pages at l
SlotSaidAt counted pages at (Err bad) = row_check_at counted pages at ≡ Err bad

-- What a call leaves that lends the slot at a place, once the loan is over, and where it ended.
pub record LendsSlot {D : Type 0} (first : Image) (g : Ghosts D) (at : Place) (a b : View D)
    (result : Result LentSlot StoreFault) : Type 0 where
  pub ends : IsTrue g.tells → IsSoundImage first
      → EndsTold (damage_told g b) (SlotSaidAt a.now.counted (pages_in a.now) at) result
  pub leaves : ReadsPages first g a b result
