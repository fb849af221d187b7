-- The slots of a page: which is sought, and what is wrong with one.
use Rattle.std.specs.Prelude.{ℕ, ◌==◌, Bool, ◌&&◌, not, List, Option, ⊤, Result}
use Rattle.std.specs.Ordering.{int_eq}
use Rattle.ctr_types.specs.declared.value.Kind.{Kind}
use Rattle.ctr_rec.specs.declared.decoding.BadRecord.{BadRecord}
use Rattle.ctr_page.specs.declared.rows.RowSlot.{RowSlot}
use Rattle.ctr_page.specs.Places.{slot_size, room_for}
use Rattle.ctr_page.specs.Reading.{slot_at}
use Rattle.ctr_page.specs.Columns.{kinds_width, slot_start}
use Rattle.ctr_page.specs.Damage.{slot_check}
use Rattle.ctr_page.specs.Searching.{EndsSearch}
use Rattle.ctr_passed.specs.area_Areas.{Slot, Area}
use Rattle.ctr_heap.specs.declared.slots.SlotSought.{SlotSought}
use Rattle.ctr_heap.specs.declared.slots.SlotSought.TheVariants.{Key, Free}

-- a used slot of the key, or one that isn't used
abbrev pub slot_is : SlotSought → RowSlot → Bool
slot_is (Key key) slot = (slot.used == 1) && int_eq slot.key key
slot_is Free slot = slot.used == 0

-- what is wrong with a slot, by its number on a page
abbrev pub checks_slot : List Kind → ℕ → List ℕ → ℕ → Result ⊤ BadRecord
checks_slot kinds counted page n = slot_check kinds counted (slot_start kinds n) page

-- whether a slot of rows so wide is the one that is sought, by its number on a page
abbrev pub seeks_slot : ℕ → SlotSought → List ℕ → ℕ → Bool
seeks_slot w sought page n = slot_is sought (slot_at w n page)

-- where the search through the slots of a page ends
abbrev pub EndsSlots : SlotSought → List Kind → ℕ → List ℕ → Result (Option ℕ) BadRecord → Type 0
EndsSlots sought kinds counted page result =
    EndsSearch (checks_slot kinds counted page) (seeks_slot (kinds_width kinds) sought page)
    0 (room_for (slot_size (kinds_width kinds))) result

-- ---- in the area

-- a slot of the area is the one that is sought
abbrev pub is_sought : SlotSought → Slot → Bool
is_sought (Key key) slot = slot.used && int_eq slot.key key
is_sought Free slot = not slot.used

-- A slot is what is sought, by its number on a page.
abbrev pub seeks_in : Area → ℕ → SlotSought → ℕ → Bool
seeks_in area p sought n = is_sought sought (area.slot (record { page = p; slot = n }))
