-- What is read before a slot loses its head.
use Rattle.std.specs.Prelude.{◌≡◌, ℕ, ◌<◌, ◌≤◌, true, List, slice_index}
use Rattle.ctr_types.specs.declared.value.Column.{Column}
use Rattle.ctr_page.specs.ctr_value.Payload.{IsKeyed}
use Rattle.ctr_page.specs.declared.rows.Place.{Place}
use Rattle.ctr_page.specs.Columns.{kinds_of, kinds_width}
use Rattle.ctr_area.specs.Areas.{Slot}
use Rattle.ctr_area.specs.Reading.{columns_on}
use Rattle.ctr_pvs.specs.redo_States.{State, page_limit}
use Rattle.ctr_record_effects.specs.States.{pages_in, area_in, IsWholePage}

-- A page is there, whole, and all of it are bytes.
abbrev pub IsPageOfBytes : ℕ → State → Type 0
IsPageOfBytes p s = IsWholePage p s × ((k : ℕ) → slice_index (pages_in s p) k < 256)

-- columns with a key, whose rows have room on a page
abbrev pub HaveRoom : List Column → Type 0
HaveRoom columns = IsKeyed columns × (kinds_width (kinds_of columns) ≤ 2048)

-- A used slot leads there, and the columns by which it is said have room.
abbrev pub LeadsFrom : List Column → Slot → Place → Type 0
LeadsFrom columns slot q = slot.used ≡ true → (slot.pointer ≡ q) × HaveRoom columns

-- What stands behind the head of the slot at a place was read: the page of the slot, and of a used
-- one the page where it leads, whose columns have room.
pub record IsReadBehind (s : State) (at : Place) : Type 0 where
  pub here : IsPageOfBytes at.page s
  pub columns : ((area_in s).slot at).used ≡ true → HaveRoom (columns_on (pages_in s) at.page)
  pub behind : ((area_in s).slot at).used ≡ true → ((area_in s).slot at).pointer.page < page_limit
      → IsPageOfBytes ((area_in s).slot at).pointer.page s
