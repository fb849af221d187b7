-- The keys of the slots of pages, and a map that leads from each to its place.
use Rattle.std.specs.Prelude.{◌≡◌, ◌↔◌, ◌<◌, ◌≤◌, ◌⊎◌, ◌+◌, ℕ, ◌==◌, ◌&&◌, nat_lt, ℤ, List, Option, None, Some, is_some, true, Ok, length, if◌then◌else◌}
use Rattle.std.specs.Ordering.{int_eq}
use Rattle.indexmap.specs.IndexMap.{IndexMap, get}
use Rattle.ctr_rec.specs.types_Kind.{Kind}
use Rattle.ctr_page.specs.declared.rows.Place.{Place}
use Rattle.ctr_page.specs.declared.rows.RowSlot.{RowSlot}
use Rattle.ctr_page.specs.declared.table.TheConstants.{PAGE_SIZE}
use Rattle.ctr_page.specs.Places.{slot_size, room_for}
use Rattle.ctr_page.specs.Reading.{slot_at}
use Rattle.ctr_page.specs.Columns.{kinds_width, slot_start}
use Rattle.ctr_page.specs.Damage.{slot_check}
use Rattle.ctr_rec.specs.bytes_Fields.{field}
use Rattle.ctr_directory.specs.declared.slots.Span.{Span}

-- the key of a slot; none where it isn't used
abbrev pub slot_key : RowSlot → Option ℤ
slot_key slot = if slot.used == 1 then Some slot.key else None

-- how many slots a page has, by the kinds of the columns behind the key
abbrev pub slots_of_kinds : List Kind → ℕ
slots_of_kinds kinds = room_for (slot_size (kinds_width kinds))

-- the key of a slot of a page, by its number
abbrev pub key_on : List Kind → ℕ → List ℕ → Option ℤ
key_on kinds n page = slot_key (slot_at (kinds_width kinds) n page)

-- The key of a slot of a page as it was, which had no slots where it had no bytes.
abbrev pub key_before : List Kind → ℕ → List ℕ → Option ℤ
key_before kinds n page = if length page == 0 then None else key_on kinds n page

-- each slot of a page is used
abbrev pub AllUsed : List Kind → List ℕ → Type 0
AllUsed kinds page =
    (n : ℕ) → n < slots_of_kinds kinds → is_some (key_on kinds n page) ≡ true

-- the first so many slots of a page pass their checks
abbrev pub SlotsPass : List Kind → ℕ → ℕ → List ℕ → Type 0
SlotsPass kinds counted count page =
    (n : ℕ) → n < count → slot_check kinds counted (slot_start kinds n) page ≡ Ok tt

-- outside of its changed bytes a page says the same numbers
abbrev pub SaysSameOutside : Span → List ℕ → List ℕ → Type 0
SaysSameOutside span before after =
    (n k : ℕ) → k + n ≤ PAGE_SIZE → (k + n ≤ span.from) ⊎ (span.to ≤ k)
    → field n k after ≡ field n k before

-- a slot of a page lies outside of its changed bytes
abbrev pub LiesOutside : List Kind → Span → ℕ → Type 0
LiesOutside kinds span n =
    (slot_start kinds n + slot_size (kinds_width kinds) ≤ span.from)
    ⊎ (span.to ≤ slot_start kinds n)

-- A slot that lies outside of the changed bytes passes its check, and has the key that it had.
abbrev pub SlotStays : List Kind → ℕ → Span → ℕ → List ℕ → List ℕ → Type 0
SlotStays kinds counted span n before page =
    LiesOutside kinds span n
    → (slot_check kinds counted (slot_start kinds n) page ≡ Ok tt)
    × (key_on kinds n page ≡ key_before kinds n before)

-- So it is with each slot of a page.
abbrev pub SlotsStay : List Kind → ℕ → Span → List ℕ → List ℕ → Type 0
SlotsStay kinds counted span before page =
    (n : ℕ) → n < slots_of_kinds kinds → SlotStays kinds counted span n before page

-- Each key leads to the place that has it, and each place is led to by its key: so no key stands
-- twice.
abbrev pub KeysLead : {S : Type 0} → (ℕ → ℕ → Option ℤ) → IndexMap ℤ Place S → Type 0
KeysLead keys places =
    (key : ℤ) (at : Place) → (get int_eq places key ≡ Some at) ↔ (keys at.page at.slot ≡ Some key)

-- the keys, but for one place
abbrev pub with_key : Place → Option ℤ → (ℕ → ℕ → Option ℤ) → ℕ → ℕ → Option ℤ
with_key at key keys p n = if (p == at.page) && (n == at.slot) then key else keys p n

-- the keys, but for the first so many slots of a page
abbrev pub over_slots : ℕ → ℕ → (ℕ → Option ℤ) → (ℕ → ℕ → Option ℤ) → ℕ → ℕ → Option ℤ
over_slots number count new keys p n = if (p == number) && nat_lt n count then new n else keys p n
