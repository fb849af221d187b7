-- The records that lay a slot, and that put a page at the front of a chain.
use Rattle.std.specs.Prelude.{◌≡◌, ◌≢◌, ◌≤◌, ℕ, ◌+◌, ◌*◌, List, length, Option, None, Some}
use Rattle.ctr_rec.specs.declared.record.Record.{Record}
use Rattle.ctr_rec.specs.declared.record.Record.TheVariants.{Row}
use Rattle.ctr_page.specs.declared.rows.Place.{Place}
use Rattle.ctr_page.specs.declared.rows.RowSlot.{RowSlot}
use Rattle.ctr_page.specs.declared.table.TheConstants.{PAGE_SIZE, FIRSTS_AT, VERSIONS_AT}
use Rattle.ctr_page.specs.Places.{slot_size, start_of}
use Rattle.ctr_page.specs.Making.{slot_bytes, IsSlot}
use Rattle.ctr_page.specs.Readable.{PartsHaveRoom}
use Rattle.ctr_passed.specs.redo_States.{State}
use Rattle.ctr_passed.specs.area_Reading.{entry_bytes, width_on, area_of, slot_said, columns_on}
use Rattle.ctr_passed.specs.area_Changes.{IsPlaceOf}
use Rattle.ctr_passed.specs.record_laws_Owed.{RowMove, slot_by, loses_head}
use Rattle.ctr_passed.specs.record_effects_States.{pages_in, area_in}
use Rattle.ctr_walk.specs.record_effects_Changing.{laid_on_place, link_record, link_older_record}
use Rattle.ctr_passed.specs.actions_Actions.{Action, Links, LinksOlder}

-- ---- a slot

-- the width of a row, by the head of its slot
abbrev pub slot_width : RowSlot → ℕ
slot_width slot = length slot.head.payload

-- The slot is one of rows of its own width, and its bytes lie on a page at a place.
pub record LiesOnPage (at : Place) (slot : RowSlot) : Type 0 where
  pub narrow : slot_width slot ≤ 2048
  pub is : IsSlot (slot_width slot) slot
  pub inside : start_of (slot_size (slot_width slot)) at.slot + slot_size (slot_width slot)
      ≤ PAGE_SIZE

-- a transaction lays the slot over a place, where its head replaces that of another, or of none
abbrev pub row_record : ℕ → ℕ → Place → RowSlot → Record
row_record x over at slot =
    Row x over (laid_on_place at (slot_size (slot_width slot)) (slot_bytes (slot_width slot) slot))

-- the place is on a page of rows so wide, behind the catalog
abbrev pub HasPlaceFor : (ℕ → List ℕ) → Place → RowSlot → Type 0
HasPlaceFor pages at slot = IsPlaceOf 1 pages at × (width_on pages at.page ≡ slot_width slot)

-- The slot that is laid over a place is the one that a move leaves there, by the same transaction,
-- and its head replaces that of the one that loses it.
pub record LaysMove (s : State) (x over : ℕ) (at : Place) (slot : RowSlot) (m : RowMove) : Type 0
  where
    pub by : m.xid ≡ x
    pub here : m.at ≡ at
    pub left : slot_by m (area_in s) ≡ slot_said (columns_on (pages_in s) at.page) slot
    pub loses : over ≡ loses_head s.tables ((area_in s).slot m.at)

-- ---- the front of a chain

-- where it stands in an entry of the catalog: that of a bucket, or of the versions
abbrev pub front_place : Option ℕ → ℕ
front_place (Some bucket) = FIRSTS_AT + 4 * bucket
front_place None = VERSIONS_AT

-- a page is put there
abbrev pub front_record : ℕ → ℕ → ℕ → Option ℕ → Record
front_record x p e (Some bucket) = link_record x p e bucket
front_record x p e None = link_older_record x p e

-- the action of putting a page in front of a chain of rows, or of the chain of versions
abbrev pub front_action : ℕ → ℕ → Option ℕ → Action
front_action p e (Some bucket) = Links p e bucket
front_action p e None = LinksOlder p e

-- the entry isn't free, and its parts have room, as they have where it passes its checks
abbrev pub HasTableParts : (ℕ → List ℕ) → ℕ → Type 0
HasTableParts pages e =
    (((area_of pages).title e).state ≢ 0) × PartsHaveRoom (entry_bytes pages e)
