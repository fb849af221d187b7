-- How a used slot is written: in which way, which of its versions is to be kept first, and when a
-- Row may be logged for it.
use Rattle.std.specs.Prelude.{◌≡◌, ℕ, ◌<◌, ℤ, Bool, true, false, List, Option, None, Some, is_some, IfSome}
use Rattle.ctr_types.specs.declared.value.Column.{Column}
use Rattle.ctr_page.specs.declared.rows.Place.{Place}
use Rattle.ctr_page.specs.declared.rows.Version.{Version}
use Rattle.ctr_page.specs.declared.rows.RowSlot.{RowSlot}
use Rattle.ctr_page.specs.Places.{has_previous}
use Rattle.ctr_page.specs.Making.{IsVersion, IsSlot}
use Rattle.ctr_page.specs.Columns.{kinds_of, kinds_width}
use Rattle.ctr_passed.specs.area_Areas.{RowVersion, Slot, Area}
use Rattle.ctr_passed.specs.area_Reading.{slot_said}
use Rattle.ctr_passed.specs.area_Sound.{IsUsedSlot}
use Rattle.ctr_passed.specs.record_laws_Owed.{IsSpareCopy, Writing, OverHead, HeadMoves, PreviousKept, HeadKept}
use Rattle.ctr_passed.specs.Logged.{LeadsInside, IsVersionOf, IsSlotOf}
use Rattle.ctr_heap.specs.Writing.{slot_width}
use Rattle.ctr_heap.specs.declared.ways.Way.{Way}
use Rattle.ctr_heap.specs.declared.ways.Way.TheVariants.{ReplaceHead, MoveHead, KeepPrevious, KeepHead}

-- The table of writes. A head that isn't committed is replaced. A committed one becomes the
-- previous version where the slot has room for one; where there is one already, that is to be kept
-- first. Where it has no room, the head is to be kept first.
abbrev pub IsWay : Bool → RowSlot → Way → Type 0
IsWay committed s ReplaceHead = committed ≡ false
IsWay committed s MoveHead =
    (committed ≡ true) × (has_previous (slot_width s) ≡ true) × (s.previous ≡ None)
IsWay committed s KeepPrevious =
    (committed ≡ true) × (has_previous (slot_width s) ≡ true) × (is_some s.previous ≡ true)
IsWay committed s KeepHead = (committed ≡ true) × (has_previous (slot_width s) ≡ false)

-- the version of a slot that is to be kept first, if any
abbrev pub kept_version : Way → Slot → Option RowVersion
kept_version ReplaceHead slot = None
kept_version MoveHead slot = None
kept_version KeepPrevious slot = slot.previous
kept_version KeepHead slot = Some slot.head

-- the way, with the place where that version was kept
abbrev pub writing_by : Way → Place → Writing
writing_by ReplaceHead q = OverHead
writing_by MoveHead q = HeadMoves
writing_by KeepPrevious q = PreviousKept q
writing_by KeepHead q = HeadKept q

-- A used slot of a table, as it was read, can be written in a way: the version that is to be kept
-- first was kept at a place.
pub record IsReadyForWrite (area : Area) (e : ℕ) (at : Place) (s : RowSlot) (way : Way) (q : Place)
    : Type 0 where
  pub columns : List Column
  pub said : area.slot at ≡ slot_said columns s
  pub fits : IsSlot (slot_width s) s
  pub used : IsUsedSlot area e at
  pub kept : IfSome (kept_version way (area.slot at))
      (λ v. IsSpareCopy area e (area.slot at) v q)

-- A version is one of a table with these columns, by a key, and is as wide as its rows.
abbrev pub IsHeadOf : List Column → ℤ → Version → Type 0
IsHeadOf columns key v = IsVersion (kinds_width (kinds_of columns)) v × IsVersionOf columns key v

-- A used slot of a table with these columns may be written in a way with this head: it is well
-- made, the way is one that the table of writes gives, the head is a version of the row, and the
-- place where a version was kept first is one of a counted page, or none.
pub record MayBeWritten (counted : ℕ) (columns : List Column) (s : RowSlot) (way : Way) (q : Place)
    (head : Version) : Type 0 where
  pub made : IsSlotOf counted columns s
  pub used : s.used ≡ 1
  pub some : 0 < s.head.xid
  pub way_is : (committed : Bool) × IsWay committed s way
  pub head_is : IsHeadOf columns s.key head
  pub leads : LeadsInside counted (kinds_width (kinds_of columns)) q
