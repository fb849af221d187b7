-- One turn that writes the row of a key.
use Rattle.std.specs.Prelude.{◌≡◌, ℕ, ℤ, true, IfSome}
use Rattle.ctr_meta.specs.Tables.{is_in}
use Rattle.ctr_page.specs.declared.rows.Place.{Place}
use Rattle.ctr_page.specs.declared.rows.Version.{Version}
use Rattle.ctr_page.specs.declared.rows.RowSlot.{RowSlot}
use Rattle.ctr_area.specs.Reading.{version_said, slot_said}
use Rattle.ctr_area.specs.Sound.{IsUsedSlot}
use Rattle.ctr_area.specs.Images.{is_committed_in}
use Rattle.ctr_extend.specs.record_laws_Owed.{RowMove, Writing, IsSpareCopy}
use Rattle.ctr_redo.specs.States.{State}
use Rattle.ctr_extend.specs.record_effects_States.{area_in}
use Rattle.ctr_extend.specs.record_effects_Standing.{IsDatabaseState}
use Rattle.ctr_extend.specs.actions_Actions.{Writes}
use Rattle.ctr_extend.specs.passed_Laid.{width_in}
use Rattle.ctr_extend.specs.passed_Logged.{IsSlotOf, LeadsInside}
use Rattle.ctr_extend.specs.heap_Ways.{IsHeadOf, IsWay, kept_version}
use Rattle.ctr_extend.specs.heap_Way.{Way}
use Rattle.ctr_extend.specs.page_turns_Acts.{ActsBy}

-- What is to be written: for the row of a key of a table this head, by whom.
pub record Wish : Type 0 where
  pub x : ℕ
  pub entry : ℕ
  pub key : ℤ
  pub head : Version

-- The pages may be a database's, the transaction is open, and the head is its version of a row of
-- the table.
pub record MayLay (wish : Wish) (s : State) : Type 0 where
  pub sound : IsDatabaseState s
  pub is_open : is_in wish.x s.tables.opens ≡ true
  pub by : wish.head.xid ≡ wish.x
  pub head_is : IsHeadOf ((area_in s).title wish.entry).columns wish.key wish.head

-- the move that writes the head at a place, in a way
abbrev pub move_of : Wish → Place → Writing → State → RowMove
move_of wish at way s = record {
  entry = wish.entry;
  at = at;
  key = wish.key;
  writing = way;
  xid = wish.x;
  row = (version_said ((area_in s).title wish.entry).columns wish.key wish.head).1;
}

-- The head is written at a place, in a way.
abbrev pub LaysHead : Wish → Place → Writing → State → State → Type 0
LaysHead wish at way s t = ActsBy wish.x (Writes (move_of wish at way s)) s t

-- A used slot of a table, as it was read, can be written in a way: it is well made, the table of
-- writes gives the way, and a version that is to be kept first was kept at a place, which is page 0
-- for none.
pub record IsReadyFor (e : ℕ) (at : Place) (slot : RowSlot) (way : Way) (q : Place) (s : State)
    : Type 0 where
  pub used : IsUsedSlot (area_in s) e at
  pub is_used : slot.used ≡ 1
  pub said : slot_said ((area_in s).title e).columns slot ≡ (area_in s).slot at
  pub made : IsSlotOf s.counted ((area_in s).title e).columns slot
  pub way_is : IsWay (is_committed_in s.tables slot.head.xid) slot way
  pub kept : IfSome (kept_version way ((area_in s).slot at))
      (λ v. IsSpareCopy (area_in s) e ((area_in s).slot at) v q)
  pub leads : LeadsInside s.counted (width_in (area_in s) e) q
