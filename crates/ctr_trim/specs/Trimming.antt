-- A slot that is trimmed: what is left of it, in which bytes, and the record that lays them.
use Rattle.std.specs.Prelude.{◌≡◌, ◌⊎◌, ◌≤◌, ℕ, pos, take, replicate, IsTrue, ⊤, None, Result, Ok, Err}
use Rattle.ctr_disk.specs.declared.disk.Disk.{Ghosts}
use Rattle.ctr_disk.specs.Image.{Image}
use Rattle.ctr_disk.specs.declared.fault.StoreFault.{StoreFault}
use Rattle.ctr_rec.specs.declared.record.Record.{Record}
use Rattle.ctr_rec.specs.declared.record.Record.TheVariants.{Trim}
use Rattle.ctr_page.specs.declared.walk.BadChain.{BadChain}
use Rattle.ctr_page.specs.declared.rows.Place.{Place}
use Rattle.ctr_page.specs.declared.rows.RowSlot.{RowSlot}
use Rattle.ctr_page.specs.Places.{slot_size}
use Rattle.ctr_page.specs.Making.{slot_bytes, IsSlot}
use Rattle.ctr_passed.specs.area_Areas.{nowhere}
use Rattle.ctr_passed.specs.area_Reading.{slot_said, columns_on}
use Rattle.ctr_passed.specs.redo_States.{State}
use Rattle.ctr_pvs.specs.base_Base.{IsSoundImage}
use Rattle.ctr_pvs.specs.store_Store.{View}
use Rattle.ctr_pvs.specs.walk_OneRecord.{WhyNotLogged, LogsOne}
use Rattle.ctr_pvs.specs.walk_Damage.{EndsTold, ReadsPages}
use Rattle.ctr_record_effects.specs.States.{pages_in, area_in}
use Rattle.ctr_record_effects.specs.Changing.{laid_on_place}
use Rattle.ctr_passed.specs.record_laws_Owed.{Trimming, CutHead, CutPrevious, FreeTombstone}
use Rattle.ctr_passed.specs.Logged.{IsSlotOf}
use Rattle.ctr_undamaged.specs.heap_Writing.{slot_width}
use Rattle.ctr_pvs.specs.Reading.{row_check_at}
use Rattle.ctr_pvs.specs.Slots.{SlotLiesAt}
use Rattle.ctr_trim.specs.declared.slots.TrimWay.{TrimWay}
use Rattle.ctr_trim.specs.declared.slots.TrimWay.TheVariants.{BehindHead, BehindPrevious, WholeSlot}
use Rattle.ctr_trim.specs.declared.slots.SlotLaid.{SlotLaid}

-- what is trimmed, as the actions have it
abbrev pub trimming_by : TrimWay → Trimming
trimming_by BehindHead = CutHead
trimming_by BehindPrevious = CutPrevious
trimming_by WholeSlot = FreeTombstone

-- a free slot of rows so wide: zeros
abbrev pub blank_of : ℕ → RowSlot
blank_of w = record {
  used = 0;
  key = pos 0;
  head = record { xid = 0; tombstone = 0; payload = replicate w 0 };
  previous = None;
  older = nowhere;
}

-- What is left of a slot: its head alone; its two versions; nothing.
abbrev pub slot_left : TrimWay → RowSlot → RowSlot
slot_left BehindHead s = record s { previous = None; older = nowhere }
slot_left BehindPrevious s = record s { older = nowhere }
slot_left WholeSlot s = blank_of (slot_width s)

-- The record that lays what is left over the slot at a place.
abbrev pub trim_record : TrimWay → Place → RowSlot → Record
trim_record way at s = Trim (laid_on_place at (slot_size (slot_width s))
    (slot_bytes (slot_width s) (slot_left way s)))

-- Bytes are those of what is left of a slot.
pub record IsBytesOf (way : TrimWay) (slot : RowSlot) (l : SlotLaid) : Type 0 where
  pub wide : l.w ≡ slot_width slot
  pub small : slot_size l.w ≤ 2072
  pub bytes_are : take (slot_size l.w) l.bytes ≡ slot_bytes l.w (slot_left way slot)

-- ---- a slot that was read

-- A slot is the one that the pages have at a place, and is well made by the columns of the table.
pub record IsSlotThere (s : State) (at : Place) (slot : RowSlot) : Type 0 where
  pub said : slot_said (columns_on (pages_in s) at.page) slot ≡ (area_in s).slot at
  pub made : IsSlotOf s.counted (columns_on (pages_in s) at.page) slot

-- A slot was read that is there, where the image was sound, and what is to be laid is what is left
-- of it.
pub record LaysLeft (Known : Type 0) (way : TrimWay) (at : Place) (s : State) (l : SlotLaid)
    : Type 0 where
  pub slot : RowSlot
  pub there : Known → IsSlotThere s at slot
  pub fits : IsSlot (slot_width slot) slot
  pub bytes_of : IsBytesOf way slot l
  pub lies : SlotLiesAt at l.w

-- a check passed; or it tells what is wrong
abbrev pub EndsCheck : {T : Type 0} → Result ⊤ BadChain → Result T BadChain → Type 0
EndsCheck check (Ok x) = check ≡ Ok tt
EndsCheck check (Err bad) = check ≡ Err bad

-- ---- what is left

-- Its record is logged, by the slot that the pages have at the place; or pages were read, or the
-- record was refused.
abbrev pub TrimsSlot : {D : Type 0} → Image → Ghosts D → TrimWay → Place → View D → View D
    → Result ⊤ StoreFault → Type 0
TrimsSlot first g way at a b (Ok t) =
    (slot : RowSlot) × LogsOne {T = ⊤} first g (trim_record way at slot) a b (Ok tt)
    × (IsTrue g.tells → IsSoundImage first → IsSlotThere a.now at slot)
TrimsSlot first g way at a b (Err e) = ReadsPages {T = ⊤} first g a b (Err e)
    ⊎ ((slot : RowSlot) × LogsOne {T = ⊤} first g (trim_record way at slot) a b (Err e)
    × (IsTrue g.tells → IsSoundImage first → IsSlotThere a.now at slot))

-- Where the call ends: the checks of the slot pass; or what is wrong is told; or they pass, and the
-- record was refused.
abbrev pub EndsTrimming : {D : Type 0} → (BadChain → StoreFault) → TrimWay → Place → View D
    → View D → Result ⊤ StoreFault → Type 0
EndsTrimming told way at a b (Ok x) = row_check_at a.now.counted (pages_in a.now) at ≡ Ok tt
EndsTrimming told way at a b (Err cause) =
    EndsTold {T = ⊤} told (EndsCheck (row_check_at a.now.counted (pages_in a.now) at)) (Err cause)
    ⊎ ((row_check_at a.now.counted (pages_in a.now) at ≡ Ok tt)
    × (slot : RowSlot) × IsSlotThere a.now at slot
    × WhyNotLogged (trim_record way at slot) a b cause)
