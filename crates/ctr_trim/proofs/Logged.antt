-- What a call leaves that trims a slot, or cuts behind a version entry, by what its steps leave.
use Rattle.std.proofs.Common.{◌≡◌, ℕ, inr, List, take, Result, Ok, Err, sym, ◌∙◌, ap}
use Rattle.std.specs.Prelude.{⊤, IsTrue, IfErr}
use Rattle.ctr_disk.specs.declared.disk.Disk.{Ghosts}
use Rattle.ctr_disk.specs.Image.{Image}
use Rattle.ctr_disk.specs.declared.fault.StoreFault.{StoreFault}
use Rattle.ctr_rec.specs.declared.record.Record.TheVariants.{Trim}
use Rattle.ctr_page.specs.declared.walk.BadChain.{BadChain}
use Rattle.ctr_page.specs.declared.rows.Place.{Place}
use Rattle.ctr_page.specs.declared.rows.RowSlot.{RowSlot}
use Rattle.ctr_page.specs.declared.rows.VersionEntry.{VersionEntry}
use Rattle.ctr_page.specs.Places.{slot_size, kept_size}
use Rattle.ctr_page.specs.Making.{slot_bytes, kept_bytes}
use Rattle.ctr_pvs.specs.base_Base.{IsSoundImage}
use Rattle.ctr_pvs.specs.store_Store.{View}
use Rattle.ctr_pvs.specs.walk_OneRecord.{WhyNotLogged, LogsOne}
use Rattle.ctr_record_effects.specs.States.{pages_in}
use Rattle.ctr_record_effects.specs.Changing.{laid_on_place}
use Rattle.ctr_pvs.specs.Reading.{row_check_at, version_check_at}
use Rattle.ctr_trim.specs.declared.slots.TrimWay.{TrimWay}
use Rattle.ctr_trim.specs.declared.slots.SlotLaid.{SlotLaid}
use Rattle.ctr_trim.specs.declared.entries.EntryLaid.{EntryLaid}
use Rattle.ctr_trim.specs.Trimming.{slot_left, trim_record, IsBytesOf, IsSlotThere, TrimsSlot, EndsTrimming}
use Rattle.ctr_trim.specs.Cutting.{entry_left, cut_record, IsBytesOfEntry, IsEntryThere, CutsEntry, EndsCutting}

-- the record that is logged
pub trim_is : (way : TrimWay) (at : Place) (slot : RowSlot) (l : SlotLaid) → IsBytesOf way slot l → Trim (laid_on_place at (slot_size l.w) (take (slot_size l.w) l.bytes)) ≡ trim_record way at slot
trim_is way at slot l bytes =
    ap (λ (bs : List ℕ). Trim (laid_on_place at (slot_size l.w) bs)) bytes.bytes_are
    ∙ ap (λ (w : ℕ). Trim (laid_on_place at (slot_size w) (slot_bytes w (slot_left way slot)))) bytes.wide

pub cut_is : (at : Place) (e : VersionEntry) (l : EntryLaid) → IsBytesOfEntry e l → Trim (laid_on_place at (kept_size l.w) (take (kept_size l.w) l.bytes)) ≡ cut_record at e
cut_is at e l bytes =
    let size : kept_size l.w ≡ l.size = ap kept_size bytes.wide ∙ sym bytes.size_is in
    ap (λ (n : ℕ). Trim (laid_on_place at (kept_size l.w) (take n l.bytes))) size
    ∙ ap (λ (bs : List ℕ). Trim (laid_on_place at (kept_size l.w) bs)) bytes.bytes_are
    ∙ ap (λ (w : ℕ). Trim (laid_on_place at (kept_size w) (kept_bytes (entry_left e)))) bytes.wide

module _ {D : Type 0} (first : Image) (g : Ghosts D) (at : Place) (a b : View D) where
  pub trims : (way : TrimWay) (slot : RowSlot) (result : Result ⊤ StoreFault) → LogsOne {T = ⊤} first g (trim_record way at slot) a b result
      → (IsTrue g.tells → IsSoundImage first → IsSlotThere a.now at slot) → TrimsSlot first g way at a b result
  trims way slot (Ok t) one there = (slot, one, there)
  trims way slot (Err e) one there = inr (slot, one, there)

  pub ends_trimmed : (told : BadChain → StoreFault) (way : TrimWay) (slot : RowSlot) (result : Result ⊤ StoreFault) → row_check_at a.now.counted (pages_in a.now) at ≡ Ok tt → IsSlotThere a.now at slot
      → IfErr result (WhyNotLogged (trim_record way at slot) a b) → EndsTrimming told way at a b result
  ends_trimmed told way slot (Ok t) passes there why = passes
  ends_trimmed told way slot (Err e) passes there why = inr (passes, slot, there, why)

  pub cuts : (entry : VersionEntry) (result : Result ⊤ StoreFault) → LogsOne {T = ⊤} first g (cut_record at entry) a b result
      → (IsTrue g.tells → IsSoundImage first → IsEntryThere a.now at entry) → CutsEntry first g at a b result
  cuts entry (Ok t) one there = (entry, one, there)
  cuts entry (Err e) one there = inr (entry, one, there)

  pub ends_cut : (told : BadChain → StoreFault) (entry : VersionEntry) (result : Result ⊤ StoreFault) → version_check_at a.now.counted (pages_in a.now) at ≡ Ok tt → IsEntryThere a.now at entry
      → IfErr result (WhyNotLogged (cut_record at entry) a b) → EndsCutting told at a b result
  ends_cut told entry (Ok t) passes there why = passes
  ends_cut told entry (Err e) passes there why = inr (passes, entry, there, why)
