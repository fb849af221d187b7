-- The area without the head of a row.
use Rattle.std.proofs.Common.{◌≡◌, ◌+◌, ◌≤◌, length, Some, Result, Ok, Err, true, sym, ◌∙◌, ap, subst}
use Rattle.std.specs.Prelude.{⊤, IsTrue, OnOk}
use Rattle.ctr_disk.specs.declared.disk.Disk.{Ghosts}
use Rattle.ctr_disk.specs.Image.{Image}
use Rattle.ctr_disk.specs.declared.fault.StoreFault.{StoreFault}
use Rattle.ctr_rec.specs.declared.record.Record.{Record}
use Rattle.ctr_pvs.specs.redo_States.{State, step}
use Rattle.ctr_page.specs.declared.header.Header.{Header}
use Rattle.ctr_page.specs.declared.rows.Place.{Place}
use Rattle.ctr_page.specs.declared.rows.RowSlot.{RowSlot}
use Rattle.ctr_page.specs.Places.{slot_size, start_of}
use Rattle.ctr_page.specs.Making.{slot_bytes, IsSlot}
use Rattle.ctr_pvs.specs.area_Areas.{Slot}
use Rattle.ctr_pvs.specs.area_Reading.{slot_said, columns_on, width_on}
use Rattle.ctr_pvs.specs.area_Changes.{with_slot, IsPlaceOf}
use Rattle.ctr_pvs.specs.base_Base.{IsSoundImage}
use Rattle.ctr_pvs.specs.store_Store.{View}
use Rattle.ctr_pvs.specs.record_effects_States.{pages_in, area_in, IsWholePage}
use Rattle.ctr_pvs.specs.record_effects_Changing.{laid_on_place, Lays}
use Rattle.ctr_pvs.specs.walk_OneRecord.{LogsOne}
use Rattle.ctr_pvs.specs.Table.{owner_of}
use Rattle.ctr_pvs.specs.Reading.{row_check_at}
use Rattle.ctr_pvs.proofs.Told.{chain_ok, header_here}
use Rattle.ctr_revert.specs.declared.slots.SlotLaid.{SlotLaid}
use Rattle.ctr_revert.specs.Reverting.{without_head, KeepsKey, slot_reverted, lost_record, behind_check, row_slot_at, bytes_laid, PassesRow, LiesThere}
use Rattle.ctr_revert.proofs.Headless.{row_reverted, row_place}

-- the law of a record that lays a slot
abbrev pub LaysSlots : Type 0
LaysSlots = (s : State) (r : Record) (at : Place) (slot : RowSlot) → IsWholePage at.page s → IsPlaceOf 1 (pages_in s) at → IsSlot (width_on (pages_in s) at.page) slot
    → Lays r (laid_on_place at (slot_size (width_on (pages_in s) at.page)) (slot_bytes (width_on (pages_in s) at.page) slot))
    → area_in (step r s) ≡ with_slot at (slot_said (columns_on (pages_in s) at.page) slot) (area_in s)

pub row_area : {D : Type 0} (first : Image) (g : Ghosts D) (a d : View D) (at : Place) (l : SlotLaid) → IsTrue g.tells → IsSoundImage first → PassesRow a.now.counted (pages_in a.now) at l → LiesThere at.slot l → LaysSlots
    → KeepsKey (area_in a.now) at → ((area_in a.now).slot at).used ≡ true → (result : Result ⊤ StoreFault) → LogsOne {T = ⊤} first g (lost_record l.x at l.w (bytes_laid l)) a d result
    → OnOk result (length (pages_in a.now at.page) ≡ 4096) → OnOk result (area_in d.now ≡ with_slot at (without_head (area_in a.now).older ((area_in a.now).slot at)) (area_in a.now))
row_area first g a d at l told sound passed lies law keeps used (Ok x) one whole =
    let s = a.now in
    let n = s.counted in
    let pages = pages_in s in
    let row = row_slot_at pages at in
    let wide = width_on pages at.page in
    let h = passed.head in
    let behind = chain_ok (row_check_at n pages at) (λ _. behind_check n pages (owner_of (pages at.page)) row.previous row.older) tt passed.passes in
    let named = ap (λ (x : Header). x.entry) (header_here pages at.page passed.behind_catalog) in
    let passes = subst (λ e. behind_check n pages e row.previous row.older ≡ Ok tt) (sym named) behind.2 in
    let reverted = row_reverted n pages at passed.of_kind passes keeps used in
    let place = row_place n pages at passed.of_kind (subst (λ v. start_of (slot_size v) at.slot + slot_size v ≤ 4096) h.wide lies.inside) passed.behind_catalog whole in
    let fits = subst (λ v. IsSlot v (slot_reverted v pages row)) h.wide h.fits in
    let laid = ap (λ b. Some (laid_on_place at (slot_size l.w) b)) h.bytes_are ∙ ap (λ v. Some (laid_on_place at (slot_size v) (slot_bytes v (slot_reverted v pages row)))) h.wide in
    ap area_in (one.logs told sound).now ∙ law s (lost_record l.x at l.w (bytes_laid l)) at (slot_reverted wide pages row) whole place fits laid
    ∙ ap (λ (z : Slot). with_slot at z (area_in s)) reverted
row_area first g a d at l told sound passed lies law keeps used (Err e) one whole = tt
