-- A slot that is lent is the one that the area has at its place.
use Rattle.std.proofs.Common.{◌≡◌, ℕ, cond, List, Result, Ok, Err, sym, ◌∙◌, ap, subst}
use Rattle.std.specs.Prelude.{⊤, length, IsTrue, IfOk, OnErr}
use Rattle.std.proofs.lemmas.Bool.{eq-eqb}
use Rattle.ctr_disk.specs.declared.disk.Disk.{Ghosts}
use Rattle.ctr_disk.specs.Image.{Image}
use Rattle.ctr_disk.specs.declared.fault.StoreFault.{StoreFault}
use Rattle.ctr_disk.specs.declared.fault.StoreFault.TheVariants.{Fault, Damaged}
use Rattle.ctr_page.specs.declared.walk.BadChain.{BadChain}
use Rattle.ctr_page.specs.declared.rows.Place.{Place}
use Rattle.ctr_page.specs.Reading.{slot_at}
use Rattle.ctr_passed.specs.area_Areas.{free_slot}
use Rattle.ctr_passed.specs.area_Reading.{slot_said, header_on, columns_on, width_on}
use Rattle.ctr_types.specs.declared.value.Column.{Column}
use Rattle.ctr_passed.specs.Logged.{IsSlotOf}
use Rattle.ctr_walk.specs.base_Base.{IsSoundImage}
use Rattle.ctr_passed.specs.redo_States.{State}
use Rattle.ctr_walk.specs.store_Store.{View, LeavesPage}
use Rattle.ctr_walk.specs.Damage.{damage_told, EndsTold}
use Rattle.ctr_walk.proofs.Joins.{pages_join}
use Rattle.ctr_walk.proofs.Damages.{reads}
use Rattle.ctr_passed.specs.record_effects_States.{pages_in}
use Rattle.ctr_walk.specs.declared.table.TableOf.{TableOf}
use Rattle.ctr_pvs.specs.declared.slot.LentSlot.{LentSlot}
use Rattle.ctr_pvs.specs.Table.{TableSaid}
use Rattle.ctr_pvs.specs.Reading.{row_check_at}
use Rattle.ctr_pvs.specs.Slots.{slot_lent, SlotLiesAt, IsSlotAt, RowWidthSaid, PassesRowAt, SlotSaidAt, LendsSlot}
use Rattle.ctr_pvs.proofs.Told.{page_of_table, row_passes}

-- the table of the page was found, and the slot passes
pub slot_passes : (counted : ℕ) (pages : ℕ → List ℕ) (at : Place) (t : TableOf) (w : ℕ) → TableSaid 1 counted pages at.page (Ok t) → RowWidthSaid counted t at.slot (pages at.page) (Ok w)
    → PassesRowAt (row_check_at counted pages at) pages at w
slot_passes counted pages at t w said wide =
    let page = page_of_table 1 counted pages at.page t said in
    record {
      passes = row_passes counted pages at t said wide.0;
      of_kind = page.of_kind;
      wide = wide.1 ∙ page.wide;
    }

-- it is that of the area
pub slot_in_area : (check : Result ⊤ BadChain) (pages : ℕ → List ℕ) (at : Place) (w : ℕ) (l : LentSlot) → PassesRowAt check pages at w → slot_lent l ≡ slot_at w at.slot (pages at.page) → IsSlotAt pages at l
slot_in_area check pages at w l passes is =
    let cs = columns_on pages at.page in
    ap (slot_said cs) (is ∙ ap (λ v. slot_at v at.slot (pages at.page)) passes.wide)
    ∙ sym (ap (λ b. cond b (slot_said cs (slot_at (width_on pages at.page) at.slot (pages at.page))) free_slot) (eq-eqb (header_on pages at.page).kind 1 passes.of_kind))

-- it lies where one of its width does
pub lies_still : (at : Place) (w : ℕ) (result : Result LentSlot StoreFault) → SlotLiesAt at w → IfOk result (λ l. length l.head.payload.now ≡ w) → IfOk result (λ l. SlotLiesAt at (length l.head.payload.now))
lies_still at w (Ok l) lies is = subst (SlotLiesAt at) (sym is) lies
lies_still at w (Err e) lies is = tt

-- What is lent behind the page on which all passed.
module _ {D : Type 0} (first : Image) (g : Ghosts D) (at : Place) (a b : View D) (w : ℕ) (one : LeavesPage {T = ℕ} first g a b (Ok w))
    (passes : IsTrue g.tells → IsSoundImage first → PassesRowAt (row_check_at a.now.counted (pages_in a.now) at) (pages_in a.now) at w) where
  abbrev IsRead : Result LentSlot StoreFault → Type 0
  IsRead result = IfOk result (λ l. slot_lent l ≡ slot_at w at.slot (pages_in b.now at.page))

  read_before : (l : LentSlot) → IsTrue g.tells → IsSoundImage first → slot_lent l ≡ slot_at w at.slot (pages_in b.now at.page) → slot_lent l ≡ slot_at w at.slot (pages_in a.now at.page)
  read_before l told sound is = is ∙ ap (λ (s : State). slot_at w at.slot (pages_in s at.page)) (one.logs told sound).now

  pub finds : (result : Result LentSlot StoreFault) → IsTrue g.tells → IsSoundImage first → IsRead result → IfOk result (IsSlotAt (pages_in a.now) at)
  finds (Ok l) told sound is = slot_in_area (row_check_at a.now.counted (pages_in a.now) at) (pages_in a.now) at w l (passes told sound) (read_before l told sound is)
  finds (Err e) told sound is = tt

  pub made : (columns : List Column) (result : Result LentSlot StoreFault) → IsTrue g.tells → IsSoundImage first → IsSlotOf a.now.counted columns (slot_at w at.slot (pages_in a.now at.page)) → IsRead result
      → IfOk result (λ l. IsSlotOf a.now.counted columns (slot_lent l))
  made columns (Ok l) told sound is read = subst (IsSlotOf a.now.counted columns) (sym (read_before l told sound read)) is
  made columns (Err e) told sound is read = tt

  pub lends : (c : View D) (result : Result LentSlot StoreFault) → LeavesPage {T = LentSlot} first g b c result → (IsTrue g.tells → IsSoundImage first → IsRead result) → LendsSlot first g at a c result
  lends c result two is = record {
    ends = λ told sound. ends result told sound (is told sound) (two.refused told sound);
    leaves = reads first g result a c (pages_join g a b c first ℕ LentSlot w result one two);
  }
    where
      ends : (r : Result LentSlot StoreFault) → IsTrue g.tells → IsSoundImage first → IsRead r → OnErr r (r ≡ Err Fault) → EndsTold (damage_told g c) (SlotSaidAt a.now.counted (pages_in a.now) at) r
      ends (Ok l) told sound is_read none = ((passes told sound).passes, finds (Ok l) told sound is_read)
      ends (Err Fault) told sound is_read none = tt
      ends (Err (Damaged d)) told sound is_read fault = absurd (let f = fault in cc)
