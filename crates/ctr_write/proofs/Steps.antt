-- What each record leaves of what is counted on.
use Rattle.std.proofs.Common.{◌≡◌, ℕ, ◌+◌, ◌<◌, ◌≤◌, inl, inr, Result, Err, cond, sym, ap, subst, refl}
use Rattle.ctr_page.specs.declared.rows.Place.{Place}
use Rattle.ctr_area.specs.Areas.{RowVersion, Slot}
use Rattle.std.specs.Prelude.{Option, Bool, false, ◌&&◌, not, OnOk, nat_eq, true}
use Rattle.ctr_page.specs.declared.rows.RowSlot.{RowSlot}
use Rattle.ctr_page.specs.declared.table.TheConstants.{PAGE_SIZE}
use Rattle.ctr_page.specs.Places.{slot_size, start_of}
use Rattle.ctr_page.specs.Making.{IsSlot}
use Rattle.ctr_extend.specs.pvs_Slots.{SlotLiesAt}
use Rattle.ctr_extend.specs.heap_Writing.{LiesOnPage}
use Rattle.ctr_meta.specs.Tables.{Tables, is_in}
use Rattle.ctr_meta.specs.Effects.{one_head_less}
use Rattle.ctr_area.specs.Images.{is_committed_in}
use Rattle.ctr_extend.specs.record_laws_Owed.{loses_head}
use Rattle.ctr_area.specs.Sound.{IsUsedSlot, PreviousBelow}
use Rattle.ctr_redo.specs.States.{State}
use Rattle.ctr_extend.specs.record_effects_States.{area_in}
use Rattle.ctr_extend.specs.record_effects_Standing.{IsDatabaseState}
use Rattle.ctr_extend.specs.actions_Sites.{Site}
use Rattle.ctr_extend.specs.actions_Facts.{Fact, HoldsFact}
use Rattle.ctr_write.specs.Keeping.{IsOfSlot}

-- a fact holds of a site that is the one of which it holds
pub moved : (x : ℕ) (f : Fact) (s t : Site) → t ≡ s → HoldsFact x f s → HoldsFact x f t
moved x f s t is held = subst (λ z. HoldsFact x f z) (sym is) held

-- each version of a used slot is by a transaction that was drawn
of_slot_below : (next : ℕ) (slot : Slot) (v : RowVersion) → (slot.head.0 < next) × PreviousBelow next slot.previous → IsOfSlot slot v → v.0 < next
of_slot_below next slot v below (inl is) = subst (λ (w : RowVersion). w.0 < next) is below.0
of_slot_below next slot v below (inr is) = subst (λ (o : Option RowVersion). PreviousBelow next o) is below.1

pub drawn_of : (e : ℕ) (at : Place) (v : RowVersion) (s : State) → IsDatabaseState s → IsUsedSlot (area_in s) e at → IsOfSlot ((area_in s).slot at) v → v.0 < s.tables.next
drawn_of e at v s sound used is = of_slot_below s.tables.next ((area_in s).slot at) v (sound.sound.below.slots e at used) is

-- a slot that isn't used has no head that anybody loses
pub loses_none : (tables : Tables) (slot : Slot) → slot.used ≡ false → 0 ≡ loses_head tables slot
loses_none tables slot free = sym (ap (λ (b : Bool). cond (b && not (is_committed_in tables slot.head.0)) slot.head.0 0) free)

-- an error is no answer
pub none_ok : {T E : Type 0} (result : Result T E) (e : E) → result ≡ Err e → OnOk result ⊥
none_ok result e is = subst (λ r. OnOk r ⊥) (sym is) tt

-- a slot of rows so wide lies where one as wide as its head does
pub slot_there : (at : Place) (slot : RowSlot) (w : ℕ) → IsSlot w slot → SlotLiesAt at w → LiesOnPage at slot
slot_there at slot w is lies =
    let wide = sym is.head.2 in
    record {
      narrow = subst (λ n. n ≤ 2048) wide lies.0;
      is = subst (λ n. IsSlot n slot) wide is;
      inside = subst (λ n. start_of (slot_size n) at.slot + slot_size n ≤ PAGE_SIZE) wide lies.1;
    }

-- a head less for whoever loses it draws no number
picks : (b : Bool) (t u : Tables) (n : ℕ) → t.next ≡ n → u.next ≡ n → (cond b t u).next ≡ n
picks true t u n one two = one
picks false t u n one two = two

pub next_stays : (x : ℕ) (t : Tables) → (one_head_less x t).next ≡ t.next
next_stays x t = picks (nat_eq x 0) t _ t.next refl (picks (is_in x t.opens) _ _ t.next refl refl)
