-- What a turn ends in that looks for the row's slot.
use Rattle.std.proofs.Common.{◌≡◌, ℕ, ℤ, inl, inr, Option, None, Some, Result, Ok, Err, subst}
use Rattle.std.specs.Prelude.{IfOk}
use Rattle.ctr_disk.specs.declared.fault.StoreFault.{StoreFault}
use Rattle.ctr_page.specs.declared.rows.Place.{Place}
use Rattle.ctr_area.specs.Areas.{Area}
use Rattle.ctr_area.specs.Sound.{AreKeyed}
use Rattle.ctr_redo.specs.States.{State}
use Rattle.ctr_extend.specs.record_effects_States.{area_in}
use Rattle.ctr_extend.specs.record_laws_Owed.{IsSlotOfKey}
use Rattle.ctr_extend.specs.heap_Finding.{FindsKey}
use Rattle.ctr_write.specs.declared.stages.Written.{Written}
use Rattle.ctr_write.specs.Laying.{Wish}
use Rattle.ctr_write.specs.Steps.{EndsPlacing, EndsOver, EndsLooking}

module _ (area : Area) (e : ℕ) (k key : ℤ) (found : Option Place) where
  pub found_none : k ≡ key → found ≡ None → FindsKey area e k found → AreKeyed area → (at : Place) → IsSlotOfKey area e key at → ⊥
  found_none same is finds keyed at has =
      let none = subst (λ (j : ℤ). FindsKey area e j None) same (subst (λ (o : Option Place). FindsKey area e k o) is finds) in
      none keyed at has.0 has.1

  pub found_one : (at : Place) → k ≡ key → found ≡ Some at → FindsKey area e k found → IsSlotOfKey area e key at
  found_one at same is finds = subst (λ (j : ℤ). FindsKey area e j (Some at)) same (subst (λ (o : Option Place). FindsKey area e k o) is finds)

module _ (wish : Wish) (kept : Option Place) (s t : State) where
  pub looks_none : (result : Result Written StoreFault) → ((at : Place) → IsSlotOfKey (area_in s) wish.entry wish.key at → ⊥) → IfOk result (EndsPlacing wish s t)
      → IfOk result (EndsLooking wish kept s t)
  looks_none (Ok w) none ends = inl (none, ends)
  looks_none (Err e) none ends = tt

  pub looks_one : (at : Place) (result : Result Written StoreFault) → IsSlotOfKey (area_in s) wish.entry wish.key at → IfOk result (EndsOver wish at kept s t)
      → IfOk result (EndsLooking wish kept s t)
  looks_one at (Ok w) has ends = inr (record { at = at; of_key = has; ends = ends })
  looks_one at (Err e) has ends = tt
