-- A slot without its head is the slot that a Revert leaves, where the area is sound.
use Rattle.std.proofs.Common.{◌≡◌, ◌⊎◌, ⊎_elim, inl, inr, ℕ, suc, cond, true, false, Option, Some, None, refl, sym, ◌∙◌, ap, subst}
use Rattle.std.specs.Prelude.{unwrap_or, is_some, List}
use Rattle.ctr_page.specs.declared.rows.Place.{Place}
use Rattle.ctr_meta.specs.Tables.{Tables}
use Rattle.ctr_pvs.specs.area_Areas.{RowVersion, Slot, Older, Area, free_slot}
use Rattle.ctr_pvs.specs.area_Reading.{area_of}
use Rattle.ctr_pvs.specs.area_Chains.{older_bound, Leads}
use Rattle.ctr_pvs.specs.area_Sound.{IsUsedSlot, IsKeptFor, IsSoundArea}
use Rattle.ctr_pvs.specs.record_laws_Owed.{Reverting, ToPrevious, ToKept, ToNothing, reverted_slot, FitsReverting}
use Rattle.ctr_revert.specs.Reverting.{behind_head, without_head, KeepsKey}
use Rattle.ctr_revert.proofs.Headless.{nothing_at}

bound_suc : (n : ℕ) × (older_bound ≡ suc n)
unfolding older_bound
bound_suc = (5099999, refl)

-- a pointer leads to no page, or to what it may
leads_on : (older : Place → Older) (Is : Place → Older → Type 0) (q : Place) → Leads older_bound older Is q → (q.page ≡ 0) ⊎ Is q (older q)
leads_on older Is q leads = ⊎_elim (λ none. inl none) (λ more. inr more.0) (subst (λ n. Leads n older Is q) bound_suc.1 leads)

-- there is a previous version
by_previous : (old : Slot) (next : Older) (o : Option RowVersion) → is_some o ≡ true → behind_head next old o ≡ record old { head = unwrap_or o old.head; previous = None }
by_previous old next (Some v) some = refl
by_previous old next None some = absurd cc

module _ (counted : ℕ) (tables : Tables) (pages : ℕ → List ℕ) (e : ℕ) (at : Place) (sound : IsSoundArea counted tables (area_of pages)) (used : IsUsedSlot (area_of pages) e at) where
  abbrev area : Area
  area = area_of pages

  abbrev old : Slot
  old = area.slot at

  abbrev next : Older
  next = area.older old.pointer

  leads : (old.pointer.page ≡ 0) ⊎ IsKeptFor area e old.key old.pointer next
  leads = leads_on area.older (IsKeptFor area e old.key) old.pointer (sound.pointers.lead e at used)

  pub keeps_key : KeepsKey area at
  keeps_key here kept = ⊎_elim
      (λ none. absurd (let no : false ≡ true = sym (ap (λ (o : Older). o.used) (nothing_at pages old.pointer none)) ∙ kept in cc))
      (λ (is : IsKeptFor area e old.key old.pointer next). is.2) leads

  pub same_slot : (way : Reverting) → FitsReverting way old → without_head area.older old ≡ reverted_slot way area.older old
  same_slot ToPrevious fits = by_previous old next old.previous fits
  same_slot ToKept (none, some) = ⊎_elim
      (λ ends. absurd (some ends))
      (λ (is : IsKeptFor area e old.key old.pointer next). ap (behind_head next old) none ∙ ap (λ b. cond b (record old { head = next.version; pointer = next.pointer }) free_slot) is.1) leads
  same_slot ToNothing (none, ends) = ap (behind_head next old) none ∙ ap (λ (o : Older). behind_head o old None) (nothing_at pages old.pointer ends)
