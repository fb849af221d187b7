-- Each way to write is the write of the chain, and leads on to entries of its own.
use Rattle.std.proofs.Common.{◌≡◌, ⊎_elim, inr, ℕ, ◌<◌, ◌≤◌, ℤ, suc, Bool, cond, List, [], ◌∷◌, length, refl, sym, ◌∙◌, ap, subst, arith}
use Rattle.std.specs.Prelude.{is_some}
use Rattle.ctr_area.proofs.Buckets.{on_chain}
use Rattle.ctr_area.specs.Areas.{nowhere, RowVersion, Slot, Older, Area}
use Rattle.ctr_area.specs.Chains.{pages_bound, older_bound, older_places, places_along, chain_of, Leads}
use Rattle.ctr_area.specs.Sound.{IsAmong, IsUsedSlot, IsKeptFor, along, ArePointed}
use Rattle.ctr_record_laws.proofs.Along.{ends_at, goes_on, more_along, leads_short}
use Rattle.ctr_record_laws.proofs.Room.{short_along, leads_to, bound_suc, pages_nonzero}
use Rattle.ctr_record_laws.proofs.Writes.{behind_pointer, copy_along, over_head, head_moves, previous_kept, head_kept, nothing_behind}
use Rattle.ctr_record_laws.specs.Owed.{IsSpareCopy, Writing, OverHead, HeadMoves, PreviousKept, HeadKept, FirstVersion, written_slot, IsSlotOfKey, FitsWriting}
use Rattle.ctr_area.specs.ctr_page.declared.rows.Place.{Place}
use Rattle.ctr_area.specs.versions_Chains.{Numbers}
use Rattle.ctr_area.specs.versions_Changes.{write}

-- a version entry of a table isn't nowhere
copy_somewhere : (area : Area) (e : ℕ) (q : Place) → IsAmong q (older_places area e) → q.page ≡ 0 → ⊥
copy_somewhere area e q in_ z = pages_nonzero pages_bound area.header (area.firsts e).versions q.page (on_chain area (area.firsts e).versions q in_).0 z

module _ (committed : ℕ → Bool) (area : Area) (e : ℕ) (key : ℤ) (at : Place) (head : RowVersion) (rooms : (q : ℕ) → area.room q ≤ 170) (pointers : ArePointed area) where
  abbrev old : Slot
  old = area.slot at

  abbrev Fits : Writing → Type 0
  Fits w = FitsWriting w committed area e key at

  abbrev new : Writing → Slot
  new w = written_slot w head key old

  abbrev Is : ℤ → Place → Older → Type 0
  Is k = IsKeptFor area e k

  old_leads : IsSlotOfKey area e key at → Leads older_bound area.older (Is old.key) old.pointer
  old_leads slot = pointers.lead e at slot.0

  -- with a step to spare
  spare : (q : Place) (version : RowVersion) → IsSlotOfKey area e key at → IsSpareCopy area e old version q → Leads bound_suc.0 area.older (Is old.key) old.pointer
  spare q version slot copy =
      let n = length (places_along older_bound area.older old.pointer) in
      let short = short_along area rooms e (Is old.key) q old.pointer (λ r is. is.0) copy.here (copy.unlinked e at slot.0) (old_leads slot) in
      leads_to area.older (Is old.key) bound_suc.0 n old.pointer (fits n bound_suc.0 (subst (λ m. n < m) bound_suc.1 short))
      (leads_short area.older (Is old.key) older_bound old.pointer (old_leads slot))
    where
      fits : (a b : ℕ) → a < suc b → a ≤ b
      fits a b lt = omega (arith, lt)

  copied : (q : Place) (version : RowVersion) → IsSlotOfKey area e key at → IsSpareCopy area e old version q
      → behind_pointer area.older q ≡ version ∷ behind_pointer area.older old.pointer
  copied q version slot copy = copy_along area.older (Is old.key) bound_suc.0 q old version bound_suc.1 (copy_somewhere area e q copy.here) copy.copy (spare q version slot copy)

  -- what stood under the key before
  abbrev pub chain_before : List RowVersion
  chain_before = cond old.used (chain_of area.older old) []

  module _ (number : Numbers) (agrees : (y : ℕ) → is_some (number y) ≡ committed y) where
    used_before : IsSlotOfKey area e key at → write number head.0 head.1 (chain_of area.older old) ≡ write number head.0 head.1 chain_before
    used_before slot = ap (λ b. write number head.0 head.1 (cond b (chain_of area.older old) [])) (sym slot.0.1)

    pub is_write : (w : Writing) → Fits w → chain_of area.older (new w) ≡ write number head.0 head.1 chain_before
    is_write OverHead fits = over_head area.older number head.0 head.1 old (agrees old.head.0 ∙ fits.1) ∙ used_before fits.0
    is_write HeadMoves fits = head_moves area.older number head.0 head.1 old (agrees old.head.0 ∙ fits.1) fits.2 ∙ used_before fits.0
    is_write (PreviousKept q) fits =
        previous_kept area.older number head.0 head.1 old fits.2.0 q (agrees old.head.0 ∙ fits.1) fits.2.1 (copied q fits.2.0 fits.0 fits.2.2) ∙ used_before fits.0
    is_write (HeadKept q) fits =
        head_kept area.older number head.0 head.1 old q (agrees old.head.0 ∙ fits.1) fits.2 (copied q old.head fits.0 fits.3) ∙ used_before fits.0
    is_write FirstVersion room =
        ap (λ vs. head ∷ vs) (nothing_behind area.older)
        ∙ ap (λ b. write number head.0 head.1 (cond b (chain_of area.older old) [])) (sym room.free)

  copy_leads : (q : Place) (version : RowVersion) → IsSlotOfKey area e key at → IsSpareCopy area e old version q → Leads older_bound area.older (Is key) q
  copy_leads q version slot copy =
      subst (λ m. Leads m area.older (Is key) q) (sym bound_suc.1)
      (step bound_suc.0 (
        (copy.here, ap (λ (j : Older). j.used) copy.copy, ap (λ (j : Older). j.key) copy.copy ∙ slot.1),
        subst (Leads bound_suc.0 area.older (Is key)) (sym (ap (λ (j : Older). j.pointer) copy.copy))
            (subst (λ k. Leads bound_suc.0 area.older (Is k) old.pointer) slot.1 (spare q version slot copy)),
      ))
    where
      step : (n : ℕ) → IsKeptFor area e key q (area.older q) × Leads n area.older (Is key) (area.older q).pointer → Leads (suc n) area.older (Is key) q
      step n both = inr both

  kept_leads : IsSlotOfKey area e key at → Leads older_bound area.older (Is key) old.pointer
  kept_leads slot = subst (λ k. Leads older_bound area.older (Is k) old.pointer) slot.1 (old_leads slot)

  pub new_leads : (w : Writing) → Fits w → Leads older_bound area.older (Is key) (new w).pointer
  new_leads OverHead fits = kept_leads fits.0
  new_leads HeadMoves fits = kept_leads fits.0
  new_leads (PreviousKept q) fits = copy_leads q fits.2.0 fits.0 fits.2.2
  new_leads (HeadKept q) fits = copy_leads q old.head fits.0 fits.3
  new_leads FirstVersion room = leads_to area.older (Is key) older_bound 0 nowhere (omega arith) refl

  -- what the new pointer leads to is in no chain of another slot
  abbrev Apart : Place → Type 0
  Apart p = (f : ℕ) (b r : Place) → (b ≡ at → ⊥) → IsUsedSlot area f b → IsAmong r (places_along older_bound area.older p) → IsAmong r (along area b) → ⊥

  old_apart : IsSlotOfKey area e key at → Apart old.pointer
  old_apart slot f b r apart used in_ too = apart (pointers.apart f e b at r used slot.0 too in_)

  copy_apart : (q : Place) (version : RowVersion) → IsSlotOfKey area e key at → IsSpareCopy area e old version q → Apart q
  copy_apart q version slot copy f b r apart used in_ too = ⊎_elim
      (λ is. copy.unlinked f b used (subst (λ r. IsAmong r (along area b)) is too))
      (λ later. old_apart slot f b r apart used (subst (IsAmong r) same_ later) too)
      (subst (IsAmong r) (ap (λ m. places_along m area.older q) bound_suc.1 ∙ goes_on bound_suc.0 area.older q (copy_somewhere area e q copy.here)) in_)
    where
      same_ : places_along bound_suc.0 area.older (area.older q).pointer ≡ along area at
      same_ = ap (λ (j : Older). places_along bound_suc.0 area.older j.pointer) copy.copy
          ∙ sym (more_along area.older (Is old.key) bound_suc.0 old.pointer (spare q version slot copy)) ∙ ap (λ m. places_along m area.older old.pointer) (sym bound_suc.1)

  pub new_apart : (w : Writing) → Fits w → Apart (new w).pointer
  new_apart OverHead fits = old_apart fits.0
  new_apart HeadMoves fits = old_apart fits.0
  new_apart (PreviousKept q) fits = copy_apart q fits.2.0 fits.0 fits.2.2
  new_apart (HeadKept q) fits = copy_apart q old.head fits.0 fits.3
  new_apart FirstVersion room = λ f b r apart used in_ too. subst (IsAmong r) (ends_at older_bound area.older nowhere refl) in_
