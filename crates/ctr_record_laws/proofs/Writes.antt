-- What is written to a slot, as a write of its chain.
use Rattle.std.proofs.Common.{◌≡◌, ℕ, suc, Bool, true, false, cond, List, [], ◌∷◌, ◌++◌, drop, Option, Some, None, refl, sym, ◌∙◌, ap, subst}
use Rattle.std.specs.List.{AllByRecursion}
use Rattle.std.specs.Prelude.{is_some}
use Rattle.ctr_area.specs.Areas.{nowhere, RowVersion, Slot, Older}
use Rattle.ctr_area.specs.Chains.{older_bound, places_along, if_any, chain_of, Leads}
use Rattle.ctr_record_laws.proofs.Along.{versions_at, ends_at, goes_on, more_along}
use Rattle.ctr_record_laws.specs.Owed.{older_copy}
use Rattle.ctr_area.specs.ctr_page.declared.rows.Place.{Place}
use Rattle.ctr_area.specs.types_Row.{Row}
use Rattle.ctr_area.proofs.ctr_versions.Keys.{known}
use Rattle.ctr_area.specs.versions_Chains.{Numbers}
use Rattle.ctr_area.specs.versions_Changes.{write}

module _ (older : Place → Older) where
  -- the versions behind a pointer
  abbrev pub behind_pointer : Place → List RowVersion
  behind_pointer p = versions_at older (places_along older_bound older p)

  -- a version that was kept, in front of the others
  pub copy_along : (Is : Place → Older → Type 0) (n : ℕ) (q : Place) (slot : Slot) (version : RowVersion) → older_bound ≡ suc n → (q.page ≡ 0 → ⊥)
      → older q ≡ older_copy slot version → Leads n older Is slot.pointer → behind_pointer q ≡ version ∷ behind_pointer slot.pointer
  copy_along Is n q slot version most there copy leads =
      ap (λ m. versions_at older (places_along m older q)) most ∙ ap (versions_at older) (goes_on n older q there)
      ∙ ap (λ (j : Older). j.version ∷ versions_at older (places_along n older j.pointer)) copy
      ∙ ap (λ ps. version ∷ versions_at older ps) (sym (more_along older Is n slot.pointer leads) ∙ ap (λ m. places_along m older slot.pointer) (sym most))

  module _ (number : Numbers) (x : ℕ) (v : Option Row) where
    -- over a head that isn't committed: its own, an aborted one or an orphan's
    pub over_head : (slot : Slot) → is_some (number slot.head.0) ≡ false → chain_of older (record slot { head = (x, v) }) ≡ write number x v (chain_of older slot)
    over_head slot none = sym (ap (λ b. cond b ((x, v) ∷ chain_of older slot) (chain_of older (record slot { head = (x, v) }))) none)

    on_committed : (slot : Slot) → is_some (number slot.head.0) ≡ true → write number x v (chain_of older slot) ≡ (x, v) ∷ chain_of older slot
    on_committed slot is = ap (λ b. cond b ((x, v) ∷ chain_of older slot) ((x, v) ∷ (if_any slot.previous ++ behind_pointer slot.pointer))) is

    -- a committed head becomes the previous version, where there is none
    pub head_moves : (slot : Slot) → is_some (number slot.head.0) ≡ true → slot.previous ≡ None
        → chain_of older (record slot { head = (x, v); previous = Some slot.head }) ≡ write number x v (chain_of older slot)
    head_moves slot is none = ap (λ o. (x, v) ∷ slot.head ∷ (if_any o ++ behind_pointer slot.pointer)) (sym none) ∙ sym (on_committed slot is)

    -- it does, and the previous version was kept
    pub previous_kept : (slot : Slot) (version : RowVersion) (q : Place) → is_some (number slot.head.0) ≡ true → slot.previous ≡ Some version
        → behind_pointer q ≡ version ∷ behind_pointer slot.pointer
        → chain_of older (record slot { head = (x, v); previous = Some slot.head; pointer = q }) ≡ write number x v (chain_of older slot)
    previous_kept slot version q is some along_ =
        ap (λ vs. (x, v) ∷ slot.head ∷ vs) (along_ ∙ ap (λ o. if_any o ++ behind_pointer slot.pointer) (sym some)) ∙ sym (on_committed slot is)

    -- a committed head was kept, where a slot has no previous version
    pub head_kept : (slot : Slot) (q : Place) → is_some (number slot.head.0) ≡ true → slot.previous ≡ None
        → behind_pointer q ≡ slot.head ∷ behind_pointer slot.pointer
        → chain_of older (record slot { head = (x, v); pointer = q }) ≡ write number x v (chain_of older slot)
    head_kept slot q is none along_ =
        ap (λ o. (x, v) ∷ (if_any o ++ behind_pointer q)) none ∙ ap (λ vs. (x, v) ∷ vs) along_
        ∙ ap (λ o. (x, v) ∷ slot.head ∷ (if_any o ++ behind_pointer slot.pointer)) (sym none) ∙ sym (on_committed slot is)

  -- a slot that was free
  pub nothing_behind : behind_pointer nowhere ≡ []
  nothing_behind = ap (versions_at older) (ends_at older_bound older nowhere refl)

-- a write leaves committed versions behind its head
pub write_behind : (number : Numbers) (committed : ℕ → Bool) → ((y : ℕ) → is_some (number y) ≡ committed y) → (x : ℕ) (v : Option Row) (chain : List RowVersion)
    → AllByRecursion (λ (w : RowVersion). committed w.0 ≡ true) (drop 1 chain) → AllByRecursion (λ (w : RowVersion). committed w.0 ≡ true) (drop 1 (write number x v chain))
write_behind number committed agrees x v [] all = tt
write_behind number committed agrees x v (h ∷ rest) all = known (is_some (number h.0))
    (λ is. subst (λ c. AllByRecursion (λ (w : RowVersion). committed w.0 ≡ true) (drop 1 c)) (sym (ap (λ b. cond b ((x, v) ∷ h ∷ rest) ((x, v) ∷ rest)) is)) (sym (agrees h.0) ∙ is, all))
    (λ isnt. subst (λ c. AllByRecursion (λ (w : RowVersion). committed w.0 ≡ true) (drop 1 c)) (sym (ap (λ b. cond b ((x, v) ∷ h ∷ rest) ((x, v) ∷ rest)) isnt)) all)
