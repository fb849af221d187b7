-- An area in which one slot is changed.
use Rattle.std.proofs.Common.{◌≡◌, ℕ, true, false, cond, sym, ◌∙◌, ap}
use Rattle.std.proofs.lemmas.Bool.{false≢true}
use Rattle.ctr_area.proofs.Places.{same_place_is, same_place_itself}
use Rattle.ctr_area.specs.Areas.{same_place, Slot, Area}
use Rattle.ctr_area.specs.Changes.{with_slot}
use Rattle.ctr_area.specs.Sound.{IsUsedSlot}
use Rattle.ctr_area.specs.ctr_page.declared.rows.Place.{Place}
use Rattle.ctr_area.proofs.ctr_versions.Keys.{known}

pub other_place : (a b : Place) → (a ≡ b → ⊥) → same_place a b ≡ false
other_place a b apart = known (same_place a b) (λ is. absurd (apart (same_place_is a b is))) (λ is. is)

-- a place is another or isn't
pub place_cases : {A : Type 0} (a b : Place) → (a ≡ b → A) → ((a ≡ b → ⊥) → A) → A
place_cases a b hit miss = known (same_place a b) (λ is. hit (same_place_is a b is)) (λ isnt. miss (λ is. false≢true (sym isnt ∙ ap (λ a. same_place a b) is ∙ same_place_itself b)))

module _ (area : Area) (at : Place) (s : Slot) where
  abbrev after : Area
  after = with_slot at s area

  pub slot_here : (b : Place) → b ≡ at → after.slot b ≡ s
  slot_here b is = ap after.slot is ∙ ap (λ t. cond t s (area.slot at)) (same_place_itself at)

  pub slot_apart : (b : Place) → (b ≡ at → ⊥) → after.slot b ≡ area.slot b
  slot_apart b apart = ap (λ t. cond t s (area.slot b)) (other_place b at apart)

  pub was_used : (f : ℕ) (b : Place) → (b ≡ at → ⊥) → IsUsedSlot after f b → IsUsedSlot area f b
  was_used f b apart used = (used.0, ap (λ (t : Slot). t.used) (sym (slot_apart b apart)) ∙ used.1)

  pub now_used : (f : ℕ) (b : Place) → b ≡ at → IsUsedSlot after f b → s.used ≡ true
  now_used f b is used = ap (λ (t : Slot). t.used) (sym (slot_here b is)) ∙ used.1
