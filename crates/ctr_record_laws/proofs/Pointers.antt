-- Pointers lead to version entries of their own, where one slot is changed.
use Rattle.std.proofs.Common.{◌≡◌, ℕ, true, sym, ◌∙◌, ap, subst}
use Rattle.ctr_area.specs.Areas.{Slot, Area}
use Rattle.ctr_area.specs.Chains.{older_bound, slot_places, places_along, Leads}
use Rattle.ctr_area.specs.Changes.{with_slot}
use Rattle.ctr_area.specs.Sound.{IsAmong, IsUsedSlot, IsKeptFor, along, ArePointed}
use Rattle.ctr_record_laws.proofs.OneSlot.{place_cases, slot_here, slot_apart, was_used, now_used}
use Rattle.ctr_area.specs.ctr_page.declared.rows.Place.{Place}

-- One slot is changed: the new pointer leads on as it must, and what it leads to is in no chain of another slot
module _ (area : Area) (e : ℕ) (at : Place) (s : Slot) (pointers : ArePointed area) (here : (f : ℕ) → IsAmong at (slot_places area f) → f ≡ e)
    (leads : s.used ≡ true → Leads older_bound area.older (IsKeptFor area e s.key) s.pointer)
    (alone : (f : ℕ) (b q : Place) → (b ≡ at → ⊥) → IsUsedSlot area f b → s.used ≡ true → IsAmong q (places_along older_bound area.older s.pointer) → IsAmong q (along area b) → ⊥) where
  abbrev changed : Area
  changed = with_slot at s area

  row_lead : (f : ℕ) (b : Place) → IsUsedSlot changed f b → Leads older_bound area.older (IsKeptFor area f (changed.slot b).key) (changed.slot b).pointer
  row_lead f b used = place_cases b at
      (λ is. let at_here : f ≡ e = here f (subst (λ b. IsAmong b (slot_places area f)) is used.0) in
      let same_ : changed.slot b ≡ s = slot_here area at s b is in
      subst (λ f. Leads older_bound area.older (IsKeptFor area f (changed.slot b).key) (changed.slot b).pointer) (sym at_here)
      (subst (λ (t : Slot). Leads older_bound area.older (IsKeptFor area e t.key) t.pointer) (sym same_) (leads (ap (λ (t : Slot). t.used) (sym same_) ∙ used.1))))
      (λ apart. let same_ : changed.slot b ≡ area.slot b = slot_apart area at s b apart in
      subst (λ (t : Slot). Leads older_bound area.older (IsKeptFor area f t.key) t.pointer) (sym same_) (pointers.lead f b (used.0, ap (λ (t : Slot). t.used) (sym same_) ∙ used.1)))

  was_along : (b q : Place) → (b ≡ at → ⊥) → IsAmong q (along changed b) → IsAmong q (along area b)
  was_along b q apart in_ = subst (λ (t : Slot). IsAmong q (places_along older_bound area.older t.pointer)) (slot_apart area at s b apart) in_

  is_along : (b q : Place) → b ≡ at → IsAmong q (along changed b) → IsAmong q (places_along older_bound area.older s.pointer)
  is_along b q is in_ = subst (λ (t : Slot). IsAmong q (places_along older_bound area.older t.pointer)) (slot_here area at s b is) in_

  pub slot_pointers : ArePointed changed
  slot_pointers = record {
    lead = row_lead;
    apart = λ f g a b q used_a used_b in_a in_b. place_cases a at
        (λ is_a. place_cases b at (λ is_b. is_a ∙ sym is_b)
        (λ not_b. absurd (alone g b q not_b (was_used area at s g b not_b used_b) (now_used area at s f a is_a used_a) (is_along a q is_a in_a) (was_along b q not_b in_b))))
        (λ not_a. place_cases b at
        (λ is_b. absurd (alone f a q not_a (was_used area at s f a not_a used_a) (now_used area at s g b is_b used_b) (is_along b q is_b in_b) (was_along a q not_a in_a)))
        (λ not_b. pointers.apart f g a b q (was_used area at s f a not_a used_a) (was_used area at s g b not_b used_b) (was_along a q not_a in_a) (was_along b q not_b in_b)));
  }
