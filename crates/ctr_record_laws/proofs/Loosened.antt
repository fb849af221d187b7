-- A slot is changed, or an entry of its chain: what was in the chain, and isn't any more, is in none.
use Rattle.std.proofs.Common.{◌≡◌, inl, ℕ, Bool, true, refl, sym, ◌∙◌, ap, subst}
use Rattle.ctr_area.proofs.Buckets.{each_of}
use Rattle.ctr_area.specs.Areas.{nowhere, Slot, Older, Area}
use Rattle.ctr_area.specs.Chains.{older_bound, places_along}
use Rattle.ctr_area.specs.Changes.{with_slot}
use Rattle.ctr_area.specs.Sound.{IsAmong, IsUsedSlot, IsKeptFor, along, ArePointed, IsSoundArea}
use Rattle.ctr_area.specs.meta_Tables.{Tables}
use Rattle.ctr_record_laws.proofs.Along.{ends_at, goes_on, all_along}
use Rattle.ctr_record_laws.proofs.CutLaw.{cut_along, first_among}
use Rattle.ctr_record_laws.proofs.Kept.{older_apart}
use Rattle.ctr_record_laws.proofs.OneSlot.{place_cases, slot_here, slot_apart, was_used, now_used}
use Rattle.ctr_record_laws.proofs.Room.{bound_suc}
use Rattle.ctr_record_laws.specs.Owed.{IsSpareCopy, ToKept, reverted_slot, OwedByRevert, reverted_at, Trimming, CutHead, CutPrevious, FreeTombstone, trimmed_slot, OwedByTrim, trimmed_at, OwedByCut, cut_at, IsInNoChain}
use Rattle.ctr_area.specs.ctr_page.declared.rows.Place.{Place}
use Rattle.ctr_record_laws.proofs.Ways.{not_behind, behind_along, cut_off}
use Rattle.ctr_record_laws.specs.Loose.{IsLoose, behind_entry}

-- an entry of a chain is one of the table that is used, and of the key
pub kept_for : (area : Area) → ArePointed area → (e : ℕ) (b q : Place) → IsUsedSlot area e b → IsAmong q (along area b) → IsKeptFor area e (area.slot b).key q (area.older q)
kept_for area pointers e b q used in_ = each_of (λ q. IsKeptFor area e (area.slot b).key q (area.older q)) q (along area b)
    (all_along area.older (IsKeptFor area e (area.slot b).key) older_bound (area.slot b).pointer (pointers.lead e b used)) in_

-- the new slot doesn't lead to it, and no other did
pub slot_unlinked : (area : Area) (at : Place) (s : Slot) (q : Place)
    → ((f : ℕ) (b : Place) → (b ≡ at → ⊥) → IsUsedSlot area f b → IsAmong q (along area b) → ⊥)
    → (s.used ≡ true → IsAmong q (places_along older_bound area.older s.pointer) → ⊥)
    → IsInNoChain (with_slot at s area) q
slot_unlinked area at s q others itself f b used in_ = place_cases b at
    (λ is. itself (now_used area at s f b is used) (subst (λ (t : Slot). IsAmong q (places_along older_bound area.older t.pointer)) (slot_here area at s b is) in_))
    (λ apart. others f b apart (was_used area at s f b apart used) (subst (λ (t : Slot). IsAmong q (places_along older_bound area.older t.pointer)) (slot_apart area at s b apart) in_))

module _ (area : Area) (e : ℕ) (at : Place) (pointers : ArePointed area) (used : IsUsedSlot area e at) where
  -- an entry of the slot's chain to which the new slot doesn't lead
  pub slot_leaves : (s : Slot) (q : Place) → IsAmong q (along area at) → (s.used ≡ true → IsAmong q (places_along older_bound area.older s.pointer) → ⊥)
      → IsLoose (with_slot at s area) e q (area.older q)
  slot_leaves s q in_ itself = record {
    here = (kept_for area pointers e at q used in_).0;
    content = refl;
    used = (kept_for area pointers e at q used in_).1;
    unlinked = slot_unlinked area at s q (λ f b apart used_b in_b. apart (pointers.apart f e b at q used_b used in_b in_)) itself;
  }

-- ---- a Revert

module _ (counted : ℕ) (tables : Tables) (area : Area) (e : ℕ) (at : Place) (sound : IsSoundArea counted tables area) (owed : OwedByRevert tables area e at ToKept) where
  abbrev left : Place
  left = (area.slot at).pointer

  first_there : IsAmong left (along area at)
  first_there = subst (IsAmong left) (sym (ap (λ m. places_along m area.older left) bound_suc.1 ∙ goes_on bound_suc.0 area.older left owed.fits.1)) (inl refl)

  pub revert_leaves : IsLoose (reverted_at at ToKept area) e left (area.older left)
  revert_leaves = slot_leaves area e at sound.pointers owed.used (reverted_slot ToKept area.older (area.slot at)) left first_there
      (λ u in_. not_behind area.older (IsKeptFor area e (area.slot at).key) older_bound left left (sound.pointers.lead e at owed.used) first_there in_)

  -- which holds what the new head is
  pub revert_spares : IsSpareCopy (reverted_at at ToKept area) e ((reverted_at at ToKept area).slot at) ((reverted_at at ToKept area).slot at).head left
  revert_spares = subst (λ (s : Slot). IsSpareCopy (reverted_at at ToKept area) e s s.head left)
      (sym (slot_here area at (reverted_slot ToKept area.older (area.slot at)) at refl))
      (record { here = revert_leaves.here; copy = held; unlinked = revert_leaves.unlinked })
    where
      held : area.older left ≡ record { used = true; key = (area.slot at).key; version = (area.older left).version; pointer = (area.older left).pointer }
      held = let its = kept_for area sound.pointers e at left owed.used first_there in
          λ i. record { used = its.1 i; key = its.2 i; version = (area.older left).version; pointer = (area.older left).pointer }

-- ---- a Trim

pub nowhere_to : (w : Trimming) (s : Slot) → (trimmed_slot w s).pointer ≡ nowhere
nowhere_to CutHead s = refl
nowhere_to CutPrevious s = refl
nowhere_to FreeTombstone s = refl

-- a trimmed slot leads to nothing
pub trimmed_out : (area : Area) (at : Place) (way : Trimming) (q : Place) → IsAmong q (places_along older_bound area.older (trimmed_slot way (area.slot at)).pointer) → ⊥
trimmed_out area at way q in_ = subst (IsAmong q) (ap (places_along older_bound area.older) (nowhere_to way (area.slot at)) ∙ ends_at older_bound area.older nowhere refl) in_

pub trim_leaves : (passes : ℕ → Bool) (counted : ℕ) (tables : Tables) (area : Area) (e : ℕ) (at : Place) (way : Trimming) (q : Place)
    → IsSoundArea counted tables area → OwedByTrim passes tables area e at way → IsAmong q (along area at) → IsLoose (trimmed_at at way area) e q (area.older q)
trim_leaves passes counted tables area e at way q sound owed in_ =
    slot_leaves area e at sound.pointers owed.used (trimmed_slot way (area.slot at)) q in_ (λ u. trimmed_out area at way q)

module _ (passes : ℕ → Bool) (area : Area) (e : ℕ) (at p : Place) (owed : OwedByCut passes area e at p) where
  abbrev ending : Older
  ending = record (area.older p) { pointer = nowhere }

  pub on_way : IsAmong p (along area at)
  on_way = first_among area p ending passes (along area at) owed.first

  -- a chain in which it isn't doesn't get it
  pub cut_stays_out : (q : Place) → IsInNoChain area q → IsInNoChain (cut_at p area) q
  cut_stays_out q none f b used in_ = none f b used (cut_along area p ending refl refl older_bound (area.slot b).pointer q in_)

  module _ (counted : ℕ) (tables : Tables) (sound : IsSoundArea counted tables area) where
    abbrev Is : Place → Older → Type 0
    Is = IsKeptFor area e (area.slot at).key

    pub cut_leaves : (q : Place) → IsAmong q (behind_entry area p) → IsLoose (cut_at p area) e q (area.older q)
    cut_leaves q behind =
        let leads = sound.pointers.lead e at owed.used in
        let in_ = behind_along area.older Is older_bound (area.slot at).pointer p q leads on_way behind in
        let its = kept_for area sound.pointers e at q owed.used in_ in
        record {
          here = its.0;
          content = older_apart area p ending q (λ is. not_behind area.older Is older_bound (area.slot at).pointer p leads on_way
              (subst (λ q. IsAmong q (behind_entry area p)) is behind));
          used = its.1;
          unlinked = λ f b used in_b.
              let was = cut_along area p ending refl refl older_bound (area.slot b).pointer q in_b in
              let same_ = sound.pointers.apart f e b at q used owed.used was in_ in
              cut_off area p ending refl Is older_bound (area.slot at).pointer q leads on_way behind
              (subst (λ b. IsAmong q (along (cut_at p area) b)) same_ in_b);
        }
