-- What a way to write owes: the place, its key, its bucket.
use Rattle.std.proofs.Common.{◌≡◌, ◌⊎◌, inl, inr, ℕ, ◌+◌, ◌<◌, ℤ, zero, suc, Bool, true, List, [], ◌∷◌, slice_index, refl, sym, ◌∙◌, ap, arith}
use Rattle.std.proofs.lemmas.Bool.{false≢true}
use Rattle.ctr_area.proofs.Buckets.{each_of, on_chain, of_bucket, nothing_from_0}
use Rattle.ctr_area.specs.Areas.{RowVersion, Area}
use Rattle.ctr_area.specs.Chains.{pages_bound, pages_from, places_from, slot_places}
use Rattle.ctr_area.specs.Sound.{IsAmong, IsUsedSlot, IsOfRows, AreBuckets, AreReadable, AreKeyed, PreviousBelow}
use Rattle.ctr_record_laws.specs.Owed.{Writing, OverHead, HeadMoves, PreviousKept, HeadKept, FirstVersion, written_slot, IsSlotOfKey, IsRoomFor, FitsWriting}
use Rattle.ctr_area.specs.ctr_page.Places.{bucket_of}
use Rattle.ctr_area.specs.ctr_page.declared.rows.Place.{Place}

-- a place in the chain of a bucket's first page is on a page of the bucket
bucket_there : (area : Area) (e : ℕ) (at : Place) (b n : ℕ) (ps : List ℕ) → AreBuckets area e b ps → IsAmong at (places_from area (slice_index ps n)) → (area.header at.page).bucket ≡ b + n
bucket_there area e at b n [] buckets in_ = absurd (nothing_from_0 area at in_)
bucket_there area e at b zero (p ∷ ps) buckets in_ =
    (each_of (λ q. IsOfRows e b (area.header q)) at.page (pages_from pages_bound area.header p) buckets.0.0 (on_chain area p at in_).0).2 ∙ plain b
  where
    plain : (b : ℕ) → b ≡ b + 0
    plain b = omega arith
bucket_there area e at b (suc n) (p ∷ ps) buckets in_ = bucket_there area e at (b + 1) n ps buckets.1 in_ ∙ turned b n
  where
    turned : (b n : ℕ) → b + 1 + n ≡ b + suc n
    turned b n = omega arith

module _ (committed : ℕ → Bool) (area : Area) (e : ℕ) (key : ℤ) (at : Place) where
  abbrev Fits : Writing → Type 0
  Fits w = FitsWriting w committed area e key at

  -- it is a slot of the key, or there is room for one
  pub fitting : (w : Writing) → Fits w → IsSlotOfKey area e key at ⊎ IsRoomFor area e key at
  fitting OverHead fits = inl fits.0
  fitting HeadMoves fits = inl fits.0
  fitting (PreviousKept q) fits = inl fits.0
  fitting (HeadKept q) fits = inl fits.0
  fitting FirstVersion fits = inr fits

  abbrev Fitting : Type 0
  Fitting = IsSlotOfKey area e key at ⊎ IsRoomFor area e key at

  pub place_of : Fitting → IsAmong at (slot_places area e)
  place_of (inl slot) = slot.0.0
  place_of (inr room) = of_bucket area at (bucket_of key) (area.firsts e).buckets room.here (nothing_from_0 area at)

  pub old_key : Fitting → (area.slot at).used ≡ true → (area.slot at).key ≡ key
  old_key (inl slot) used = slot.1
  old_key (inr room) used = absurd (false≢true (sym room.free ∙ used))

  pub alone : AreKeyed area → Fitting → (b : Place) → IsAmong b (slot_places area e) → (area.slot b).used ≡ true → (area.slot b).key ≡ key → b ≡ at
  alone keys (inl slot) b in_ used its = keys.once e b at (in_, used) slot.0 (its ∙ sym slot.1)
  alone keys (inr room) b in_ used its = absurd (room.none b ((in_, used), its))

  pub of_its_bucket : AreReadable area → AreKeyed area → Fitting → (area.header at.page).bucket ≡ bucket_of key
  of_its_bucket readable keys (inl slot) = keys.bucket e at slot.0 ∙ ap bucket_of slot.1
  of_its_bucket readable keys (inr room) = bucket_there area e at 0 (bucket_of key) (area.firsts e).buckets (readable.rows e) room.here ∙ plain (bucket_of key)
    where
      plain : (b : ℕ) → 0 + b ≡ b
      plain b = omega arith

  -- ---- the slot that is written

  in_use_of_key : (w : Writing) (head : RowVersion) → Fits w → ((written_slot w head key (area.slot at)).used ≡ true) × ((written_slot w head key (area.slot at)).key ≡ key)
  in_use_of_key OverHead head fits = (fits.0.0.1, fits.0.1)
  in_use_of_key HeadMoves head fits = (fits.0.0.1, fits.0.1)
  in_use_of_key (PreviousKept q) head fits = (fits.0.0.1, fits.0.1)
  in_use_of_key (HeadKept q) head fits = (fits.0.0.1, fits.0.1)
  in_use_of_key FirstVersion head fits = (refl, refl)

  pub now_in_use : (w : Writing) (head : RowVersion) → Fits w → (written_slot w head key (area.slot at)).used ≡ true
  now_in_use w head fits = (in_use_of_key w head fits).0

  pub of_the_key : (w : Writing) (head : RowVersion) → Fits w → (written_slot w head key (area.slot at)).key ≡ key
  of_the_key w head fits = (in_use_of_key w head fits).1

  pub has_head : (w : Writing) (head : RowVersion) → (written_slot w head key (area.slot at)).head ≡ head
  has_head OverHead head = refl
  has_head HeadMoves head = refl
  has_head (PreviousKept q) head = refl
  has_head (HeadKept q) head = refl
  has_head FirstVersion head = refl

  pub previous_below : (next : ℕ) (w : Writing) (head : RowVersion) → (IsUsedSlot area e at → ((area.slot at).head.0 < next) × PreviousBelow next (area.slot at).previous)
      → Fits w → PreviousBelow next (written_slot w head key (area.slot at)).previous
  previous_below next OverHead head below fits = (below fits.0.0).1
  previous_below next HeadMoves head below fits = (below fits.0.0).0
  previous_below next (PreviousKept q) head below fits = (below fits.0.0).0
  previous_below next (HeadKept q) head below fits = (below fits.0.0).1
  previous_below next FirstVersion head below fits = tt
