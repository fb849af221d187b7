-- What leaves a used version entry as it is, which no chain has.
use Rattle.std.proofs.Common.{◌≡◌, ◌≢◌, ⊎_elim, inl, ℕ, ℤ, Bool, true, refl, sym, ◌∙◌, ap, subst}
use Rattle.std.proofs.lemmas.Bool.{false≢true}
use Rattle.ctr_area.specs.Areas.{nowhere, Title, RowVersion, Slot, Older, free_older, Area}
use Rattle.ctr_area.specs.Chains.{older_bound, older_places, places_along}
use Rattle.ctr_area.specs.Changes.{with_slot, with_older, with_title, with_taken}
use Rattle.ctr_area.specs.Images.{is_committed_in}
use Rattle.ctr_area.specs.Sound.{IsAmong, IsUsedSlot, IsKeptFor, along, IsSoundArea}
use Rattle.ctr_area.specs.meta_Tables.{Tables}
use Rattle.ctr_record_laws.proofs.Along.{ends_at, goes_on}
use Rattle.ctr_record_laws.proofs.CutLaw.{away_along}
use Rattle.ctr_record_laws.proofs.Kept.{older_apart, kept_along}
use Rattle.ctr_record_laws.proofs.Room.{bound_suc}
use Rattle.ctr_record_laws.specs.Owed.{OwedByKeep, older_copy, IsSpareCopy, Reverting, ToPrevious, ToKept, ToNothing, reverted_slot, FitsReverting, OwedByRevert, reverted_at, Writing, OverHead, HeadMoves, PreviousKept, HeadKept, FirstVersion, written_slot, RowMove, slot_by, row_moved, FitsWriting, OwedByRow, Trimming, trimmed_slot, trimmed_at, OwedByCut, cut_at, IsInNoChain}
use Rattle.ctr_area.specs.ctr_page.declared.rows.Place.{Place}
use Rattle.ctr_record_laws.proofs.Loosened.{slot_unlinked, trimmed_out, on_way, cut_stays_out}
use Rattle.ctr_record_laws.proofs.Ways.{some_step, fewer_along, behind_along}
use Rattle.ctr_record_laws.specs.Loose.{IsLoose, Links, IsSpareFor}

-- ---- a spare copy is such an entry

pub copy_loose : (area : Area) (e : ℕ) (slot : Slot) (version : RowVersion) (q : Place) → IsSpareCopy area e slot version q → IsLoose area e q (older_copy slot version)
copy_loose area e slot version q copy = record { here = copy.here; content = copy.copy; used = refl; unlinked = copy.unlinked }

pub loose_copy : (area : Area) (e : ℕ) (slot : Slot) (version : RowVersion) (q : Place) → IsLoose area e q (older_copy slot version) → IsSpareCopy area e slot version q
loose_copy area e slot version q loose = record { here = loose.here; copy = loose.content; unlinked = loose.unlinked }

module _ (area : Area) (e : ℕ) (q : Place) (it : Older) (loose : IsLoose area e q it) where
  -- ---- a slot is changed

  -- the new slot doesn't lead to it
  slot_stays : (at : Place) (s : Slot) → (s.used ≡ true → IsAmong q (places_along older_bound area.older s.pointer) → ⊥) → IsLoose (with_slot at s area) e q it
  slot_stays at s itself = record {
    here = loose.here;
    content = loose.content;
    used = loose.used;
    unlinked = slot_unlinked area at s q (λ f b apart used. loose.unlinked f b used) itself;
  }

  -- a Row
  module _ (committed : ℕ → Bool) (f : ℕ) (key : ℤ) (at : Place) (head : RowVersion) where
    abbrev old : Slot
    old = area.slot at

    -- what is behind the link is the slot's chain of before
    linked_out : (p : Place) (version : RowVersion) → (p ≡ q → ⊥) → IsUsedSlot area f at → IsSpareCopy area f old version p → IsAmong q (places_along older_bound area.older p) → ⊥
    linked_out p version apart used copy in_ = ⊎_elim (λ here. apart (sym here))
        (λ later. loose.unlinked f at used (subst (λ m. IsAmong q (places_along m area.older old.pointer)) (sym bound_suc.1)
        (fewer_along area.older bound_suc.0 old.pointer q (subst (λ (j : Older). IsAmong q (places_along bound_suc.0 area.older j.pointer)) copy.copy later))))
        (subst (IsAmong q) (ap (λ m. places_along m area.older p) bound_suc.1 ∙ goes_on bound_suc.0 area.older p (some_step area.older older_bound p q in_)) in_)

    row_out : (w : Writing) → FitsWriting w committed area f key at → (Links w q → ⊥) → IsAmong q (places_along older_bound area.older (written_slot w head key old).pointer) → ⊥
    row_out OverHead fits unlinks in_ = loose.unlinked f at fits.0.0 in_
    row_out HeadMoves fits unlinks in_ = loose.unlinked f at fits.0.0 in_
    row_out (PreviousKept p) fits unlinks in_ = linked_out p fits.2.0 unlinks fits.0.0 fits.2.2 in_
    row_out (HeadKept p) fits unlinks in_ = linked_out p old.head unlinks fits.0.0 fits.3 in_
    row_out FirstVersion fits unlinks in_ = subst (IsAmong q) (ends_at older_bound area.older nowhere refl) in_

  pub row_stays : (tables : Tables) (m : RowMove) → OwedByRow tables area m → (Links m.writing q → ⊥) → IsLoose (row_moved m area) e q it
  row_stays tables m owed unlinks = slot_stays m.at (slot_by m area)
      (λ u. row_out (is_committed_in tables) m.entry m.key m.at (m.xid, m.row) m.writing owed.fits unlinks)

  -- a Revert
  pub revert_stays : (counted : ℕ) (tables : Tables) (f : ℕ) (b : Place) (way : Reverting) → IsSoundArea counted tables area → OwedByRevert tables area f b way → IsLoose (reverted_at b way area) e q it
  revert_stays counted tables f b way sound owed = slot_stays b (reverted_slot way area.older was) (λ u. out way owed.fits)
    where
      was : Slot
      was = area.slot b

      out : (w : Reverting) → FitsReverting w was → IsAmong q (places_along older_bound area.older (reverted_slot w area.older was).pointer) → ⊥
      out ToPrevious fits in_ = loose.unlinked f b owed.used in_
      out ToKept fits in_ = loose.unlinked f b owed.used (behind_along area.older (IsKeptFor area f was.key) older_bound was.pointer was.pointer q (sound.pointers.lead f b owed.used)
          (subst (IsAmong was.pointer) (sym (ap (λ m. places_along m area.older was.pointer) bound_suc.1 ∙ goes_on bound_suc.0 area.older was.pointer fits.1)) (inl refl)) in_)
      out ToNothing fits in_ = subst (IsAmong q) (ends_at older_bound area.older nowhere refl) in_

  -- a Trim of a slot
  pub trim_stays : (b : Place) (way : Trimming) → IsLoose (trimmed_at b way area) e q it
  trim_stays b way = slot_stays b (trimmed_slot way (area.slot b)) (λ u. trimmed_out area b way q)

  -- ---- another entry is changed

  entry_stays : (p : Place) (k : Older) → (q ≡ p → ⊥) → IsInNoChain (with_older p k area) q → IsLoose (with_older p k area) e q it
  entry_stays p k apart none = record { here = loose.here; content = older_apart area p k q apart ∙ loose.content; used = loose.used; unlinked = none }

  -- a Keep
  pub keep_stays : (counted : ℕ) (tables : Tables) (f : ℕ) (p : Place) (k : Older) → IsSoundArea counted tables area → OwedByKeep tables area f p k → IsLoose (with_older p k area) e q it
  keep_stays counted tables g p k sound owed = entry_stays p k
      (λ is. false≢true (sym owed.free ∙ ap (λ p. (area.older p).used) (sym is) ∙ ap (λ (j : Older). j.used) loose.content ∙ loose.used))
      (λ f b used in_. loose.unlinked f b used (subst (IsAmong q) (kept_along area p k owed.free sound.pointers f b used) in_))

  -- a cut
  pub cut_stays : (passes : ℕ → Bool) (f : ℕ) (b p : Place) → OwedByCut passes area f b p → IsLoose (cut_at p area) e q it
  cut_stays passes f b p owed = entry_stays p (record (area.older p) { pointer = nowhere })
      (λ is. loose.unlinked f b owed.used (subst (λ p. IsAmong p (along area b)) (sym is) (on_way passes area f b p owed)))
      (cut_stays_out passes area f b p owed q loose.unlinked)

  -- an entry is freed that no chain has
  pub freed_stays : (p : Place) → IsInNoChain area p → p ≢ q → IsLoose (with_older p free_older area) e q it
  freed_stays p none apart = entry_stays p free_older (λ is. apart (sym is))
      (λ f b used in_. loose.unlinked f b used (subst (IsAmong q) (away_along area p free_older (area.slot b) (none f b used)) in_))

  -- ---- neither slots, version entries nor pages are changed

  plain_stays : (new : Area) → new.older q ≡ area.older q → (IsAmong q (older_places area e) → IsAmong q (older_places new e)) → (IsInNoChain area q → IsInNoChain new q) → IsLoose new e q it
  plain_stays new same_ here none = record { here = here loose.here; content = same_ ∙ loose.content; used = loose.used; unlinked = none loose.unlinked }

  -- an Alloc, a Free
  pub taken_loose : (p : ℕ) (taken : Bool) → IsLoose (with_taken p taken area) e q it
  taken_loose p taken = plain_stays (with_taken p taken area) refl (λ in_. in_) (λ none. none)

  -- another title
  pub title_loose : (f : ℕ) (title : Title) → IsLoose (with_title f title area) e q it
  title_loose f title = plain_stays (with_title f title area) refl (λ in_. in_) (λ none. none)

-- ---- what stands in the slot is what it was

-- a spare copy, from one area to another
pub spare_stays : (old new : Area) (e : ℕ) (at : Place) (version : RowVersion) (q : Place) → new.slot at ≡ old.slot at
    → (IsLoose old e q (older_copy (old.slot at) version) → IsLoose new e q (older_copy (old.slot at) version)) → IsSpareFor old e at version q → IsSpareFor new e at version q
spare_stays old new e at version q same_ stays copy = subst (λ (s : Slot). IsSpareCopy new e s version q) (sym same_)
    (loose_copy new e (old.slot at) version q (stays (copy_loose old e (old.slot at) version q copy)))
