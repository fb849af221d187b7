-- A Revert: the chain of the key loses its head, and the area stays sound.
use Rattle.std.proofs.Common.{◌≡◌, ◌≢◌, ◌⊎◌, ⊎_elim, inl, inr, ℕ, ◌+◌, ◌<◌, ◌≤◌, suc, Bool, true, false, cond, List, [], ◌∷◌, ◌++◌, drop, Option, Some, None, refl, sym, ◌∙◌, ap, subst, arith}
use Rattle.std.proofs.lemmas.Bool.{false≢true, eq-eqb, eqb-true, ne_eqb}
use Rattle.std.specs.Prelude.{◌==◌, ◌&&◌, unwrap_or, is_some}
use Rattle.ctr_area.specs.Areas.{nowhere, RowVersion, Slot, Older, Area}
use Rattle.ctr_area.specs.Chains.{older_bound, places_along, if_any, chain_of, Leads}
use Rattle.ctr_area.specs.Images.{is_committed_in, versions_in}
use Rattle.ctr_area.specs.Sound.{IsAmong, AreAllOnce, xids_in, head_count, IsKeptFor, along, PreviousBelow, IsSoundArea}
use Rattle.ctr_area.specs.meta_Effects.{one_aborted_less}
use Rattle.ctr_area.specs.meta_Tables.{Tables, is_in}
use Rattle.ctr_record_laws.proofs.Along.{versions_at, ends_at, goes_on, more_along}
use Rattle.ctr_record_laws.proofs.Cleaned.{AreGood, cleaned_set, cleaned_was, IsFine, cleaned_sound, head_falls, committed_some}
use Rattle.ctr_record_laws.proofs.Heads.{never_both, listed_open, counted_by, counts_tell}
use Rattle.ctr_record_laws.proofs.Members.{bit}
use Rattle.ctr_record_laws.proofs.Room.{leads_to, bound_suc}
use Rattle.ctr_record_laws.proofs.Writes.{behind_pointer}
use Rattle.ctr_record_laws.proofs.Xids.{lowered, retold, aborted_less_same}
use Rattle.ctr_record_laws.specs.Bounds.{IsInBounds}
use Rattle.ctr_record_laws.specs.Owed.{Reverting, ToPrevious, ToKept, ToNothing, reverted_slot, FitsReverting, OwedByRevert, reverted_at, AgreeOnCommits}
use Rattle.ctr_area.specs.ctr_page.declared.rows.Place.{Place}
use Rattle.ctr_area.proofs.ctr_versions.Keys.{known}
use Rattle.ctr_area.specs.versions_Chains.{Numbers}
use Rattle.ctr_area.specs.versions_Changes.{revert}
use Rattle.ctr_area.specs.versions_Versions.{rows_of, RowsSet}

module _ (counted : ℕ) (tables : Tables) (area : Area) (e : ℕ) (at : Place) (way : Reverting) (bounds : IsInBounds area) (sound : IsSoundArea counted tables area)
    (owed : OwedByRevert tables area e at way) where
  abbrev was : Slot
  was = area.slot at

  abbrev committed_now : ℕ → Bool
  committed_now = is_committed_in tables

  abbrev left : Reverting → Slot
  left w = reverted_slot w area.older was

  abbrev Is : Place → Older → Type 0
  Is = IsKeptFor area e was.key

  was_leads : Leads older_bound area.older Is was.pointer
  was_leads = sound.pointers.lead e at owed.used

  first_step : was.pointer.page ≢ 0 → Is was.pointer (area.older was.pointer) × Leads bound_suc.0 area.older Is (area.older was.pointer).pointer
  first_step there = ⊎_elim (λ z. absurd (there z)) (λ more. more) (subst (λ m. Leads m area.older Is was.pointer) bound_suc.1 was_leads)

  -- the chain behind a pointer: its entry, and what that one leads to
  pointer_step : was.pointer.page ≢ 0 → behind_pointer area.older was.pointer ≡ (area.older was.pointer).version ∷ behind_pointer area.older (area.older was.pointer).pointer
  pointer_step there =
      ap (λ m. versions_at area.older (places_along m area.older was.pointer)) bound_suc.1 ∙ ap (versions_at area.older) (goes_on bound_suc.0 area.older was.pointer there)
      ∙ ap (λ ps. (area.older was.pointer).version ∷ versions_at area.older ps)
      (sym (more_along area.older Is bound_suc.0 (area.older was.pointer).pointer (first_step there).1) ∙ ap (λ m. places_along m area.older (area.older was.pointer).pointer) (sym bound_suc.1))

  keeps_key : (w : Reverting) → (left w).used ≡ true → (left w).key ≡ was.key
  keeps_key ToPrevious u = refl
  keeps_key ToKept u = refl
  keeps_key ToNothing u = absurd (false≢true u)

  -- the chain without its head
  abbrev rest : List RowVersion
  rest = drop 1 (chain_of area.older was)

  by_previous : (o : Option RowVersion) → was.previous ≡ o → is_some o ≡ true → chain_of area.older (left ToPrevious) ≡ rest
  by_previous None is some = absurd (false≢true some)
  by_previous (Some v) is some =
      ap (λ o. unwrap_or o was.head ∷ behind_pointer area.older was.pointer) is ∙ sym (ap (λ o. if_any o ++ behind_pointer area.older was.pointer) is)

  still_chain : (w : Reverting) → FitsReverting w was → (left w).used ≡ true → chain_of area.older (left w) ≡ rest
  still_chain ToPrevious fits u = by_previous was.previous refl fits
  still_chain ToKept fits u =
      ap (λ o. (area.older was.pointer).version ∷ (if_any o ++ behind_pointer area.older (area.older was.pointer).pointer)) fits.0
      ∙ sym (pointer_step fits.1) ∙ sym (ap (λ o. if_any o ++ behind_pointer area.older was.pointer) fits.0)
  still_chain ToNothing fits u = absurd (false≢true u)

  left_chain : (w : Reverting) → FitsReverting w was → cond (left w).used (chain_of area.older (left w)) [] ≡ rest
  left_chain ToPrevious fits = ap (λ b. cond b (chain_of area.older (left ToPrevious)) []) owed.used.1 ∙ still_chain ToPrevious fits owed.used.1
  left_chain ToKept fits = ap (λ b. cond b (chain_of area.older (left ToKept)) []) owed.used.1 ∙ still_chain ToKept fits owed.used.1
  left_chain ToNothing fits = sym (ap (λ o. if_any o ++ behind_pointer area.older was.pointer) fits.0 ∙ ap (versions_at area.older) (ends_at older_bound area.older was.pointer fits.1))

  head_open : committed_now was.head.0 ≡ false
  head_open = listed_open tables was.head.0 (inr owed.gone)

  pub revert_step : (number : Numbers) (test : ℕ → Bool) → AgreeOnCommits number tables
      → RowsSet (versions_in test area) (versions_in test (reverted_at at way area)) e was.key (revert number (rows_of (versions_in test area) e was.key))
  revert_step number test agrees = subst (RowsSet (versions_in test area) (versions_in test (reverted_at at way area)) e was.key)
      (left_chain way owed.fits ∙ sym (ap (λ b. cond b (chain_of area.older was) rest) (agrees was.head.0 ∙ head_open))
      ∙ ap (revert number) (sym (cleaned_was counted tables area e at (left way) bounds sound owed.used (keeps_key way) test)))
      (cleaned_set counted tables area e at (left way) bounds sound owed.used (keeps_key way) test)

  rest_good : AreGood committed_now rest
  rest_good = (sound.behind e at owed.used).1

  -- the new head is committed
  new_head : (left way).used ≡ true → committed_now (left way).head.0 ≡ true
  new_head u = (subst (AreGood committed_now) (sym (still_chain way owed.fits u)) rest_good).0

  left_below : (w : Reverting) → FitsReverting w was → (left w).used ≡ true → ((left w).head.0 < tables.next) × PreviousBelow tables.next (left w).previous
  left_below ToPrevious fits u = (by was.previous refl fits, tt)
    where
      by : (o : Option RowVersion) → was.previous ≡ o → is_some o ≡ true → (unwrap_or was.previous was.head).0 < tables.next
      by None is some = absurd (false≢true some)
      by (Some v) is some = subst (λ (o : Option RowVersion). (unwrap_or o was.head).0 < tables.next) (sym is) (subst (PreviousBelow tables.next) is (sound.below.slots e at owed.used).1)
  left_below ToKept fits u = (
    sound.below.older e was.pointer (first_step fits.1).0.0 (first_step fits.1).0.1,
    (sound.below.slots e at owed.used).1,
  )
  left_below ToNothing fits u = absurd (false≢true u)

  left_leads : (w : Reverting) → FitsReverting w was → Leads older_bound area.older Is (left w).pointer
  left_leads ToPrevious fits = was_leads
  left_leads ToKept fits = leads_to area.older Is older_bound bound_suc.0 (area.older was.pointer).pointer (subst (λ m. bound_suc.0 ≤ m) (sym bound_suc.1) (up bound_suc.0)) (first_step fits.1).1
    where
      up : (n : ℕ) → n ≤ suc n
      up n = omega arith
  left_leads ToNothing fits = leads_to area.older Is older_bound 0 nowhere (omega arith) refl

  left_along : (w : Reverting) → FitsReverting w was → (q : Place) → IsAmong q (places_along older_bound area.older (left w).pointer) → IsAmong q (along area at)
  left_along ToPrevious fits q in_ = in_
  left_along ToKept fits q in_ =
      subst (IsAmong q) (sym (ap (λ m. places_along m area.older was.pointer) bound_suc.1 ∙ goes_on bound_suc.0 area.older was.pointer fits.1))
      (inr (subst (IsAmong q) (ap (λ m. places_along m area.older (area.older was.pointer).pointer) bound_suc.1 ∙ more_along area.older Is bound_suc.0 (area.older was.pointer).pointer (first_step fits.1).1) in_))
  left_along ToNothing fits q in_ = absurd (subst (IsAmong q) (ends_at older_bound area.older nowhere refl) in_)

  fine : IsFine counted tables area e at (left way) bounds sound owed.used (keeps_key way)
  fine = record {
    whole = λ u. (committed_some tables (left way).head.0 (new_head u), subst (λ c. AreGood committed_now (drop 1 c)) (sym (still_chain way owed.fits u)) (drop_good rest rest_good));
    below = left_below way owed.fits;
    leads = λ u. left_leads way owed.fits;
    on_way = λ q u in_. left_along way owed.fits q in_;
  }
    where
      drop_good : (chain : List RowVersion) → AreGood committed_now chain → AreGood committed_now (drop 1 chain)
      drop_good [] all = tt
      drop_good (v ∷ vs) all = all.1

  abbrev Listed : ℕ → Type 0
  Listed y = (is_in y tables.opens ≡ true) ⊎ (is_in y tables.aborted ≡ true)

  no_head_of : (y : ℕ) → Listed y → ((left way).used && ((left way).head.0 == y)) ≡ false
  no_head_of y listed = known (left way).used
      (λ u. ap (λ b. b && ((left way).head.0 == y)) u ∙ ne_eqb (left way).head.0 y (λ is. false≢true (sym (listed_open tables y listed) ∙ ap committed_now (sym is) ∙ new_head u)))
      (λ free. ap (λ b. b && ((left way).head.0 == y)) free)

  falls : (y : ℕ) → Listed y → head_count (reverted_at at way area) y + bit (y == was.head.0) ≡ head_count area y
  falls y listed = head_falls counted tables area e at (left way) bounds sound owed.used (keeps_key way) y listed (no_head_of y listed)

  pub revert_sound : IsSoundArea counted (one_aborted_less was.head.0 tables) (reverted_at at way area)
  revert_sound = cleaned_sound counted tables area e at (left way) bounds sound owed.used (keeps_key way)
      (one_aborted_less was.head.0 tables) (aborted_less_same was.head.0 tables)
      (counted_by (one_aborted_less was.head.0 tables) (reverted_at at way area)
      (subst AreAllOnce (λ i. xids_in tables.opens ++ sym (aborted_less_same was.head.0 tables).aborted i) sound.below.once)
      (retold (head_count area) (head_count (reverted_at at way area)) tables.opens
      (λ y in_. zero_back (head_count (reverted_at at way area) y) (head_count area y)
      (ap (λ b. head_count (reverted_at at way area) y + bit b)
      (sym (ne_eqb y was.head.0 (λ is. never_both tables.next area tables sound.below was.head.0 (subst (λ y. is_in y tables.opens ≡ true) is in_) owed.gone))) ∙ falls y (inl in_)))
      (counts_tell tables area sound.counts).0)
      (lowered (head_count area) (head_count (reverted_at at way area)) was.head.0 tables.aborted owed.gone (counts_tell tables area sound.counts).1 (λ y in_. falls y (inr in_))))
      fine
    where
      zero_back : (a b : ℕ) → a + 0 ≡ b → b ≡ a
      zero_back a b is = omega (arith, is)

-- each slot has a way
pub revert_ways : (slot : Slot) → (way : Reverting) × FitsReverting way slot
revert_ways slot = by slot.previous refl
  where
    by : (o : Option RowVersion) → slot.previous ≡ o → (way : Reverting) × FitsReverting way slot
    by (Some v) is = (ToPrevious, ap (λ (o : Option RowVersion). is_some o) is)
    by None is = known (slot.pointer.page == 0) (λ z. (ToNothing, (is, eqb-true slot.pointer.page 0 z))) (λ nz. (ToKept, (is, λ z. false≢true (sym nz ∙ eq-eqb slot.pointer.page 0 z))))
