-- A Trim of a slot: its chain is cut, or goes with its tombstone, and the area stays sound.
use Rattle.std.proofs.Common.{◌≡◌, ◌≢◌, ◌⊎◌, inl, inr, ℕ, ◌<◌, Bool, true, false, cond, List, [], ◌∷◌, ◌++◌, drop, Some, None, refl, sym, ◌∙◌, ap, subst, arith}
use Rattle.std.proofs.lemmas.Bool.{false≢true, ne_eqb}
use Rattle.std.specs.Prelude.{◌==◌, ◌&&◌, is_some}
use Rattle.ctr_area.specs.Areas.{nowhere, RowVersion, Slot, Older, Area}
use Rattle.ctr_area.specs.Chains.{older_bound, places_along, if_any, chain_of, Leads}
use Rattle.ctr_area.specs.Images.{is_committed_in, versions_in}
use Rattle.ctr_area.specs.Sound.{IsAmong, head_count, IsKeptFor, PreviousBelow, IsSoundArea}
use Rattle.ctr_area.specs.meta_Tables.{Tables, is_in}
use Rattle.ctr_record_laws.proofs.Along.{ends_at}
use Rattle.ctr_record_laws.proofs.Cleaned.{AreGood, cleaned_set, cleaned_was, IsFine, cleaned_sound, head_stays}
use Rattle.ctr_record_laws.proofs.Heads.{listed_open, counted_by, counts_tell}
use Rattle.ctr_record_laws.proofs.Room.{leads_to}
use Rattle.ctr_record_laws.proofs.Writes.{behind_pointer, nothing_behind}
use Rattle.ctr_record_laws.proofs.Xids.{retold}
use Rattle.ctr_record_laws.specs.Bounds.{IsInBounds}
use Rattle.ctr_record_laws.specs.Owed.{Trimming, CutHead, CutPrevious, FreeTombstone, trimmed_slot, trimmed_chain, FitsTrimming, IsCut, OwedByTrim, trimmed_at}
use Rattle.ctr_area.specs.ctr_page.declared.rows.Place.{Place}
use Rattle.ctr_area.specs.versions_Changes.{cut, without_tombstone}
use Rattle.ctr_area.specs.versions_Versions.{rows_of, RowsSet}

module _ (passes : ℕ → Bool) (counted : ℕ) (tables : Tables) (area : Area) (e : ℕ) (at : Place) (way : Trimming) (bounds : IsInBounds area) (sound : IsSoundArea counted tables area)
    (owed : OwedByTrim passes tables area e at way) where
  abbrev was : Slot
  was = area.slot at

  abbrev committed : ℕ → Bool
  committed = is_committed_in tables

  abbrev left : Trimming → Slot
  left w = trimmed_slot w was

  abbrev Is : Place → Older → Type 0
  Is = IsKeptFor area e was.key

  keeps_key : (w : Trimming) → (left w).used ≡ true → (left w).key ≡ was.key
  keeps_key CutHead u = refl
  keeps_key CutPrevious u = refl
  keeps_key FreeTombstone u = absurd (false≢true u)

  abbrev chain : List RowVersion
  chain = chain_of area.older was

  -- behind the head
  abbrev rest : List RowVersion
  rest = drop 1 chain

  still : (w : Trimming) (new : List RowVersion) → (left w).used ≡ true → chain_of area.older (left w) ≡ new → cond (left w).used (chain_of area.older (left w)) [] ≡ new
  still w new used same_ = ap (λ b. cond b (chain_of area.older (left w)) []) used ∙ same_

  cut_head : passes was.head.0 ≡ true → chain_of area.older (left CutHead) ≡ cut passes chain
  cut_head is = ap (λ vs. was.head ∷ vs) (nothing_behind area.older) ∙ sym (ap (λ b. cond b (was.head ∷ []) (was.head ∷ cut passes rest)) is)

  cut_previous : (v : RowVersion) → passes was.head.0 ≡ false → was.previous ≡ Some v → passes v.0 ≡ true → chain_of area.older (left CutPrevious) ≡ cut passes chain
  cut_previous v head some is =
      ap (λ vs. was.head ∷ vs)
      ((λ i. if_any (some i) ++ nothing_behind area.older i)
      ∙ sym (ap (λ o. cut passes (if_any o ++ behind_pointer area.older was.pointer)) some ∙ ap (λ b. cond b (v ∷ []) (v ∷ cut passes (behind_pointer area.older was.pointer))) is))
      ∙ sym (ap (λ b. cond b (was.head ∷ []) (was.head ∷ cut passes rest)) head)

  freed : (x : ℕ) → was.head ≡ (x, None) → passes x ≡ true → [] ≡ without_tombstone passes chain
  freed x is old = sym (ap (λ h. without_tombstone passes (h ∷ rest)) is ∙ ap (λ b. cond b [] ((x, None) ∷ rest)) old)

  left_chain : (w : Trimming) → FitsTrimming w passes was → cond (left w).used (chain_of area.older (left w)) [] ≡ trimmed_chain w passes chain
  left_chain CutHead fits = still CutHead (cut passes chain) owed.used.1 (cut_head fits)
  left_chain CutPrevious fits = still CutPrevious (cut passes chain) owed.used.1 (cut_previous fits.1.0 fits.0 fits.1.1 fits.1.2)
  left_chain FreeTombstone fits = freed was.head.0 (λ i. (was.head.0, fits.1 i)) fits.0

  pub trim_step : (test : ℕ → Bool) → RowsSet (versions_in test area) (versions_in test (trimmed_at at way area)) e was.key (trimmed_chain way passes (rows_of (versions_in test area) e was.key))
  trim_step test = subst (RowsSet (versions_in test area) (versions_in test (trimmed_at at way area)) e was.key)
      (left_chain way owed.fits ∙ ap (trimmed_chain way passes) (sym (cleaned_was counted tables area e at (left way) bounds sound owed.used (keeps_key way) test)))
      (cleaned_set counted tables area e at (left way) bounds sound owed.used (keeps_key way) test)

  -- ---- soundness

  cut_good : (vs : List RowVersion) → AreGood committed vs → AreGood committed (cut passes vs)
  cut_good [] all = tt
  cut_good (v ∷ vs) all =
      let rest_good = cut_good vs all.1 in
      elim (passes v.0) as (λ b. AreGood committed (cond b (v ∷ []) (v ∷ cut passes vs))) [ true ↦ (all.0, tt) | false ↦ (all.0, rest_good) ]

  cut_behind : (h : RowVersion) (vs : List RowVersion) → AreGood committed vs → AreGood committed (drop 1 (cut passes (h ∷ vs)))
  cut_behind h vs all =
      let good = cut_good vs all in
      elim (passes h.0) as (λ b. AreGood committed (drop 1 (cond b (h ∷ []) (h ∷ cut passes vs)))) [ true ↦ tt | false ↦ good ]

  left_whole : (w : Trimming) → FitsTrimming w passes was → (left w).used ≡ true → (0 < (left w).head.0) × AreGood committed (drop 1 (chain_of area.older (left w)))
  left_whole CutHead fits u =
      ((sound.behind e at owed.used).0, subst (λ c. AreGood committed (drop 1 c)) (sym (cut_head fits)) (cut_behind was.head rest (sound.behind e at owed.used).1))
  left_whole CutPrevious fits u =
      ((sound.behind e at owed.used).0, subst (λ c. AreGood committed (drop 1 c)) (sym (cut_previous fits.1.0 fits.0 fits.1.1 fits.1.2)) (cut_behind was.head rest (sound.behind e at owed.used).1))
  left_whole FreeTombstone fits u = absurd (false≢true u)

  left_below : (w : Trimming) → (left w).used ≡ true → ((left w).head.0 < tables.next) × PreviousBelow tables.next (left w).previous
  left_below CutHead u = ((sound.below.slots e at owed.used).0, tt)
  left_below CutPrevious u = sound.below.slots e at owed.used
  left_below FreeTombstone u = absurd (false≢true u)

  nowhere_to : (w : Trimming) → (left w).pointer ≡ nowhere
  nowhere_to CutHead = refl
  nowhere_to CutPrevious = refl
  nowhere_to FreeTombstone = refl

  fine : IsFine counted tables area e at (left way) bounds sound owed.used (keeps_key way)
  fine = record {
    whole = left_whole way owed.fits;
    below = left_below way;
    leads = λ u. subst (Leads older_bound area.older Is) (sym (nowhere_to way)) (leads_to area.older Is older_bound 0 nowhere (omega arith) refl);
    on_way = λ q u in_. absurd (subst (IsAmong q) (ap (places_along older_bound area.older) (nowhere_to way) ∙ ends_at older_bound area.older nowhere refl) in_);
  }

  abbrev Listed : ℕ → Type 0
  Listed y = (is_in y tables.opens ≡ true) ⊎ (is_in y tables.aborted ≡ true)

  same_head : (w : Trimming) → FitsTrimming w passes was → (y : ℕ) → Listed y → (was.head.0 == y) ≡ ((left w).used && ((left w).head.0 == y))
  same_head CutHead fits y listed = sym (ap (λ b. b && (was.head.0 == y)) owed.used.1)
  same_head CutPrevious fits y listed = sym (ap (λ b. b && (was.head.0 == y)) owed.used.1)
  same_head FreeTombstone fits y listed = ne_eqb was.head.0 y (λ is. false≢true (sym (listed_open tables y listed) ∙ ap committed (sym is) ∙ owed.old was.head.0 fits.0))

  stays : (y : ℕ) → Listed y → head_count area y ≡ head_count (trimmed_at at way area) y
  stays y listed = head_stays counted tables area e at (left way) bounds sound owed.used (keeps_key way) y (same_head way owed.fits y listed)

  pub trim_sound : IsSoundArea counted tables (trimmed_at at way area)
  trim_sound = cleaned_sound counted tables area e at (left way) bounds sound owed.used (keeps_key way) tables (record { next = refl; opens = refl; aborted = refl; items = refl })
      (counted_by tables (trimmed_at at way area) sound.below.once
      (retold (head_count area) (head_count (trimmed_at at way area)) tables.opens (λ y in_. stays y (inl in_)) (counts_tell tables area sound.counts).0)
      (retold (head_count area) (head_count (trimmed_at at way area)) tables.aborted (λ y in_. stays y (inr in_)) (counts_tell tables area sound.counts).1))
      fine

-- the slot isn't what it was
pub other_slot : (s : Slot) (w : Trimming) → s.used ≡ true → IsCut w s → trimmed_slot w s ≢ s
other_slot s CutHead used (inl some) is = false≢true (ap (λ (t : Slot). is_some t.previous) is ∙ some)
other_slot s CutHead used (inr some) is = some (ap (λ (t : Slot). t.pointer.page) (sym is))
other_slot s CutPrevious used some is = some (ap (λ (t : Slot). t.pointer.page) (sym is))
other_slot s FreeTombstone used some is = false≢true (ap (λ (t : Slot). t.used) is ∙ used)
