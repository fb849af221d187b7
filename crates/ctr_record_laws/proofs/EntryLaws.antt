-- A Trim of a version entry: a chain is cut behind it, or it is freed where no chain has it.
use Rattle.std.proofs.Common.{◌≡◌, ◌≢◌, ⊎_elim, ℕ, ◌<◌, ℤ, Bool, true, false, List, ◌++◌, refl, sym, ◌∙◌, ap, subst}
use Rattle.std.proofs.lemmas.Bool.{false≢true, eq-eqb, and_from, cases_lt}
use Rattle.std.specs.Cmp.{int_eq_equiv}
use Rattle.std.specs.FinMap.Entries.{find}
use Rattle.std.specs.Ordering.{int_cmp, int_eq}
use Rattle.std.specs.Prelude.{◌==◌}
use Rattle.ctr_area.specs.Areas.{nowhere, RowVersion, Slot, Older, free_older, Area}
use Rattle.ctr_area.specs.Chains.{older_bound, slot_places, older_places, chain_of}
use Rattle.ctr_area.specs.Changes.{with_older}
use Rattle.ctr_area.specs.Images.{is_committed_in, versions_in}
use Rattle.ctr_area.specs.Sound.{IsAmong, xids_in, IsUsedSlot, AreBehind, IsKeptFor, along, ArePointed, NumbersBelow, IsSoundArea}
use Rattle.ctr_area.specs.meta_Tables.{Tables}
use Rattle.ctr_record_laws.proofs.CutLaw.{away_chain, away_along, cut_leads, cut_along, cut_chain_all, cut_chain, first_among, out_leads}
use Rattle.ctr_record_laws.proofs.Gathering.{matches, is_match, match_used, match_key, found_here, same_found}
use Rattle.ctr_record_laws.proofs.Kept.{older_apart, older_here, behind_stays, kept_chains, kept_pointers}
use Rattle.ctr_record_laws.proofs.OneSlot.{place_cases}
use Rattle.ctr_record_laws.proofs.Owned.{slot_inside, one_table}
use Rattle.ctr_record_laws.proofs.Slots.{slots_here, slots_past, rows_sorted, chain_found, slot_was}
use Rattle.ctr_record_laws.specs.Bounds.{IsInBounds}
use Rattle.ctr_record_laws.specs.Owed.{OwedByKeep, OwedByCut, cut_at, IsInNoChain}
use Rattle.ctr_area.specs.ctr_page.declared.rows.Place.{Place}
use Rattle.ctr_area.specs.versions_Changes.{cut}
use Rattle.ctr_area.specs.versions_Versions.{rows_of, is_slot, RowsSet}

-- ---- one chain is another

module _ (test : ℕ → Bool) (area : Area) (q : Place) (k : Older) (e : ℕ) (at : Place) (inside : e < 32) (used : IsUsedSlot area e at)
    (alone : (b : Place) → IsAmong b (slot_places area e) → (area.slot b).used ≡ true → (area.slot b).key ≡ (area.slot at).key → b ≡ at)
    (others : (f : ℕ) (b : Place) → IsUsedSlot area f b → ((f ≡ e) × (b ≡ at) → ⊥) → chain_of (with_older q k area).older (area.slot b) ≡ chain_of area.older (area.slot b)) where
  abbrev after : Area
  after = with_older q k area

  abbrev key : ℤ
  key = (area.slot at).key

  other_key : (i : ℕ) (x : ℤ) (b : Place) → is_slot e key i x ≡ false → matches area.slot x b ≡ true → (i ≡ e) × (b ≡ at) → ⊥
  other_key i x b other hit both = false≢true (sym other ∙ and_from (i == e) (int_eq x key) (eq-eqb i e both.0)
      (ap (int_eq x) (ap (λ b. (area.slot b).key) (sym both.1) ∙ match_key area.slot x b hit) ∙ int_eq_equiv.refl x))

  rows_there : (i : ℕ) (x : ℤ) → is_slot e key i x ≡ false → i < 32 → rows_of (versions_in test after) i x ≡ rows_of (versions_in test area) i x
  rows_there i x other lt =
      ap (λ rows. chain_found (find int_cmp x rows)) (slots_here test after i lt)
      ∙ ap chain_found (same_found area.older after.older area.slot area.slot x (slot_places area i) (λ b in_. refl)
      (λ b in_ hit. others i b (in_, match_used area.slot x b hit) (other_key i x b other hit)))
      ∙ sym (ap (λ rows. chain_found (find int_cmp x rows)) (slots_here test area i lt))

  pub entry_set : RowsSet (versions_in test area) (versions_in test after) e key (chain_of after.older (area.slot at))
  entry_set = record {
    names = refl;
    sorted = rows_sorted test after;
    here = ap (λ rows. chain_found (find int_cmp key rows)) (slots_here test after e inside)
        ∙ ap chain_found (found_here after.older area.slot key (slot_places area e) at used.0 (is_match area.slot key at used.1 refl)
        (λ b in_ hit. alone b in_ (match_used area.slot key b hit) (match_key area.slot key b hit)));
    others = λ i x other. ⊎_elim (rows_there i x other)
        (λ le. ap (λ rows. chain_found (find int_cmp x rows)) (slots_past test after i le) ∙ sym (ap (λ rows. chain_found (find int_cmp x rows)) (slots_past test area i le)))
        (cases_lt i 32);
  }

-- ---- soundness, where an entry is changed

-- numbers stay below the next, where the entry's is, if it is used
pub entry_below : (next : ℕ) (xids : List ℕ) (area : Area) (q : Place) (k : Older) → (k.used ≡ true → (e : ℕ) → IsAmong q (older_places area e) → k.version.0 < next) → NumbersBelow next xids area → NumbersBelow next xids (with_older q k area)
entry_below next xids area q k drawn below = record {
  slots = below.slots;
  older = λ e p in_ used. place_cases p q
      (λ is. subst (λ (j : Older). j.version.0 < next) (sym (older_here area q k p is))
      (drawn (ap (λ (j : Older). j.used) (sym (older_here area q k p is)) ∙ used) e (subst (λ p. IsAmong p (older_places area e)) is in_)))
      (λ isnt. subst (λ (j : Older). j.version.0 < next) (sym (older_apart area q k p isnt)) (below.older e p in_ (ap (λ (j : Older). j.used) (sym (older_apart area q k p isnt)) ∙ used)));
  entries = below.entries;
  drawn = below.drawn;
  once = below.once;
}

-- the parts that speak of no version entry
pub entry_sound : (counted : ℕ) (tables : Tables) (area : Area) (q : Place) (k : Older) → IsSoundArea counted tables area → AreBehind (is_committed_in tables) (with_older q k area) → ArePointed (with_older q k area)
    → NumbersBelow tables.next (xids_in tables.opens ++ xids_in tables.aborted) (with_older q k area) → IsSoundArea counted tables (with_older q k area)
entry_sound counted tables area q k sound behind pointers below = record {
  readable = record { rows = sound.readable.rows; versions = sound.readable.versions };
  behind = behind;
  counts = sound.counts;
  owned = record { once = sound.owned.once; inside = sound.owned.inside; uncounted = sound.owned.uncounted; allocs = sound.owned.allocs; creates = sound.owned.creates; drops = sound.owned.drops };
  keys = record { once = sound.keys.once; bucket = sound.keys.bucket };
  pointers = pointers;
  names = sound.names;
  below = below;
}

-- ---- the cut

module _ (passes : ℕ → Bool) (counted : ℕ) (tables : Tables) (area : Area) (e : ℕ) (at q : Place) (bounds : IsInBounds area) (sound : IsSoundArea counted tables area) (owed : OwedByCut passes area e at q) where
  abbrev ending : Older
  ending = record (area.older q) { pointer = nowhere }

  abbrev was : Slot
  was = area.slot at

  on_way : IsAmong q (along area at)
  on_way = first_among area q ending passes (along area at) owed.first

  pub cut_step : (test : ℕ → Bool) → RowsSet (versions_in test area) (versions_in test (cut_at q area)) e was.key (cut passes (rows_of (versions_in test area) e was.key))
  cut_step test = subst (RowsSet (versions_in test area) (versions_in test (cut_at q area)) e was.key)
      (cut_chain area q ending refl refl passes was owed.head owed.previous owed.first
      ∙ ap (cut passes) (sym (slot_was test area e at was.key (slot_inside area bounds e at owed.used.0) owed.used.0 owed.used.1 refl no_other)))
      (entry_set test area q ending e at (slot_inside area bounds e at owed.used.0) owed.used no_other
      (λ f b used other. away_chain area q ending (area.slot b) (λ in_. other (both f b used (sound.pointers.apart f e b at q used owed.used in_ on_way)))))
    where
      no_other : (b : Place) → IsAmong b (slot_places area e) → (area.slot b).used ≡ true → (area.slot b).key ≡ was.key → b ≡ at
      no_other b in_ used same_ = sound.keys.once e b at (in_, used) owed.used same_

      both : (f : ℕ) (b : Place) → IsUsedSlot area f b → b ≡ at → (f ≡ e) × (b ≡ at)
      both f b used is = (one_table area bounds counted (xids_in tables.opens) tables.items sound.owned f e at (subst (λ b. IsAmong b (slot_places area f)) is used.0) owed.used.0, is)

pub cut_sound : (counted : ℕ) (tables : Tables) (area : Area) (q : Place) → IsSoundArea counted tables area → IsSoundArea counted tables (cut_at q area)
cut_sound counted tables area q sound = entry_sound counted tables area q ending sound
    (λ e b used. ((sound.behind e b used).0, cut_chain_all area q ending refl refl (λ (w : RowVersion). is_committed_in tables w.0 ≡ true) (area.slot b) (sound.behind e b used).1))
    (record {
      lead = λ e b used. cut_leads area q ending refl refl (IsKeptFor area e (area.slot b).key) (λ its. its) older_bound (area.slot b).pointer (sound.pointers.lead e b used);
      apart = λ e f a b r used_a used_b in_a in_b. sound.pointers.apart e f a b r used_a used_b
          (cut_along area q ending refl refl older_bound (area.slot a).pointer r in_a) (cut_along area q ending refl refl older_bound (area.slot b).pointer r in_b);
    })
    (entry_below tables.next (xids_in tables.opens ++ xids_in tables.aborted) area q ending (λ used e in_. sound.below.older e q in_ used) sound.below)
  where
    ending : Older
    ending = record (area.older q) { pointer = nowhere }

-- the entry isn't what it was
pub cut_changes : (passes : ℕ → Bool) (area : Area) (e : ℕ) (at q : Place) → OwedByCut passes area e at q → (cut_at q area).older q ≢ area.older q
cut_changes passes area e at q owed is = owed.some (ap (λ (o : Older). o.pointer.page) (sym is ∙ older_here area q (record (area.older q) { pointer = nowhere }) q refl))

-- ---- an entry is freed

module _ (area : Area) (q : Place) (none : IsInNoChain area q) where
  abbrev freed : Area
  freed = with_older q free_older area

  pub freed_chains : (e : ℕ) (b : Place) → IsUsedSlot area e b → chain_of freed.older (area.slot b) ≡ chain_of area.older (area.slot b)
  freed_chains e b used = away_chain area q free_older (area.slot b) (none e b used)

  freed_along : (e : ℕ) (b r : Place) → IsUsedSlot area e b → IsAmong r (along freed b) → IsAmong r (along area b)
  freed_along e b r used in_ = subst (IsAmong r) (away_along area q free_older (area.slot b) (none e b used)) in_

  pub freed_sound : (counted : ℕ) (tables : Tables) → IsSoundArea counted tables area → IsSoundArea counted tables freed
  freed_sound counted tables sound = entry_sound counted tables area q free_older sound
      (behind_stays area q free_older freed_chains (is_committed_in tables) sound.behind)
      (record {
        lead = λ e b used. out_leads area q free_older (IsKeptFor area e (area.slot b).key) (area.slot b).pointer (none e b used) (sound.pointers.lead e b used);
        apart = λ e f a b r used_a used_b in_a in_b. sound.pointers.apart e f a b r used_a used_b (freed_along e a r used_a in_a) (freed_along f b r used_b in_b);
      })
      (entry_below tables.next (xids_in tables.opens ++ xids_in tables.aborted) area q free_older (λ used e in_. absurd (false≢true used)) sound.below)

-- ---- a Keep

pub keep_sound : (counted : ℕ) (tables : Tables) (area : Area) (e : ℕ) (at : Place) (k : Older) → IsSoundArea counted tables area → OwedByKeep tables area e at k → IsSoundArea counted tables (with_older at k area)
keep_sound counted tables area e at k sound owed = entry_sound counted tables area at k sound
    (behind_stays area at k (kept_chains area at k owed.free sound.pointers) (is_committed_in tables) sound.behind)
    (kept_pointers area at k owed.free sound.pointers)
    (entry_below tables.next (xids_in tables.opens ++ xids_in tables.aborted) area at k (λ used f in_. owed.drawn) sound.below)
