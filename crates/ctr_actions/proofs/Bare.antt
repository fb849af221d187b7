-- A site in which the cleaner has nothing to do is bare.
use Rattle.std.proofs.Common.{◌≡◌, ◌≢◌, ◌⊎◌, ⊎_elim, inl, inr, ℕ, zero, suc, ◌+◌, ◌<◌, ◌≤◌, Bool, true, false, cond, List, [], ◌∷◌, ◌++◌, length, slice_index, Option, Some, None, refl, sym, ◌∙◌, ap, subst, arith}
use Rattle.std.proofs.lemmas.Bool.{false≢true, eqb-true, eq-eqb, cases_lt, and_parts}
use Rattle.std.specs.List.{flat_map, AllByRecursion}
use Rattle.std.specs.Prelude.{◌==◌, is_some, map}
use Rattle.ctr_record_laws.proofs.area_Buckets.{nothing_from_0}
use Rattle.ctr_record_laws.specs.area_Areas.{Title, Firsts, Slot, RowVersion, Area, no_pages}
use Rattle.ctr_record_laws.specs.area_Chains.{older_bound, places_from, slot_places, older_places, if_any, chain_of}
use Rattle.ctr_record_laws.specs.area_Changes.{with_title, with_firsts, ChangesEntry}
use Rattle.ctr_record_laws.specs.area_Images.{is_committed_in, is_live, entry_numbers}
use Rattle.ctr_record_laws.specs.area_Sound.{IsAmong, how_many, IsUsedSlot, is_headed_by, head_count, along, IsBare}
use Rattle.ctr_record_laws.proofs.meta_XidLaws.{in_head}
use Rattle.ctr_record_laws.specs.meta_Tables.{is_in, heads_in}
use Rattle.ctr_record_laws.specs.page_Place.{Place}
use Rattle.ctr_record_laws.proofs.Along.{ends_at}
use Rattle.ctr_record_laws.proofs.Elsewhere.{no_places}
use Rattle.ctr_record_laws.proofs.Heads.{counts_tell, open_listed}
use Rattle.ctr_record_laws.proofs.Members.{among_flat}
use Rattle.ctr_record_laws.proofs.RevertLaw.{revert_ways}
use Rattle.ctr_record_laws.proofs.Xids.{looked_up}
use Rattle.ctr_record_laws.specs.Bounds.{no_title, IsInBounds}
use Rattle.ctr_record_laws.specs.Owed.{PassCommitted, first_page, CutHead, FreeTombstone}
use Rattle.ctr_record_laws.proofs.versions_Keys.{known}
use Rattle.ctr_actions.specs.Sites.{Site, IsSoundSite}
use Rattle.ctr_actions.specs.Actions.{Reverts, Trims, FreesOlder, Unlinks, UnlinksOlder, FreesEntry, Forgets}
use Rattle.ctr_actions.specs.Cleaning.{HasNothingToClean}

-- where some pass there is one that does
some_one : {A : Type 0} (test : A → Bool) (xs : List A) → 0 < how_many test xs → (x : A) × IsAmong x xs × (test x ≡ true)
some_one test [] lt = absurd (none lt)
  where
    none : 0 < 0 → ⊥
    none lt = omega (arith, lt)
some_one test (x ∷ xs) lt = known (test x)
    (λ is. (x, inl refl, is))
    (λ isnt. let found = some_one test xs (further (how_many test xs) (cond (test x) 1 0) (ap (λ b. cond b 1 0) isnt) lt) in (found.0, inr found.1, found.2))
  where
    further : (n m : ℕ) → m ≡ 0 → 0 < m + n → 0 < n
    further n m is lt = omega (arith, is, lt)

-- a list of which each member is 0
all_zero : (ps : List ℕ) → ((b : ℕ) → b < length ps → slice_index ps b ≡ 0) → AllByRecursion (λ p. p ≡ 0) ps
all_zero [] all = tt
all_zero (p ∷ ps) all = (all 0 (some (length ps)), all_zero ps (λ b lt. all (suc b) (later b (length ps) lt)))
  where
    some : (n : ℕ) → 0 < suc n
    some n = omega arith

    later : (b n : ℕ) → b < n → suc b < suc n
    later b n lt = omega (arith, lt)

above_or_zero : (n : ℕ) → (n ≡ 0) ⊎ (0 < n)
above_or_zero zero = inl refl
above_or_zero (suc n) = inr (omega arith)

module _ (passes : ℕ → Bool) (s : Site) (bounds : IsInBounds s.area) (sound : IsSoundSite s) (alone : s.tables.opens ≡ []) (old : PassCommitted passes s.tables)
    (seen : (x : ℕ) → is_committed_in s.tables x ≡ true → passes x ≡ true) (said : (e : ℕ) → (s.area.title e).state ≤ 2) (nothing : HasNothingToClean passes s) where
  abbrev committed : ℕ → Bool
  committed = is_committed_in s.tables

  nobody_open : (y : ℕ) → is_in y s.tables.opens ≡ true → ⊥
  nobody_open y open_ = false≢true (subst (λ ps. is_in y ps ≡ true) alone open_)

  not_reverted : (e : ℕ) (at : Place) → IsUsedSlot s.area e at → is_in (s.area.slot at).head.0 s.tables.aborted ≡ true → ⊥
  not_reverted e at used gone =
      let way = revert_ways (s.area.slot at) in
      nothing (Reverts e at way.0) tt (record { used = used; gone = gone; fits = way.1 })

  -- ---- slots

  head_committed : (e : ℕ) (at : Place) → IsUsedSlot s.area e at → committed (s.area.slot at).head.0 ≡ true
  head_committed e at used = known (committed (s.area.slot at).head.0) (λ is. is)
      (λ isnt. absurd (⊎_elim (nobody_open (s.area.slot at).head.0) (not_reverted e at used)
      (open_listed s.tables (s.area.slot at).head.0 (sound.behind e at used).0 (sound.below.slots e at used).0 isnt)))

  head_seen : (e : ℕ) (at : Place) → IsUsedSlot s.area e at → passes (s.area.slot at).head.0 ≡ true
  head_seen e at used = seen (s.area.slot at).head.0 (head_committed e at used)

  module _ (e : ℕ) (at : Place) (live : is_live (s.area.title e) ≡ true) (used : IsUsedSlot s.area e at) where
    abbrev was : Slot
    was = s.area.slot at

    no_tombstone : was.head.1 ≡ None → ⊥
    no_tombstone is = nothing (Trims passes e at FreeTombstone) (refl, live) (record { used = used; old = old; fits = (head_seen e at used, is); some = tt })

    not_cut : (is_some was.previous ≡ true) ⊎ (was.pointer.page ≢ 0) → ⊥
    not_cut some = nothing (Trims passes e at CutHead) (refl, live) (record { used = used; old = old; fits = head_seen e at used; some = some })

    no_previous : (o : Option RowVersion) → was.previous ≡ o → o ≡ None
    no_previous None is = refl
    no_previous (Some v) is = absurd (not_cut (inl (ap (λ (o : Option RowVersion). is_some o) is)))

    pub no_pointer : was.pointer.page ≡ 0
    no_pointer = known (was.pointer.page == 0) (λ is. eqb-true was.pointer.page 0 is) (λ isnt. absurd (not_cut (inr (λ is. false≢true (sym isnt ∙ eq-eqb was.pointer.page 0 is)))))

    pub nothing_along : along s.area at ≡ []
    nothing_along = ends_at older_bound s.area.older was.pointer no_pointer

    pub one_version : length (chain_of s.area.older was) ≡ 1
    one_version = λ i. length (was.head ∷ (if_any (no_previous was.previous refl i) ++ map (λ at. (s.area.older at).version) (nothing_along i)))

  -- ---- dead entries

  module _ (e : ℕ) (dead : (s.area.title e).state ≡ 2) where
    inside : e < 32
    inside = ⊎_elim (λ lt. lt) (λ le. absurd (other (s.area.title e).state dead (ap (λ (t : Title). t.state) (bounds.titles e le)))) (cases_lt e 32)
      where
        other : (n : ℕ) → n ≡ 2 → n ≡ 0 → ⊥
        other n two none = omega (arith, two, none)

    not_live : is_live (s.area.title e) ≡ false
    not_live = ap (λ n. n == 1) dead

    no_first : (b : ℕ) → b < length (s.area.firsts e).buckets → first_page s.area e b ≡ 0
    no_first b there = ⊎_elim (λ is. is)
        (λ some. absurd (nothing (Unlinks (first_page s.area e b) e b) dead (record { dead = not_live; there = there; first = refl; some = some; heads = λ at used here. head_committed e at used })))
        (above_or_zero (first_page s.area e b))

    no_rows : AllByRecursion (λ p. p ≡ 0) (s.area.firsts e).buckets
    no_rows = all_zero (s.area.firsts e).buckets no_first

    no_slot : (at : Place) → IsUsedSlot s.area e at → ⊥
    no_slot at used = no_places s.area (s.area.firsts e).buckets at no_rows used.0

    no_versions : (s.area.firsts e).versions ≡ 0
    no_versions = ⊎_elim (λ is. is)
        (λ some. absurd (nothing (UnlinksOlder (s.area.firsts e).versions e) dead (record { first = refl; some = some; none = no_slot })))
        (above_or_zero (s.area.firsts e).versions)

    abbrev freed : Area
    freed = with_title e no_title (with_firsts e no_pages s.area)

    changes : ChangesEntry e no_title no_pages s.area freed
    changes = record {
      titles = λ f. refl;
      firsts = λ f. refl;
      taken = λ p. refl;
      headers = λ p. refl;
      rooms = λ p apart. refl;
      slots = λ at apart. refl;
      older = λ at apart. refl;
    }

    pub not_dead : ⊥
    not_dead = nothing (FreesEntry e no_title freed) tt (record { inside = inside; dead = dead; no_rows = no_rows; no_versions = no_versions }, refl, changes)

  -- ---- version entries

  -- who has pages is a live entry
  live_or_none : (e : ℕ) → (is_live (s.area.title e) ≡ true) ⊎ (s.area.firsts e ≡ no_pages)
  live_or_none e = by (s.area.title e).state refl (said e)
    where
      by : (n : ℕ) → (s.area.title e).state ≡ n → n ≤ 2 → (is_live (s.area.title e) ≡ true) ⊎ (s.area.firsts e ≡ no_pages)
      by zero is le = inr (bounds.free e is)
      by (suc zero) is le = inl (ap (λ n. n == 1) is)
      by (suc (suc n)) is le = absurd (not_dead e (is ∙ two n le))
        where
          two : (n : ℕ) → suc (suc n) ≤ 2 → suc (suc n) ≡ 2
          two n le = omega (arith, le)

  in_no_chain : (at : Place) (f : ℕ) (b : Place) → IsUsedSlot s.area f b → IsAmong at (along s.area b) → ⊥
  in_no_chain at f b used in_ = ⊎_elim
      (λ live. subst (IsAmong at) (nothing_along f b live used) in_)
      (λ none. subst (λ (u : Firsts). IsAmong b (flat_map (places_from s.area) u.buckets)) none used.0)
      (live_or_none f)

  unused : (e : ℕ) (at : Place) → IsAmong at (older_places s.area e) → (s.area.older at).used ≡ false
  unused e at in_ = known (s.area.older at).used
      (λ used. absurd (⊎_elim
      (λ live. nothing (FreesOlder e at) live (record { here = in_; content = refl; used = used; unlinked = in_no_chain at }))
      (λ none. nothing_from_0 s.area at (subst (λ (u : Firsts). IsAmong at (places_from s.area u.versions)) none in_))
      (live_or_none e)))
      (λ isnt. isnt)

  -- ---- aborted transactions

  not_aborted : (y : ℕ) → is_in y s.tables.aborted ≡ true → ⊥
  not_aborted y gone =
      let heads : heads_in y s.tables.aborted ≡ head_count s.area y = looked_up (head_count s.area) y s.tables.aborted gone (counts_tell s.tables s.area sound.counts).1 in
      ⊎_elim
      (λ none. nothing (Forgets y) tt (record { gone = gone; none = heads ∙ none }))
      (λ some. let found = some_one (is_headed_by s.area.slot y) (flat_map (slot_places s.area) entry_numbers) some in
      let of = among_flat (slot_places s.area) found.0 entry_numbers found.1 in
      let both = and_parts (s.area.slot found.0).used ((s.area.slot found.0).head.0 == y) found.2 in
      not_reverted of.0 found.0 (of.2, both.0) (subst (λ z. is_in z s.tables.aborted ≡ true) (sym (eqb-true (s.area.slot found.0).head.0 y both.1)) gone))
      (above_or_zero (head_count s.area y))

  none_aborted : s.tables.aborted ≡ []
  none_aborted = by s.tables.aborted refl
    where
      by : (ps : List (ℕ × ℕ)) → s.tables.aborted ≡ ps → s.tables.aborted ≡ []
      by [] is = is
      by (p ∷ ps) is = absurd (not_aborted p.0 (ap (is_in p.0) is ∙ in_head p.0 p ps refl))

  pub bare : IsBare s.tables s.area
  bare = record {
    slots = λ e at live used. (one_version e at live used, head_committed e at used, no_tombstone e at live used);
    older = unused;
    aborted = none_aborted;
    entries = not_dead;
  }
