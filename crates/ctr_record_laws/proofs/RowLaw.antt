-- A Row: the chain of its key is written, and the area stays sound.
use Rattle.std.proofs.Common.{◌≡◌, ◌⊎◌, inl, ℕ, ◌<◌, Bool, true, false, cond, List, [], ◌++◌, drop, Option, Some, None, refl, sym, ◌∙◌, ap, subst}
use Rattle.std.proofs.lemmas.Bool.{false≢true}
use Rattle.std.specs.List.{AllByRecursion}
use Rattle.std.specs.Prelude.{is_some}
use Rattle.ctr_area.specs.Areas.{RowVersion, Slot, Area}
use Rattle.ctr_area.specs.Chains.{older_bound, slot_places, chain_of, Leads}
use Rattle.ctr_area.specs.Images.{is_committed_in, versions_in}
use Rattle.ctr_area.specs.Sound.{IsAmong, xids_in, IsUsedSlot, AreBehind, AreKeyed, IsKeptFor, ArePointed, PreviousBelow, NumbersBelow, IsSoundArea}
use Rattle.ctr_area.specs.meta_Effects.{one_head_more}
use Rattle.ctr_area.specs.meta_Tables.{Tables}
use Rattle.ctr_record_laws.proofs.Fitting.{fitting, place_of, old_key, alone, of_its_bucket, now_in_use, of_the_key, has_head, previous_below}
use Rattle.ctr_record_laws.proofs.Heads.{listed_drawn, row_counts}
use Rattle.ctr_record_laws.proofs.OneSlot.{place_cases, slot_here, slot_apart, was_used}
use Rattle.ctr_record_laws.proofs.Owned.{slot_inside, slot_once, one_table}
use Rattle.ctr_record_laws.proofs.Pointers.{slot_pointers}
use Rattle.ctr_record_laws.proofs.Slots.{slot_set, slot_was, slot_wasnt}
use Rattle.ctr_record_laws.proofs.Writes.{write_behind}
use Rattle.ctr_record_laws.proofs.Written.{chain_before, is_write, new_leads, new_apart}
use Rattle.ctr_record_laws.proofs.Xids.{more_same, less_same, both_same, carried}
use Rattle.ctr_record_laws.specs.Bounds.{IsInBounds}
use Rattle.ctr_record_laws.specs.Owed.{RowMove, slot_by, row_moved, loses_head, row_counted, IsSlotOfKey, IsRoomFor, OwedByRow, AgreeOnCommits}
use Rattle.ctr_area.specs.ctr_page.Places.{bucket_of}
use Rattle.ctr_area.specs.ctr_page.declared.rows.Place.{Place}
use Rattle.ctr_area.proofs.ctr_versions.Keys.{known}
use Rattle.ctr_area.specs.versions_Chains.{Numbers}
use Rattle.ctr_area.specs.versions_Changes.{write}
use Rattle.ctr_area.specs.versions_Versions.{rows_of, RowsSet}

module _ (counted : ℕ) (tables : Tables) (area : Area) (m : RowMove) (bounds : IsInBounds area) (sound : IsSoundArea counted tables area) (owed : OwedByRow tables area m) where
  abbrev committed : ℕ → Bool
  committed = is_committed_in tables

  abbrev new : Slot
  new = slot_by m area

  abbrev after : Area
  after = row_moved m area

  fit : IsSlotOfKey area m.entry m.key m.at ⊎ IsRoomFor area m.entry m.key m.at
  fit = fitting committed area m.entry m.key m.at m.writing owed.fits

  here : IsAmong m.at (slot_places area m.entry)
  here = place_of committed area m.entry m.key m.at fit

  inside : m.entry < 32
  inside = slot_inside area bounds m.entry m.at here

  only : (f : ℕ) → IsAmong m.at (slot_places area f) → f ≡ m.entry
  only f in_ = one_table area bounds counted (xids_in tables.opens) tables.items sound.owned f m.entry m.at in_ here

  its_key : (area.slot m.at).used ≡ true → (area.slot m.at).key ≡ m.key
  its_key = old_key committed area m.entry m.key m.at fit

  no_other : (b : Place) → IsAmong b (slot_places area m.entry) → (area.slot b).used ≡ true → (area.slot b).key ≡ m.key → b ≡ m.at
  no_other = alone committed area m.entry m.key m.at sound.keys fit

  used : new.used ≡ true
  used = now_in_use committed area m.entry m.key m.at m.writing (m.xid, m.row) owed.fits

  of_key : new.key ≡ m.key
  of_key = of_the_key committed area m.entry m.key m.at m.writing (m.xid, m.row) owed.fits

  mine : new.head.0 ≡ m.xid
  mine = ap (λ (h : RowVersion). h.0) (has_head committed area m.entry m.key m.at m.writing (m.xid, m.row))

  drawn : (0 < m.xid) × (m.xid < tables.next)
  drawn = listed_drawn tables.next area tables sound.below m.xid (inl owed.is_open)

  before : List RowVersion
  before = chain_before committed area m.entry m.key m.at (m.xid, m.row) bounds.rooms sound.pointers

  -- ---- the step

  was : (test : ℕ → Bool) → rows_of (versions_in test area) m.entry m.key ≡ cond (area.slot m.at).used (chain_of area.older (area.slot m.at)) []
  was test = known (area.slot m.at).used
      (λ is. slot_was test area m.entry m.at m.key inside here is (its_key is) no_other ∙ sym (ap (λ b. cond b (chain_of area.older (area.slot m.at)) []) is))
      (λ free. slot_wasnt test area m.entry m.key inside (λ b in_ used_b its. false≢true (sym free ∙ ap (λ b. (area.slot b).used) (sym (no_other b in_ used_b its)) ∙ used_b))
      ∙ sym (ap (λ b. cond b (chain_of area.older (area.slot m.at)) []) free))

  written : (number : Numbers) → AgreeOnCommits number tables
      → chain_of area.older new ≡ write number m.xid m.row (cond (area.slot m.at).used (chain_of area.older (area.slot m.at)) [])
  written number agrees = is_write committed area m.entry m.key m.at (m.xid, m.row) bounds.rooms sound.pointers number agrees m.writing owed.fits

  pub row_step : (number : Numbers) (test : ℕ → Bool) → AgreeOnCommits number tables
      → RowsSet (versions_in test area) (versions_in test after) m.entry m.key (write number m.xid m.row (rows_of (versions_in test area) m.entry m.key))
  row_step number test agrees = subst (RowsSet (versions_in test area) (versions_in test after) m.entry m.key)
      (ap (λ b. cond b (chain_of area.older new) []) used ∙ written number agrees ∙ ap (write number m.xid m.row) (sym (was test)))
      (slot_set test area m.entry m.at new m.key inside here only its_key (λ u. of_key) no_other)

  -- ---- soundness

  abbrev Good : List RowVersion → Type 0
  Good chain = AllByRecursion (λ (w : RowVersion). committed w.0 ≡ true) (drop 1 chain)

  old_behind : Good (cond (area.slot m.at).used (chain_of area.older (area.slot m.at)) [])
  old_behind = known (area.slot m.at).used
      (λ is. subst (λ b. Good (cond b (chain_of area.older (area.slot m.at)) [])) (sym is) (sound.behind m.entry m.at (here, is)).1)
      (λ free. subst (λ b. Good (cond b (chain_of area.older (area.slot m.at)) [])) (sym free) tt)

  -- some numbers of commits that the tables agree with
  abbrev numbered : Bool → Option ℕ
  numbered b = cond b (Some 0) None

  abbrev some_number : Numbers
  some_number x = numbered (committed x)

  some_agree : AgreeOnCommits some_number tables
  some_agree x = elim (committed x) as (λ b. is_some (numbered b) ≡ b) [ true ↦ refl | false ↦ refl ]

  new_behind : (0 < new.head.0) × Good (chain_of area.older new)
  new_behind = (
    subst (λ y. 0 < y) (sym mine) drawn.0,
    subst Good (sym (written some_number some_agree)) (write_behind some_number committed some_agree m.xid m.row (cond (area.slot m.at).used (chain_of area.older (area.slot m.at)) []) old_behind),
  )

  row_behind : AreBehind committed after
  row_behind f b used_b = place_cases b m.at
      (λ is. subst (λ (t : Slot). (0 < t.head.0) × Good (chain_of area.older t)) (sym (slot_here area m.at new b is)) new_behind)
      (λ apart. subst (λ (t : Slot). (0 < t.head.0) × Good (chain_of area.older t)) (sym (slot_apart area m.at new b apart)) (sound.behind f b (was_used area m.at new f b apart used_b)))

  -- a used slot of the key is the one that is written
  one_key : (f : ℕ) (a b : Place) → a ≡ m.at → (b ≡ m.at → ⊥) → IsUsedSlot after f a → IsUsedSlot after f b → (after.slot a).key ≡ (after.slot b).key → a ≡ b
  one_key f a b is_a not_b used_a used_b same_ =
      is_a ∙ sym (no_other b (subst (λ f. IsAmong b (slot_places area f)) (only f (subst (λ a. IsAmong a (slot_places area f)) is_a used_a.0)) used_b.0) (was_used area m.at new f b not_b used_b).1
      (ap (λ (t : Slot). t.key) (sym (slot_apart area m.at new b not_b)) ∙ sym same_ ∙ ap (λ (t : Slot). t.key) (slot_here area m.at new a is_a) ∙ of_key))

  row_keys : AreKeyed after
  row_keys = record {
    once = λ f a b used_a used_b same_. place_cases a m.at
        (λ is_a. place_cases b m.at (λ is_b. is_a ∙ sym is_b) (λ not_b. one_key f a b is_a not_b used_a used_b same_))
        (λ not_a. place_cases b m.at
        (λ is_b. sym (one_key f b a is_b not_a used_b used_a (sym same_)))
        (λ not_b. sound.keys.once f a b (was_used area m.at new f a not_a used_a) (was_used area m.at new f b not_b used_b)
        (ap (λ (t : Slot). t.key) (sym (slot_apart area m.at new a not_a)) ∙ same_ ∙ ap (λ (t : Slot). t.key) (slot_apart area m.at new b not_b))));
    bucket = λ f b used_b. place_cases b m.at
        (λ is. ap (λ (b : Place). (area.header b.page).bucket) is ∙ of_its_bucket committed area m.entry m.key m.at sound.readable sound.keys fit
        ∙ ap bucket_of (sym (ap (λ (t : Slot). t.key) (slot_here area m.at new b is) ∙ of_key)))
        (λ apart. sound.keys.bucket f b (was_used area m.at new f b apart used_b) ∙ ap (λ (t : Slot). bucket_of t.key) (sym (slot_apart area m.at new b apart)));
  }

  abbrev Below : Slot → Type 0
  Below t = (t.head.0 < tables.next) × PreviousBelow tables.next t.previous

  row_below : NumbersBelow tables.next (xids_in tables.opens ++ xids_in tables.aborted) after
  row_below = record {
    slots = λ f b used_b. place_cases b m.at
        (λ is. subst Below (sym (slot_here area m.at new b is)) (
          subst (λ y. y < tables.next) (sym mine) drawn.1,
          previous_below committed area m.entry m.key m.at tables.next m.writing (m.xid, m.row) (sound.below.slots m.entry m.at) owed.fits,
        ))
        (λ apart. subst Below (sym (slot_apart area m.at new b apart)) (sound.below.slots f b (was_used area m.at new f b apart used_b)));
    older = sound.below.older;
    entries = sound.below.entries;
    drawn = sound.below.drawn;
    once = sound.below.once;
  }

  row_points : ArePointed after
  row_points = slot_pointers area m.entry m.at new sound.pointers only
      (λ u. subst (λ k. Leads older_bound area.older (IsKeptFor area m.entry k) new.pointer) (sym of_key)
      (new_leads committed area m.entry m.key m.at (m.xid, m.row) bounds.rooms sound.pointers m.writing owed.fits))
      (λ f b q apart used_b u. new_apart committed area m.entry m.key m.at (m.xid, m.row) bounds.rooms sound.pointers m.writing owed.fits f b q apart used_b)

  pub row_sound : IsSoundArea counted (row_counted m area tables) after
  row_sound = carried counted tables (row_counted m area tables) after
      (both_same tables (one_head_more m.xid tables) (row_counted m area tables) (more_same m.xid tables) (less_same (loses_head tables (area.slot m.at)) (one_head_more m.xid tables)))
      (record { rows = sound.readable.rows; versions = sound.readable.versions })
      row_behind
      (row_counts tables area m.at new m.xid (slot_once area bounds counted (xids_in tables.opens) tables.items sound.owned m.entry m.at here) used mine sound.below owed.is_open
      (λ is. ((sound.behind m.entry m.at (here, is)).0, (sound.below.slots m.entry m.at (here, is)).0)) sound.counts)
      (record { once = sound.owned.once; inside = sound.owned.inside; uncounted = sound.owned.uncounted; allocs = sound.owned.allocs; creates = sound.owned.creates; drops = sound.owned.drops })
      row_keys row_points sound.names row_below
