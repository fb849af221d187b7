-- A used slot is changed that keeps its key, or is freed: what stays sound.
use Rattle.std.proofs.Common.{◌≡◌, ◌⊎◌, ℕ, ◌+◌, ◌<◌, Bool, true, false, cond, List, [], drop, refl, sym, ◌∙◌, ap, subst, arith}
use Rattle.std.proofs.lemmas.Bool.{and_parts, ltb-true}
use Rattle.std.specs.List.{AllByRecursion}
use Rattle.std.specs.Prelude.{◌==◌, ◌&&◌, not, nat_lt}
use Rattle.ctr_area.specs.Areas.{RowVersion, Slot, Area}
use Rattle.ctr_area.specs.Chains.{older_bound, slot_places, places_along, chain_of, Leads}
use Rattle.ctr_area.specs.Changes.{with_slot}
use Rattle.ctr_area.specs.Images.{is_committed_in, versions_in}
use Rattle.ctr_area.specs.Sound.{IsAmong, xids_in, IsUsedSlot, head_count, AreCounted, IsKeptFor, along, PreviousBelow, IsSoundArea}
use Rattle.ctr_area.specs.meta_Tables.{Tables, is_in}
use Rattle.ctr_record_laws.proofs.Heads.{heads_changed, turn, plus_zero}
use Rattle.ctr_record_laws.proofs.Members.{StandsOnce, bit}
use Rattle.ctr_record_laws.proofs.OneSlot.{place_cases, slot_here, slot_apart, was_used, now_used}
use Rattle.ctr_record_laws.proofs.Owned.{all_slots, slot_inside, slot_once, one_table}
use Rattle.ctr_record_laws.proofs.Pointers.{slot_pointers}
use Rattle.ctr_record_laws.proofs.Slots.{slot_set, slot_was}
use Rattle.ctr_record_laws.proofs.Xids.{carried, HaveSameXids}
use Rattle.ctr_record_laws.specs.Bounds.{IsInBounds}
use Rattle.ctr_area.specs.ctr_page.Places.{bucket_of}
use Rattle.ctr_area.specs.ctr_page.declared.rows.Place.{Place}
use Rattle.ctr_area.specs.versions_Versions.{rows_of, RowsSet}

-- the versions are committed
abbrev pub AreGood : (ℕ → Bool) → List RowVersion → Type 0
AreGood committed chain = AllByRecursion (λ (w : RowVersion). committed w.0 ≡ true) chain

module _ (counted : ℕ) (tables : Tables) (area : Area) (e : ℕ) (at : Place) (s : Slot) (bounds : IsInBounds area) (sound : IsSoundArea counted tables area)
    (used : IsUsedSlot area e at) (its : s.used ≡ true → s.key ≡ (area.slot at).key) where
  abbrev old : Slot
  old = area.slot at

  abbrev after : Area
  after = with_slot at s area

  abbrev committed : ℕ → Bool
  committed = is_committed_in tables

  only : (f : ℕ) → IsAmong at (slot_places area f) → f ≡ e
  only f in_ = one_table area bounds counted (xids_in tables.opens) tables.items sound.owned f e at in_ used.0

  no_other : (b : Place) → IsAmong b (slot_places area e) → (area.slot b).used ≡ true → (area.slot b).key ≡ old.key → b ≡ at
  no_other b in_ used_b same_ = sound.keys.once e b at (in_, used_b) used same_

  inside : e < 32
  inside = slot_inside area bounds e at used.0

  -- the chain of its key is what the slot has, where it is still used
  pub cleaned_set : (test : ℕ → Bool) → RowsSet (versions_in test area) (versions_in test after) e old.key (cond s.used (chain_of area.older s) [])
  cleaned_set test = slot_set test area e at s old.key inside used.0 only (λ u. refl) its no_other

  pub cleaned_was : (test : ℕ → Bool) → rows_of (versions_in test area) e old.key ≡ chain_of area.older old
  cleaned_was test = slot_was test area e at old.key inside used.0 used.1 refl no_other

  -- each used slot was used, with the key that it has
  before : (f : ℕ) (b : Place) → IsUsedSlot after f b → IsUsedSlot area f b × ((after.slot b).key ≡ (area.slot b).key)
  before f b used_b = place_cases b at
      (λ is. ((used_b.0, ap (λ b. (area.slot b).used) is ∙ used.1), ap (λ (t : Slot). t.key) (slot_here area at s b is) ∙ its (now_used area at s f b is used_b) ∙ ap (λ b. (area.slot b).key) (sym is)))
      (λ apart. (was_used area at s f b apart used_b, ap (λ (t : Slot). t.key) (slot_apart area at s b apart)))

  abbrev Whole : Slot → Type 0
  Whole t = (0 < t.head.0) × AreGood committed (drop 1 (chain_of area.older t))

  abbrev Below : Slot → Type 0
  Below t = (t.head.0 < tables.next) × PreviousBelow tables.next t.previous

  -- what a slot is to be that is still used
  pub record IsFine : Type 0 where
    pub whole : s.used ≡ true → Whole s
    pub below : s.used ≡ true → Below s
    pub leads : s.used ≡ true → Leads older_bound area.older (IsKeptFor area e old.key) s.pointer
    pub on_way : (q : Place) → s.used ≡ true → IsAmong q (places_along older_bound area.older s.pointer) → IsAmong q (along area at)

  pub cleaned_sound : (after_tables : Tables) → HaveSameXids tables after_tables → AreCounted after_tables after → IsFine → IsSoundArea counted after_tables after
  cleaned_sound new same_ counts fine = carried counted tables new after same_
      (record { rows = sound.readable.rows; versions = sound.readable.versions })
      (λ f b used_b. place_cases b at
      (λ is. subst Whole (sym (slot_here area at s b is)) (fine.whole (now_used area at s f b is used_b)))
      (λ apart. subst Whole (sym (slot_apart area at s b apart)) (sound.behind f b (before f b used_b).0)))
      counts
      (record { once = sound.owned.once; inside = sound.owned.inside; uncounted = sound.owned.uncounted; allocs = sound.owned.allocs; creates = sound.owned.creates; drops = sound.owned.drops })
      (record {
        once = λ f a b used_a used_b same_key. let pa = before f a used_a in let pb = before f b used_b in sound.keys.once f a b pa.0 pb.0 (sym pa.1 ∙ same_key ∙ pb.1);
        bucket = λ f b used_b. let p = before f b used_b in sound.keys.bucket f b p.0 ∙ ap bucket_of (sym p.1);
      })
      (slot_pointers area e at s sound.pointers only
      (λ u. subst (λ k. Leads older_bound area.older (IsKeptFor area e k) s.pointer) (sym (its u)) (fine.leads u))
      (λ f b q apart used_b u in_ too. apart (sound.pointers.apart f e b at q used_b used too (fine.on_way q u in_))))
      sound.names
      (record {
        slots = λ f b used_b. place_cases b at
            (λ is. subst Below (sym (slot_here area at s b is)) (fine.below (now_used area at s f b is used_b)))
            (λ apart. subst Below (sym (slot_apart area at s b apart)) (sound.below.slots f b (before f b used_b).0));
        older = sound.below.older;
        entries = sound.below.entries;
        drawn = sound.below.drawn;
        once = sound.below.once;
      })

  -- ---- counts

  pub at_once : StandsOnce at (all_slots area)
  at_once = slot_once area bounds counted (xids_in tables.opens) tables.items sound.owned e at used.0

  -- the heads of one fall by one, where the slot is headed by it, and not any more by a listed one
  pub head_falls : (y : ℕ) → (is_in y tables.opens ≡ true) ⊎ (is_in y tables.aborted ≡ true) → (s.used && (s.head.0 == y)) ≡ false
      → head_count after y + bit (y == old.head.0) ≡ head_count area y
  head_falls y listed gone =
      ap (λ b. head_count after y + bit b) (sym (ap (λ b. b && (old.head.0 == y)) used.1 ∙ turn old.head.0 y)) ∙ heads_changed area at s y at_once
      ∙ ap (λ b. head_count area y + bit b) gone ∙ sym (plus_zero (head_count area y))

  -- they stay, where it is headed by it as it was
  pub head_stays : (y : ℕ) → (old.head.0 == y) ≡ (s.used && (s.head.0 == y)) → head_count area y ≡ head_count after y
  head_stays y same_ = back (head_count after y) (head_count area y) (bit (old.head.0 == y))
      (ap (λ b. head_count after y + bit b) (sym (ap (λ b. b && (old.head.0 == y)) used.1)) ∙ heads_changed area at s y at_once ∙ ap (λ b. head_count area y + bit b) (sym same_))
    where
      back : (a b c : ℕ) → a + c ≡ b + c → b ≡ a
      back a b c is = omega (arith, is)

-- who is committed is from 1 on
pub committed_some : (tables : Tables) (x : ℕ) → is_committed_in tables x ≡ true → 0 < x
committed_some tables x is = ltb-true 0 x (and_parts (nat_lt 0 x) (nat_lt x tables.next && (not (is_in x tables.opens) && not (is_in x tables.aborted))) is).0
