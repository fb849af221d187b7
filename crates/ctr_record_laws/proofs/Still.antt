-- Used slots that stay what they were.
use Rattle.std.proofs.Common.{◌≡◌, ◌≢◌, ⊎_elim, ℕ, ◌<◌, ◌≤◌, zero, suc, List, [], ◌∷◌, set, slice_index, refl, sym, ◌∙◌, ap, subst}
use Rattle.std.specs.List.{flat_map}
use Rattle.ctr_area.specs.Areas.{Title, Firsts, Slot, Area}
use Rattle.ctr_area.specs.Chains.{pages_bound, places_on, places_from, slot_places}
use Rattle.ctr_area.specs.Changes.{with_slot, with_blank, with_firsts, with_bucket, ChangesEntry}
use Rattle.ctr_area.specs.Sound.{IsAmong, IsUsedSlot, IsSoundArea}
use Rattle.ctr_area.specs.meta_Tables.{Tables}
use Rattle.ctr_record_laws.proofs.Members.{among_front, among_rest, among_parts}
use Rattle.ctr_record_laws.proofs.OneSlot.{slot_apart}
use Rattle.ctr_record_laws.specs.Bounds.{IsInBounds}
use Rattle.ctr_area.specs.ctr_page.declared.header.Header.{Header}
use Rattle.ctr_area.specs.ctr_page.declared.rows.Place.{Place}
use Rattle.ctr_record_laws.proofs.Away.{slot_places_same}
use Rattle.ctr_record_laws.proofs.Ends.{front_places}
use Rattle.ctr_record_laws.proofs.Firsts.{by_entry}
use Rattle.ctr_record_laws.proofs.Format.{same_away, in_tables}
use Rattle.ctr_record_laws.proofs.Fresh.{AreNoPages, fresh_away, fresh_firsts, fresh_tables}
use Rattle.ctr_record_laws.proofs.Links.{bucket_inside, bucket_front}
use Rattle.ctr_record_laws.specs.Owed.{first_page, OwedByFormat, OwedByLink, OwedByUnlink}
use Rattle.ctr_record_laws.proofs.Chained.{next_place}
use Rattle.ctr_record_laws.proofs.Elsewhere.{format_slot, no_places, entry_slot}
use Rattle.ctr_record_laws.specs.Loose.{IsSameSlot}

pub another_slot : (area : Area) (e : ℕ) (at b : Place) (slot : Slot) → at ≢ b → IsUsedSlot area e at → IsSameSlot area (with_slot b slot area) e at
another_slot area e at b slot apart used =
    let same_ = slot_apart area b slot at apart in
    record { used = (used.0, ap (λ (s : Slot). s.used) same_ ∙ used.1); same = same_ }

-- what is in several lists still is, where one of them is another that has it too
set_keeps : (g : ℕ → List Place) (x : Place) (ps : List ℕ) (b y : ℕ) → (IsAmong x (g (slice_index ps b)) → IsAmong x (g y)) → IsAmong x (flat_map g ps) → IsAmong x (flat_map g (set ps b y))
set_keeps g x [] b y has in_ = absurd in_
set_keeps g x (p ∷ ps) zero y has in_ =
    ⊎_elim (λ here. among_front x (g y) (flat_map g ps) (has here)) (λ there. among_rest x (g y) (flat_map g ps) there) (among_parts x (g p) (flat_map g ps) in_)
set_keeps g x (p ∷ ps) (suc b) y has in_ = ⊎_elim
    (λ here. among_front x (g p) (flat_map g (set ps b y)) here)
    (λ there. among_rest x (g p) (flat_map g (set ps b y)) (set_keeps g x ps b y has there))
    (among_parts x (g p) (flat_map g ps) in_)

module _ (area : Area) (e : ℕ) (at : Place) (used : IsUsedSlot area e at) where
  -- other first pages, whose chains still have the slot
  firsts_same : (f : ℕ) (t : Firsts) → (IsAmong at (slot_places area f) → IsAmong at (flat_map (places_from area) t.buckets)) → IsSameSlot area (with_firsts f t area) e at
  firsts_same f t there = record {
    used = (by_entry area f t (λ g u. IsAmong at (slot_places area g) → IsAmong at (flat_map (places_from area) u.buckets)) there (λ g apart in_. in_) e used.0, used.1);
    same = refl;
  }

  pub versions_same : (f p : ℕ) → IsSameSlot area (with_firsts f (record (area.firsts f) { versions = p }) area) e at
  versions_same f p = firsts_same f (record (area.firsts f) { versions = p }) (λ in_. in_)

  pub link_same : (counted : ℕ) (tables : Tables) (x p f bucket : ℕ) → counted ≤ pages_bound → IsInBounds area → IsSoundArea counted tables area → OwedByLink tables area x p f bucket
      → IsSameSlot area (with_firsts f (with_bucket bucket p (area.firsts f)) area) e at
  link_same counted tables x p f bucket few bounds sound owed = firsts_same f (with_bucket bucket p (area.firsts f))
      (set_keeps (places_from area) at (area.firsts f).buckets bucket p
      (λ was. subst (IsAmong at) (sym (front_places area p (first_page area f bucket)
      (bucket_front counted tables area x p f few bounds sound owed.item owed.empty (bucket_inside area bounds f bucket owed.there) bucket owed.header owed.there)))
      (among_rest at (places_on p 0 (area.room p)) (places_from area (first_page area f bucket)) was)))

  pub unlink_same : (tables : Tables) (p f bucket : ℕ) → OwedByUnlink tables area p f bucket → at.page ≢ p
      → IsSameSlot area (with_firsts f (with_bucket bucket (area.header p).next (area.firsts f)) area) e at
  unlink_same tables p f bucket owed off = firsts_same f (with_bucket bucket (area.header p).next (area.firsts f))
      (set_keeps (places_from area) at (area.firsts f).buckets bucket (area.header p).next
      (λ was. next_place area p (area.header p).next at refl (subst (λ r. IsAmong at (places_from area r)) owed.first was) off))

  pub format_same : (counted : ℕ) (tables : Tables) (x p : ℕ) (h : Header) → IsInBounds area → IsSoundArea counted tables area → OwedByFormat tables x p → IsSameSlot area (with_blank p h area) e at
  format_same counted tables x p h bounds sound owed =
      let same_ = format_slot counted tables area x p h bounds sound owed e at used in
      record {
        used = (
          subst (IsAmong at) (sym (slot_places_same (λ r. r ≡ p → ⊥) area (with_blank p h area) (same_away counted tables area x p h bounds sound owed) (λ f. refl)
              (in_tables counted tables area x p h bounds sound owed) e)) used.0,
          ap (λ (s : Slot). s.used) same_ ∙ used.1,
        );
        same = same_;
      }

  -- an entry of the catalog without a page gets another title, and chains without a page
  pub entry_same : (counted : ℕ) (tables : Tables) (f : ℕ) (t : Firsts) (sound : IsSoundArea counted tables area) (inside : f < 32) (zeros : AreNoPages t) (none : AreNoPages (area.firsts f))
      (title : Title) (new : Area) (changes : ChangesEntry f title t area new) → IsSameSlot area new e at
  entry_same counted tables f t sound inside zeros none title new changes =
      let same_ = entry_slot counted tables area f t sound inside zeros none title new changes e at used in
      let mid = firsts_same f t (λ in_. absurd (no_places area (area.firsts f).buckets at none.0 in_)) in
      record {
        used = (
          subst (IsAmong at) (sym (slot_places_same (λ r. (area.header r).entry ≡ f → ⊥) (with_firsts f t area) new
              (fresh_away counted tables area f t sound inside zeros none title new changes) (fresh_firsts counted tables area f t sound inside zeros none title new changes)
              (fresh_tables counted tables area f t sound inside zeros none title new changes) e)) mid.used.0,
          ap (λ (s : Slot). s.used) same_ ∙ used.1,
        );
        same = same_;
      }
