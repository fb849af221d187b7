-- Version entries that no chain has, where the first pages of one table are others.
use Rattle.std.proofs.Common.{◌≡◌, ◌≢◌, ⊎_elim, inl, inr, ℕ, ◌+◌, ◌≤◌, zero, suc, true, List, [], ◌∷◌, refl, sym, ◌∙◌, ap, subst}
use Rattle.std.proofs.lemmas.Bool.{false≢true}
use Rattle.std.specs.List.{flat_map}
use Rattle.ctr_area.specs.Areas.{Firsts, Older, Area}
use Rattle.ctr_area.specs.Chains.{pages_bound, pages_from, places_on, places_from, slot_places, older_places}
use Rattle.ctr_area.specs.Changes.{with_firsts, with_bucket}
use Rattle.ctr_area.specs.Sound.{IsAmong, EndsIn, IsOfRows, IsSoundArea}
use Rattle.ctr_area.specs.meta_Tables.{Tables}
use Rattle.ctr_record_laws.proofs.Members.{among_front, among_rest, among_flat, on_page}
use Rattle.ctr_record_laws.specs.Bounds.{IsInBounds}
use Rattle.ctr_area.specs.ctr_page.declared.header.Header.{Header}
use Rattle.ctr_area.specs.ctr_page.declared.rows.Place.{Place}
use Rattle.ctr_record_laws.proofs.Ends.{page_goes_on, page_ends, behind_chain, front_places, set_among, one_among, bucket_chain}
use Rattle.ctr_record_laws.proofs.Firsts.{by_entry}
use Rattle.ctr_record_laws.proofs.Links.{older_front}
use Rattle.ctr_record_laws.proofs.Unlinks.{above_zero}
use Rattle.ctr_record_laws.specs.Owed.{first_page, OwedByLink, OwedByOlderLink, OwedByUnlink}
use Rattle.ctr_record_laws.specs.Loose.{IsLoose}

-- ---- chains of pages

-- with a step more all is there that was
fewer_pages : (header : ℕ → Header) (n p r : ℕ) → IsAmong r (pages_from n header p) → IsAmong r (pages_from (suc n) header p)
fewer_pages header zero p r in_ = absurd in_
fewer_pages header (suc n) p r in_ =
    let some : p ≡ 0 → ⊥ = λ z. subst (IsAmong r) (page_ends header (suc n) p z) in_ in
    subst (IsAmong r) (sym (page_goes_on header (suc n) p some))
    (⊎_elim (λ here. inl here) (λ later. inr (fewer_pages header n (header p).next r later)) (subst (IsAmong r) (page_goes_on header n p some) in_))

-- a page of a chain is its first, or one of the chain that this one leads on to
next_page : (header : ℕ → Header) (n p r : ℕ) → IsAmong r (pages_from n header p) → IsAmong r (p ∷ pages_from n header (header p).next)
next_page header zero p r in_ = absurd in_
next_page header (suc n) p r in_ =
    let some : p ≡ 0 → ⊥ = λ z. subst (IsAmong r) (page_ends header (suc n) p z) in_ in
    ⊎_elim (λ here. inl here) (λ later. inr (fewer_pages header n (header p).next r later)) (subst (IsAmong r) (page_goes_on header n p some) in_)

among_each : {A B : Type 0} (f : A → List B) (a : A) (x : B) (xs : List A) → IsAmong a xs → IsAmong x (f a) → IsAmong x (flat_map f xs)
among_each f a x [] in_ at_ = absurd in_
among_each f a x (y ∷ ys) (inl is) at_ = among_front x (f y) (flat_map f ys) (subst (λ a. IsAmong x (f a)) is at_)
among_each f a x (y ∷ ys) (inr in_) at_ = among_rest x (f y) (flat_map f ys) (among_each f a x ys in_ at_)

-- a place of a chain is on its first page, or in the chain that this one leads on to
pub next_place : (area : Area) (p next : ℕ) (at : Place) → (area.header p).next ≡ next → IsAmong at (places_from area p) → (at.page ≡ p → ⊥) → IsAmong at (places_from area next)
next_place area p next at leads in_ off =
    let on : ℕ → List Place = λ r. places_on r 0 (area.room r) in
    let found = among_flat on at (pages_from pages_bound area.header p) in_ in
    subst (λ n. IsAmong at (places_from area n)) leads
    (⊎_elim (λ here. absurd (off (on_page found.0 0 (area.room found.0) at found.2 ∙ here)))
    (λ later. among_each on found.0 at (pages_from pages_bound area.header (area.header p).next) later found.2)
    (next_page area.header pages_bound p found.0 found.1))

-- ---- first pages

module _ (area : Area) (f : ℕ) (t : Firsts) (e : ℕ) (q : Place) (it : Older) (loose : IsLoose area e q it) where
  abbrev after : Area
  after = with_firsts f t area

  -- no slot is used that wasn't, and the version entry is still the table's
  pub firsts_loose : ((at : Place) → IsAmong at (flat_map (places_from area) t.buckets) → (area.slot at).used ≡ true → IsAmong at (slot_places area f))
      → (IsAmong q (older_places area f) → e ≡ f → IsAmong q (places_from area t.versions)) → IsLoose after e q it
  firsts_loose back there = record {
    here = by_entry area f t (λ g u. IsAmong q (older_places area g) → e ≡ g → IsAmong q (places_from area u.versions)) there (λ g apart in_ is. in_) e loose.here refl;
    content = loose.content;
    used = loose.used;
    unlinked = λ g b used in_. loose.unlinked g b (
      by_entry area f t (λ g u. IsAmong b (flat_map (places_from area) u.buckets) → IsAmong b (slot_places area g)) (λ now. back b now used.1) (λ g apart was. was) g used.0,
      used.1,
    ) in_;
  }

module _ (area : Area) (e : ℕ) (q : Place) (it : Older) (loose : IsLoose area e q it) where
  -- a Link to a bucket: the page is empty
  pub link_loose : (tables : Tables) (x p f bucket : ℕ) → OwedByLink tables area x p f bucket → IsLoose (with_firsts f (with_bucket bucket p (area.firsts f)) area) e q it
  link_loose tables x p f bucket owed = firsts_loose area f (with_bucket bucket p (area.firsts f)) e q it loose
      (λ at in_ used. ⊎_elim
      (λ new. one_among (places_from area) at (area.firsts f).buckets bucket owed.there
      (next_place area p (first_page area f bucket) at (ap (λ (h : Header). h.next) owed.header) new (λ on_it. false≢true (sym (owed.empty at on_it).0 ∙ used))))
      (λ was. was)
      (set_among (places_from area) at (area.firsts f).buckets bucket p in_))
      (λ in_ is. in_)

  -- a Link to a version chain, which leads on to the first page of before
  pub older_link_loose : (counted : ℕ) (tables : Tables) (x p f : ℕ) → counted ≤ pages_bound → IsInBounds area → IsSoundArea counted tables area → OwedByOlderLink tables area x p f
      → IsLoose (with_firsts f (record (area.firsts f) { versions = p }) area) e q it
  older_link_loose counted tables x p f few bounds sound owed = firsts_loose area f (record (area.firsts f) { versions = p }) e q it loose
      (λ at in_ used. in_)
      (λ in_ is. subst (IsAmong q) (sym (front_places area p (area.firsts f).versions (older_front counted tables area x p f few bounds sound owed.item owed.empty owed.there owed.header)))
      (among_rest q (places_on p 0 (area.room p)) (places_from area (area.firsts f).versions) in_))

  -- an Unlink from a bucket
  pub unlink_loose : (counted : ℕ) (tables : Tables) (p f bucket : ℕ) → IsSoundArea counted tables area → OwedByUnlink tables area p f bucket
      → IsLoose (with_firsts f (with_bucket bucket (area.header p).next (area.firsts f)) area) e q it
  unlink_loose counted tables p f bucket sound owed = firsts_loose area f (with_bucket bucket next (area.firsts f)) e q it loose
      (λ at in_ used. ⊎_elim
      (λ still. one_among (places_from area) at buckets bucket owed.there
      (subst (λ r. IsAmong at (places_from area r)) (sym owed.first)
      (subst (IsAmong at) (sym (front_places area p next chain)) (among_rest at (places_on p 0 (area.room p)) (places_from area next) still))))
      (λ was. was)
      (set_among (places_from area) at buckets bucket next in_))
      (λ in_ is. in_)
    where
      next : ℕ
      next = (area.header p).next

      buckets : List ℕ
      buckets = (area.firsts f).buckets

      chain : pages_from pages_bound area.header p ≡ p ∷ pages_from pages_bound area.header next
      chain = (behind_chain area.header p next (above_zero p owed.some) refl (IsOfRows f (0 + bucket))
          (subst (EndsIn pages_bound area.header (IsOfRows f (0 + bucket))) owed.first (bucket_chain area f 0 bucket buckets owed.there (sound.readable.rows f)))).0

  -- an Unlink from the version chain of another table
  pub older_unlink_loose : (p f : ℕ) → e ≢ f → IsLoose (with_firsts f (record (area.firsts f) { versions = (area.header p).next }) area) e q it
  older_unlink_loose p f apart = firsts_loose area f (record (area.firsts f) { versions = (area.header p).next }) e q it loose (λ at in_ used. in_) (λ in_ is. absurd (apart is))
