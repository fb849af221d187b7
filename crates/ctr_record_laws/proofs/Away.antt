-- An area that is another one on pages of no table: what stands on the tables' pages is the same, and stays sound.
use Rattle.std.proofs.Common.{◌≡◌, ◌⊎◌, ⊎_elim, inl, inr, ℕ, ◌+◌, ◌<◌, ℤ, zero, suc, Bool, true, cond, List, [], ◌∷◌, ◌++◌, drop, refl, sym, ◌∙◌, ap, subst}
use Rattle.std.specs.List.{flat_map, AllByRecursion}
use Rattle.std.specs.Prelude.{◌==◌, ◌&&◌}
use Rattle.ctr_area.proofs.Buckets.{on_chain}
use Rattle.ctr_area.specs.Areas.{Firsts, RowVersion, Slot, Older, Area}
use Rattle.ctr_area.specs.Chains.{pages_bound, older_bound, pages_from, places_on, places_from, slot_places, older_places, table_pages, places_along, if_any, chain_of, Leads}
use Rattle.ctr_area.specs.Images.{entry_numbers}
use Rattle.ctr_area.specs.Sound.{IsAmong, how_many, IsUsedSlot, EndsIn, IsOfRows, IsOfVersions, AreBuckets, AreReadable, AreBehind, is_headed_by, head_count, AreCounted, page_of_item, owned_pages, AreKeyed, IsKeptFor, along, ArePointed, PreviousBelow, NumbersBelow}
use Rattle.ctr_area.specs.meta_Tables.{Tables}
use Rattle.ctr_record_laws.proofs.Along.{versions_at, same_along, all_along, leads_same, same_versions}
use Rattle.ctr_record_laws.proofs.Members.{among_front, among_rest, among_parts, among_flat, all_each, bit}
use Rattle.ctr_area.specs.ctr_page.Places.{bucket_of}
use Rattle.ctr_area.specs.ctr_page.declared.header.Header.{Header}
use Rattle.ctr_area.specs.ctr_page.declared.rows.Place.{Place}
use Rattle.ctr_area.specs.rec_SlogItem.{SlogItem}
use Rattle.ctr_area.proofs.ctr_versions.Keys.{known}

-- the areas agree on these pages
pub record IsSameOn (on : ℕ → Type 0) (old new : Area) : Type 0 where
  pub headers : (q : ℕ) → on q → new.header q ≡ old.header q
  pub rooms : (q : ℕ) → on q → new.room q ≡ old.room q
  pub slots : (at : Place) → on at.page → new.slot at ≡ old.slot at
  pub older : (at : Place) → on at.page → new.older at ≡ old.older at

-- what holds of each member by one function holds by another that is the same there
all_same : {A B : Type 0} (P : B → Type 0) (f g : A → B) (xs : List A) → ((x : A) → IsAmong x xs → g x ≡ f x) → AllByRecursion (λ x. P (f x)) xs → AllByRecursion (λ x. P (g x)) xs
all_same P f g [] same_ all = tt
all_same P f g (x ∷ xs) same_ all = (subst P (sym (same_ x (inl refl))) all.0, all_same P f g xs (λ y in_. same_ y (inr in_)) all.1)

pub how_many_same : {A : Type 0} (old new : A → Bool) (xs : List A) → ((x : A) → IsAmong x xs → new x ≡ old x) → how_many new xs ≡ how_many old xs
how_many_same old new [] same_ = refl
how_many_same old new (x ∷ xs) same_ = λ i. bit (same_ x (inl refl) i) + how_many_same old new xs (λ y in_. same_ y (inr in_)) i

-- a place of several chains is on one of their pages
pub place_on_chains : (area : Area) (ps : List ℕ) (at : Place) → IsAmong at (flat_map (places_from area) ps) → IsAmong at.page (flat_map (pages_from pages_bound area.header) ps)
place_on_chains area [] at in_ = absurd in_
place_on_chains area (p ∷ ps) at in_ = ⊎_elim
    (λ here. among_front at.page (pages_from pages_bound area.header p) (flat_map (pages_from pages_bound area.header) ps) (on_chain area p at here).0)
    (λ there. among_rest at.page (pages_from pages_bound area.header p) (flat_map (pages_from pages_bound area.header) ps) (place_on_chains area ps at there))
    (among_parts at (places_from area p) (flat_map (places_from area) ps) in_)

module _ (on : ℕ → Type 0) (old new : Area) (same_ : IsSameOn on old new) where
  pub pages_same : (n first : ℕ) → ((q : ℕ) → IsAmong q (pages_from n old.header first) → on q) → pages_from n new.header first ≡ pages_from n old.header first
  pages_same zero first all = refl
  pages_same (suc n) first all = known (first == 0)
      (λ is. ap (λ b. cond b [] (first ∷ pages_from n new.header (new.header first).next)) is ∙ sym (ap (λ b. cond b [] (first ∷ pages_from n old.header (old.header first).next)) is))
      (λ isnt. let further : (q : ℕ) → IsAmong q (first ∷ pages_from n old.header (old.header first).next) → on q = λ q in_. all q (subst (IsAmong q) (sym (ap (λ b. cond b [] (first ∷ pages_from n old.header (old.header first).next)) isnt)) in_) in
      ap (λ b. cond b [] (first ∷ pages_from n new.header (new.header first).next)) isnt ∙ ap (λ (h : Header). first ∷ pages_from n new.header h.next) (same_.headers first (further first (inl refl)))
      ∙ ap (λ ps. first ∷ ps) (pages_same n (old.header first).next (λ q in_. further q (inr in_)))
      ∙ sym (ap (λ b. cond b [] (first ∷ pages_from n old.header (old.header first).next)) isnt))

  rooms_same : (ps : List ℕ) → ((q : ℕ) → IsAmong q ps → on q) → flat_map (λ q. places_on q 0 (new.room q)) ps ≡ flat_map (λ q. places_on q 0 (old.room q)) ps
  rooms_same [] all = refl
  rooms_same (p ∷ ps) all = λ i. places_on p 0 (same_.rooms p (all p (inl refl)) i) ++ rooms_same ps (λ q in_. all q (inr in_)) i

  places_same : (first : ℕ) → ((q : ℕ) → IsAmong q (pages_from pages_bound old.header first) → on q) → places_from new first ≡ places_from old first
  places_same first all = ap (flat_map (λ q. places_on q 0 (new.room q))) (pages_same pages_bound first all) ∙ rooms_same (pages_from pages_bound old.header first) all

  abbrev chains : List ℕ → List ℕ
  chains ps = flat_map (pages_from pages_bound old.header) ps

  buckets_same : (ps : List ℕ) → ((q : ℕ) → IsAmong q (chains ps) → on q)
      → (flat_map (places_from new) ps ≡ flat_map (places_from old) ps) × (flat_map (pages_from pages_bound new.header) ps ≡ chains ps)
  buckets_same [] all = (refl, refl)
  buckets_same (p ∷ ps) all =
      let rest = buckets_same ps (λ q in_. all q (among_rest q (pages_from pages_bound old.header p) (chains ps) in_)) in
      let first : (q : ℕ) → IsAmong q (pages_from pages_bound old.header p) → on q = λ q in_. all q (among_front q (pages_from pages_bound old.header p) (chains ps) in_) in
      ((λ i. places_same p first i ++ rest.0 i), (λ i. pages_same pages_bound p first i ++ rest.1 i))

  ends_same : (Is : Header → Type 0) (p : ℕ) → ((q : ℕ) → IsAmong q (pages_from pages_bound old.header p) → on q) → EndsIn pages_bound old.header Is p → EndsIn pages_bound new.header Is p
  ends_same Is p all ends =
      let now = pages_same pages_bound p all in (
        subst (AllByRecursion (λ q. Is (new.header q))) (sym now) (all_same Is old.header new.header (pages_from pages_bound old.header p) (λ q in_. same_.headers q (all q in_)) ends.0),
        pages_same (pages_bound + 1) p (λ q in_. all q (subst (IsAmong q) ends.1 in_)) ∙ ends.1 ∙ sym now,
      )

  are_buckets_same : (e b : ℕ) (ps : List ℕ) → ((q : ℕ) → IsAmong q (chains ps) → on q) → AreBuckets old e b ps → AreBuckets new e b ps
  are_buckets_same e b [] all buckets = tt
  are_buckets_same e b (p ∷ ps) all buckets = (
    ends_same (IsOfRows e b) p (λ q in_. all q (among_front q (pages_from pages_bound old.header p) (chains ps) in_)) buckets.0,
    are_buckets_same e (b + 1) ps (λ q in_. all q (among_rest q (pages_from pages_bound old.header p) (chains ps) in_)) buckets.1,
  )

  -- ---- all tables

  module _ (firsts : (f : ℕ) → new.firsts f ≡ old.firsts f) (pages : (f q : ℕ) → IsAmong q (table_pages old f) → on q) where
    rows_on : (f q : ℕ) → IsAmong q (chains (old.firsts f).buckets) → on q
    rows_on f q in_ = pages f q (among_front q (chains (old.firsts f).buckets) (pages_from pages_bound old.header (old.firsts f).versions) in_)

    older_on : (f q : ℕ) → IsAmong q (pages_from pages_bound old.header (old.firsts f).versions) → on q
    older_on f q in_ = pages f q (among_rest q (chains (old.firsts f).buckets) (pages_from pages_bound old.header (old.firsts f).versions) in_)

    pub slot_places_same : (f : ℕ) → slot_places new f ≡ slot_places old f
    slot_places_same f = ap (λ (t : Firsts). flat_map (places_from new) t.buckets) (firsts f) ∙ (buckets_same (old.firsts f).buckets (rows_on f)).0

    pub older_places_same : (f : ℕ) → older_places new f ≡ older_places old f
    older_places_same f = ap (λ (t : Firsts). places_from new t.versions) (firsts f) ∙ places_same (old.firsts f).versions (older_on f)

    pub table_pages_same : (f : ℕ) → table_pages new f ≡ table_pages old f
    table_pages_same f =
        ap (λ (t : Firsts). flat_map (pages_from pages_bound new.header) t.buckets ++ pages_from pages_bound new.header t.versions) (firsts f)
        ∙ (λ i. (buckets_same (old.firsts f).buckets (rows_on f)).1 i ++ pages_same pages_bound (old.firsts f).versions (older_on f) i)

    slot_on_page : (f : ℕ) (at : Place) → IsAmong at (slot_places old f) → on at.page
    slot_on_page f at in_ = rows_on f at.page (place_on_chains old (old.firsts f).buckets at in_)

    older_on_page : (f : ℕ) (at : Place) → IsAmong at (older_places old f) → on at.page
    older_on_page f at in_ = older_on f at.page (on_chain old (old.firsts f).versions at in_).0

    pub used_back : (f : ℕ) (at : Place) → IsUsedSlot new f at → IsUsedSlot old f at × (new.slot at ≡ old.slot at)
    used_back f at used =
        let in_ = subst (IsAmong at) (slot_places_same f) used.0 in
        let slot = same_.slots at (slot_on_page f at in_) in
        ((in_, ap (λ (t : Slot). t.used) (sym slot) ∙ used.1), slot)

    pub away_readable : AreReadable old → AreReadable new
    away_readable readable = record {
      rows = λ e. subst (λ (t : Firsts). AreBuckets new e 0 t.buckets) (sym (firsts e)) (are_buckets_same e 0 (old.firsts e).buckets (rows_on e) (readable.rows e));
      versions = λ e. subst (λ (t : Firsts). EndsIn pages_bound new.header (IsOfVersions e) t.versions) (sym (firsts e)) (ends_same (IsOfVersions e) (old.firsts e).versions (older_on e) (readable.versions e));
    }

    -- version entries on the way are what they were
    way_same : (f : ℕ) (key : ℤ) (q : Place) → IsKeptFor old f key q (old.older q) → new.older q ≡ old.older q
    way_same f key q its = same_.older q (older_on_page f q its.0)

    module _ (pointers : ArePointed old) where
      pub away_chain : (f : ℕ) (at : Place) → IsUsedSlot old f at → chain_of new.older (old.slot at) ≡ chain_of old.older (old.slot at)
      away_chain f at used =
          let leads = pointers.lead f at used in
          let its = IsKeptFor old f (old.slot at).key in
          ap (λ vs. (old.slot at).head ∷ (if_any (old.slot at).previous ++ vs))
          (ap (versions_at new.older) (same_along old.older its new.older (way_same f (old.slot at).key) older_bound (old.slot at).pointer leads)
          ∙ same_versions old.older new.older (places_along older_bound old.older (old.slot at).pointer)
          (all_each {P = λ q. its q (old.older q)} {Q = λ q. new.older q ≡ old.older q} (places_along older_bound old.older (old.slot at).pointer) (way_same f (old.slot at).key)
          (all_along old.older its older_bound (old.slot at).pointer leads)))

      pub away_along : (f : ℕ) (at : Place) → IsUsedSlot new f at → along new at ≡ along old at
      away_along f at used =
          let back = used_back f at used in
          ap (λ (t : Slot). places_along older_bound new.older t.pointer) back.1
          ∙ same_along old.older (IsKeptFor old f (old.slot at).key) new.older (way_same f (old.slot at).key) older_bound (old.slot at).pointer (pointers.lead f at back.0)

      pub away_pointers : ArePointed new
      away_pointers = record {
        lead = λ f at used. let back = used_back f at used in
            subst (λ (t : Slot). Leads older_bound new.older (IsKeptFor new f t.key) t.pointer) (sym back.1)
            (leads_same old.older (IsKeptFor old f (old.slot at).key) new.older (IsKeptFor new f (old.slot at).key) (way_same f (old.slot at).key)
            (λ q its. (subst (IsAmong q) (sym (older_places_same f)) its.0, its.1, its.2)) older_bound (old.slot at).pointer (pointers.lead f at back.0));
        apart = λ e f a b q used_a used_b in_a in_b. pointers.apart e f a b q (used_back e a used_a).0 (used_back f b used_b).0
            (subst (IsAmong q) (away_along e a used_a) in_a) (subst (IsAmong q) (away_along f b used_b) in_b);
      }

      pub away_behind : (committed : ℕ → Bool) → AreBehind committed old → AreBehind committed new
      away_behind committed behind f at used =
          let back = used_back f at used in
          subst (λ (t : Slot). (0 < t.head.0) × AllByRecursion (λ (w : RowVersion). committed w.0 ≡ true) (drop 1 (chain_of new.older t))) (sym back.1)
          (subst (λ c. (0 < (old.slot at).head.0) × AllByRecursion (λ (w : RowVersion). committed w.0 ≡ true) (drop 1 c)) (sym (away_chain f at back.0)) (behind f at back.0))

    pub away_keys : AreKeyed old → AreKeyed new
    away_keys keys = record {
      once = λ f a b used_a used_b same_key. let pa = used_back f a used_a in let pb = used_back f b used_b in
          keys.once f a b pa.0 pb.0 (ap (λ (t : Slot). t.key) (sym pa.1) ∙ same_key ∙ ap (λ (t : Slot). t.key) pb.1);
      bucket = λ f at used. let back = used_back f at used in
          ap (λ (h : Header). h.bucket) (same_.headers at.page (slot_on_page f at back.0.0)) ∙ keys.bucket f at back.0 ∙ ap (λ (t : Slot). bucket_of t.key) (sym back.1);
    }

    slots_all_same : (es : List ℕ) → flat_map (slot_places new) es ≡ flat_map (slot_places old) es
    slots_all_same [] = refl
    slots_all_same (e ∷ es) = λ i. slot_places_same e i ++ slots_all_same es i

    pages_all_same : (es : List ℕ) → flat_map (table_pages new) es ≡ flat_map (table_pages old) es
    pages_all_same [] = refl
    pages_all_same (e ∷ es) = λ i. table_pages_same e i ++ pages_all_same es i

    pub away_heads : (y : ℕ) → head_count new y ≡ head_count old y
    away_heads y =
        ap (how_many (is_headed_by new.slot y)) (slots_all_same entry_numbers)
        ∙ how_many_same (is_headed_by old.slot y) (is_headed_by new.slot y) (flat_map (slot_places old) entry_numbers)
        (λ at in_. let found = among_flat (slot_places old) at entry_numbers in_ in
        ap (λ (t : Slot). t.used && (t.head.0 == y)) (same_.slots at (slot_on_page found.0 at found.2)))

    pub away_counts : (tables : Tables) → AreCounted tables old → AreCounted tables new
    away_counts tables counts = all_each {P = λ (p : ℕ × ℕ). p.1 ≡ head_count old p.0} {Q = λ (p : ℕ × ℕ). p.1 ≡ head_count new p.0} (tables.opens ++ tables.aborted)
        (λ p is. is ∙ sym (away_heads p.0)) counts

    pub away_pages : (items : List SlogItem) → owned_pages items new ≡ owned_pages items old
    away_pages items = ap (λ ps. ps ++ flat_map page_of_item items) (pages_all_same entry_numbers)

    -- numbers, where those of titles stay below
    pub away_below : (next : ℕ) (xids : List ℕ) → NumbersBelow next xids old → ((e : ℕ) → ((new.title e).state ≡ 0) ⊎ (((new.title e).creator < next) × ((new.title e).dropper < next))) → NumbersBelow next xids new
    away_below next xids below titles = record {
      slots = λ f at used. let back = used_back f at used in
          subst (λ (t : Slot). (t.head.0 < next) × PreviousBelow next t.previous) (sym back.1) (below.slots f at back.0);
      older = λ f at in_ used. let was = subst (IsAmong at) (older_places_same f) in_ in
          let same_older = same_.older at (older_on_page f at was) in
          subst (λ (j : Older). j.version.0 < next) (sym same_older) (below.older f at was (ap (λ (j : Older). j.used) (sym same_older) ∙ used));
      entries = titles;
      drawn = below.drawn;
      once = below.once;
    }
