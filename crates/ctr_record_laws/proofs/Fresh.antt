-- An entry without a page gets other chains without a page: what stood on pages stays, where none was of the entry.
use Rattle.std.proofs.Common.{◌≡◌, ◌⊎◌, ⊎_elim, inl, ℕ, ◌+◌, ◌<◌, cond, List, [], ◌∷◌, ◌++◌, refl, sym, ◌∙◌, ap, subst}
use Rattle.std.proofs.lemmas.Bool.{eq-eqb}
use Rattle.std.specs.List.{flat_map, AllByRecursion}
use Rattle.std.specs.Prelude.{◌==◌}
use Rattle.ctr_area.proofs.Buckets.{each_of, nothing_from_0}
use Rattle.ctr_area.specs.Areas.{Title, Firsts, Area}
use Rattle.ctr_area.specs.Chains.{pages_bound, pages_from, places_on, places_from, slot_places, table_pages}
use Rattle.ctr_area.specs.Changes.{with_title, with_firsts, empty_chains, ChangesEntry}
use Rattle.ctr_area.specs.Images.{is_committed_in}
use Rattle.ctr_area.specs.Sound.{IsAmong, how_many, xids_in, EndsIn, IsOfRows, IsOfVersions, AreBuckets, AreReadable, is_headed_by, owned_pages, AreOwned, AreNamed, IsSoundArea}
use Rattle.ctr_area.specs.meta_Tables.{Tables}
use Rattle.ctr_record_laws.proofs.Members.{among_parts}
use Rattle.ctr_area.specs.ctr_page.declared.header.Header.{Header}
use Rattle.ctr_area.specs.rec_SlogItem.{SlogItem}
use Rattle.ctr_record_laws.proofs.Away.{away_readable, away_pointers, away_behind, away_keys, away_counts, away_pages, away_below, IsSameOn}
use Rattle.ctr_record_laws.proofs.Ends.{page_ends}
use Rattle.ctr_record_laws.proofs.Latest.{by_title}
use Rattle.ctr_record_laws.proofs.Firsts.{firsts_readable, firsts_behind, firsts_keys, firsts_pointers, firsts_below, firsts_counts, pages_of_firsts, owned_moved, firsts_owned, AreGoodFirsts}

-- chains of no page
abbrev pub AreZeros : List ℕ → Type 0
AreZeros ps = AllByRecursion (λ p. p ≡ 0) ps

ends_at_once : (header : ℕ → Header) (Is : Header → Type 0) (p : ℕ) → p ≡ 0 → EndsIn pages_bound header Is p
ends_at_once header Is p is = (
  subst (AllByRecursion (λ q. Is (header q))) (sym (page_ends header pages_bound p is)) tt,
  page_ends header (pages_bound + 1) p is ∙ sym (page_ends header pages_bound p is),
)

zero_buckets : (area : Area) (e b : ℕ) (ps : List ℕ) → AreZeros ps → AreBuckets area e b ps
zero_buckets area e b [] zeros = tt
zero_buckets area e b (p ∷ ps) zeros = (ends_at_once area.header (IsOfRows e b) p zeros.0, zero_buckets area e (b + 1) ps zeros.1)

zero_pages : (header : ℕ → Header) (ps : List ℕ) → AreZeros ps → flat_map (pages_from pages_bound header) ps ≡ []
zero_pages header [] zeros = refl
zero_pages header (p ∷ ps) zeros = λ i. page_ends header pages_bound p zeros.0 i ++ zero_pages header ps zeros.1 i

pub zero_places : (area : Area) (ps : List ℕ) → AreZeros ps → flat_map (places_from area) ps ≡ []
zero_places area [] zeros = refl
zero_places area (p ∷ ps) zeros = λ i. flat_map (λ q. places_on q 0 (area.room q)) (page_ends area.header pages_bound p zeros.0 i) ++ zero_places area ps zeros.1 i

-- first pages that are none
abbrev pub AreNoPages : Firsts → Type 0
AreNoPages t = AreZeros t.buckets × (t.versions ≡ 0)

pub empty_are_none : AreNoPages empty_chains
empty_are_none = ((refl, (refl, (refl, (refl, (refl, (refl, (refl, (refl, tt)))))))), refl)

-- a page of a bucket is of its entry
pub bucket_entry : (area : Area) (f b q : ℕ) (ps : List ℕ) → AreBuckets area f b ps → IsAmong q (flat_map (pages_from pages_bound area.header) ps) → (area.header q).entry ≡ f
bucket_entry area f b q [] buckets in_ = absurd in_
bucket_entry area f b q (p ∷ ps) buckets in_ = ⊎_elim
    (λ here. (each_of (λ r. IsOfRows f b (area.header r)) q (pages_from pages_bound area.header p) buckets.0.0 here).1)
    (λ there. bucket_entry area f (b + 1) q ps buckets.1 there)
    (among_parts q (pages_from pages_bound area.header p) (flat_map (pages_from pages_bound area.header) ps) in_)

pub table_entry : (area : Area) → AreReadable area → (f q : ℕ) → IsAmong q (table_pages area f) → (area.header q).entry ≡ f
table_entry area readable f q in_ = ⊎_elim
    (λ of_rows. bucket_entry area f 0 q (area.firsts f).buckets (readable.rows f) of_rows)
    (λ of_versions. (each_of (λ r. IsOfVersions f (area.header r)) q (pages_from pages_bound area.header (area.firsts f).versions) (readable.versions f).0 of_versions).1)
    (among_parts q (flat_map (pages_from pages_bound area.header) (area.firsts f).buckets) (pages_from pages_bound area.header (area.firsts f).versions) in_)

module _ (counted : ℕ) (tables : Tables) (area : Area) (e : ℕ) (t : Firsts) (sound : IsSoundArea counted tables area) (inside : e < 32) (zeros : AreNoPages t) (none : AreNoPages (area.firsts e)) where
  abbrev mid : Area
  mid = with_firsts e t area

  no_slots : slot_places area e ≡ []
  no_slots = zero_places area (area.firsts e).buckets none.0

  pages_none : (u : Firsts) → AreNoPages u → pages_of_firsts area e t u ≡ []
  pages_none u its = λ i. zero_pages area.header u.buckets its.0 i ++ page_ends area.header pages_bound u.versions its.1 i

  good : AreGoodFirsts area e t tables
  good = record {
    rows = zero_buckets area e 0 t.buckets zeros.0;
    versions = ends_at_once area.header (IsOfVersions e) t.versions zeros.1;
    slots_back = λ at in_ used. absurd (subst (IsAmong at) (zero_places area t.buckets zeros.0) in_);
    older_back = λ q in_ used. absurd (nothing_from_0 area q (subst (λ p. IsAmong q (places_from area p)) zeros.1 in_));
    older_there = λ at used q in_. absurd (subst (IsAmong at) no_slots used.0);
    heads = λ h in_. ap (how_many (is_headed_by area.slot h.0)) (zero_places area t.buckets zeros.0 ∙ sym no_slots);
  }

  moved : (q : ℕ) → how_many (λ r. r == q) (pages_of_firsts area e t t) + 0 ≡ how_many (λ r. r == q) (table_pages area e) + 0
  moved q = ap (λ l. how_many (λ r. r == q) l + 0) (pages_none t zeros ∙ sym (pages_none (area.firsts e) none))

  same_count : (q : ℕ) → how_many (λ r. r == q) (owned_pages tables.items mid) ≡ how_many (λ r. r == q) (owned_pages tables.items area)
  same_count q = owned_moved area e t tables.items q 0 0 (how_many (λ r. r == q) (owned_pages tables.items area)) inside (moved q) refl

  pub mid_sound : IsSoundArea counted tables mid
  mid_sound = record {
    readable = firsts_readable area e t tables good sound.readable;
    behind = firsts_behind area e t tables good (is_committed_in tables) sound.behind;
    counts = firsts_counts area e t tables good sound.counts;
    owned = firsts_owned area e t counted (xids_in tables.opens) tables.items tables.items sound.owned same_count (λ z in_. inl in_);
    keys = firsts_keys area e t tables good sound.keys;
    pointers = firsts_pointers area e t tables good sound.pointers;
    names = sound.names;
    below = firsts_below area e t tables good tables.next (xids_in tables.opens ++ xids_in tables.aborted) sound.below;
  }

  -- ---- and other columns

  module _ (title : Title) (new : Area) (changes : ChangesEntry e title t area new) where
    abbrev pub On : ℕ → Type 0
    On q = (area.header q).entry ≡ e → ⊥

    pub fresh_away : IsSameOn On mid new
    fresh_away = record {
      headers = λ q apart. changes.headers q;
      rooms = λ q apart. changes.rooms q apart;
      slots = λ at apart. changes.slots at apart;
      older = λ at apart. changes.older at apart;
    }

    pub fresh_firsts : (f : ℕ) → new.firsts f ≡ mid.firsts f
    fresh_firsts f = changes.firsts f

    pub fresh_tables : (f q : ℕ) → IsAmong q (table_pages mid f) → On q
    fresh_tables f q in_ is =
        let same_f : f ≡ e = sym (table_entry mid mid_sound.readable f q in_) ∙ is in
        subst (IsAmong q) (pages_none t zeros) (subst (λ (u : Firsts). IsAmong q (pages_of_firsts area e t u)) (ap (λ b. cond b t (area.firsts f)) (eq-eqb f e same_f)) in_)

    pub fresh_pages : (items : List SlogItem) → owned_pages items new ≡ owned_pages items mid
    fresh_pages items = away_pages On mid new fresh_away fresh_firsts fresh_tables items

    -- what is sound of the items and of the title makes the area sound
    pub fresh_sound : (items : List SlogItem) → AreOwned counted (xids_in tables.opens) items new → AreNamed (is_committed_in tables) (xids_in tables.opens) items (with_title e title area).title
        → (title.state ≡ 0) ⊎ ((title.creator < tables.next) × (title.dropper < tables.next)) → IsSoundArea counted (record tables { items = items }) new
    fresh_sound items owned names below = record {
      readable = away_readable On mid new fresh_away fresh_firsts fresh_tables mid_sound.readable;
      behind = away_behind On mid new fresh_away fresh_firsts fresh_tables mid_sound.pointers (is_committed_in tables) mid_sound.behind;
      counts = away_counts On mid new fresh_away fresh_firsts fresh_tables tables mid_sound.counts;
      owned = owned;
      keys = away_keys On mid new fresh_away fresh_firsts fresh_tables mid_sound.keys;
      pointers = away_pointers On mid new fresh_away fresh_firsts fresh_tables mid_sound.pointers;
      names = subst (AreNamed (is_committed_in tables) (xids_in tables.opens) items) titles names;
      below = away_below On mid new fresh_away fresh_firsts fresh_tables tables.next (xids_in tables.opens ++ xids_in tables.aborted) mid_sound.below
          (λ f. subst (λ (s : ℕ → Title). ((s f).state ≡ 0) ⊎ (((s f).creator < tables.next) × ((s f).dropper < tables.next))) titles
          (by_title area e title (λ f u. (u.state ≡ 0) ⊎ ((u.creator < tables.next) × (u.dropper < tables.next))) below (λ f apart. sound.below.entries f) f));
    }
      where
        titles : (with_title e title area).title ≡ new.title
        titles = λ k f. sym (changes.titles f) k
