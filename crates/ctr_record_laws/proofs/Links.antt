-- A Link: the page comes to the front of its chain.
use Rattle.std.proofs.Common.{◌≡◌, ⊎_elim, inl, inr, ℕ, ◌+◌, ◌<◌, ◌≤◌, Bool, true, false, List, [], ◌∷◌, ◌++◌, set, length, refl, sym, ◌∙◌, ap, subst, arith}
use Rattle.std.proofs.lemmas.Bool.{false≢true, cases_lt}
use Rattle.std.specs.List.{flat_map}
use Rattle.std.specs.Prelude.{◌==◌, ◌&&◌}
use Rattle.ctr_area.specs.Areas.{Firsts, Area}
use Rattle.ctr_area.specs.Chains.{pages_bound, pages_from, places_on, places_from, slot_places, table_pages}
use Rattle.ctr_area.specs.Changes.{with_firsts, with_bucket}
use Rattle.ctr_area.specs.Images.{is_committed_in}
use Rattle.ctr_area.specs.Sound.{IsAmong, how_many, xids_in, IsOfRows, IsOfVersions, is_headed_by, page_of_item, owned_pages, IsSoundArea}
use Rattle.ctr_area.specs.meta_Effects.{without_item}
use Rattle.ctr_area.specs.meta_Items.{is_wanted, left_out}
use Rattle.ctr_area.specs.meta_Tables.{Tables}
use Rattle.ctr_area.specs.meta_Wanted.TheVariants.{Allocation}
use Rattle.ctr_record_laws.proofs.Members.{among_rest, among_parts, on_page, count_append, bit}
use Rattle.ctr_record_laws.specs.Bounds.{IsInBounds}
use Rattle.ctr_area.specs.ctr_page.declared.header.Header.{Header}
use Rattle.ctr_area.specs.rec_SlogItem.{SlogItem}
use Rattle.ctr_area.specs.rec_SlogItem.TheVariants.{AllocOf}
use Rattle.ctr_record_laws.proofs.Ends.{front_chain, front_ends, front_places, set_count, set_among, one_among, bucket_chain, buckets_with}
use Rattle.ctr_record_laws.proofs.Few.{item_fine, short_bucket, short_versions}
use Rattle.ctr_record_laws.proofs.Firsts.{firsts_readable, firsts_behind, firsts_keys, firsts_pointers, firsts_below, firsts_counts, pages_of_firsts, owned_moved, firsts_owned, AreGoodFirsts}
use Rattle.ctr_record_laws.proofs.Format.{allocation_is, item_page}
use Rattle.ctr_record_laws.proofs.Items.{taken_out, IsWithOne}
use Rattle.ctr_record_laws.proofs.Named.{alloc_of_page, named_same, shorter_same, items_up}
use Rattle.ctr_record_laws.proofs.Owning.{owned_with}
use Rattle.ctr_record_laws.specs.Owed.{IsListedItem, IsEmptyPage, rows_header, versions_header, first_page}

pub none_pass : {A : Type 0} (test : A → Bool) (xs : List A) → ((x : A) → IsAmong x xs → test x ≡ false) → how_many test xs ≡ 0
none_pass test [] none = refl
none_pass test (x ∷ xs) none = λ i. bit (none x (inl refl) i) + none_pass test xs (λ y in_. none y (inr in_)) i

-- nothing on an empty page is used
none_headed : (area : Area) (p : ℕ) → IsEmptyPage area p → (y : ℕ) → how_many (is_headed_by area.slot y) (places_on p 0 (area.room p)) ≡ 0
none_headed area p empty y = none_pass (is_headed_by area.slot y) (places_on p 0 (area.room p))
    (λ at in_. ap (λ b. b && ((area.slot at).head.0 == y)) (empty at (on_page p 0 (area.room p) at in_)).0)

pub bucket_inside : (area : Area) → IsInBounds area → (e bucket : ℕ) → bucket < length (area.firsts e).buckets → e < 32
bucket_inside area bounds e bucket there = ⊎_elim (λ lt. lt) (λ le. absurd (none (subst (λ (u : Firsts). bucket < length u.buckets) (bounds.entries e le) there))) (cases_lt e 32)
  where
    none : bucket < 0 → ⊥
    none lt = omega (arith, lt)

module _ (counted : ℕ) (tables : Tables) (area : Area) (x p e : ℕ) (few : counted ≤ pages_bound) (bounds : IsInBounds area) (sound : IsSoundArea counted tables area)
    (listed : IsListedItem (Allocation x p) tables) (empty : IsEmptyPage area p) (inside : e < 32) where
  abbrev items_now : List SlogItem
  items_now = left_out (Allocation x p) tables.items

  found : (i : SlogItem) × (is_wanted (Allocation x p) i ≡ true) × IsWithOne i items_now tables.items
  found = taken_out (Allocation x p) tables.items listed

  its : found.0 ≡ AllocOf x p
  its = allocation_is x p found.0 found.1

  one : IsWithOne (AllocOf x p) items_now tables.items
  one = subst (λ i. IsWithOne i items_now tables.items) its found.2

  in_items : IsAmong p (flat_map page_of_item tables.items)
  in_items = (item_page x p tables.items listed).1

  some : p ≡ 0 → ⊥
  some is = zero_ p (item_fine counted tables area p few sound in_items).0 is
    where
      zero_ : (p : ℕ) → 3 ≤ p → p ≡ 0 → ⊥
      zero_ p le is = omega (arith, le, is)

  -- what is owed of the new first pages makes the area sound
  module _ (t : Firsts) (good : AreGoodFirsts area e t tables)
      (moved : (q : ℕ) → how_many (λ r. r == q) (pages_of_firsts area e t t) + 0 ≡ how_many (λ r. r == q) (table_pages area e) + bit (p == q)) where
    same_count : (q : ℕ) → how_many (λ r. r == q) (owned_pages items_now (with_firsts e t area)) ≡ how_many (λ r. r == q) (owned_pages tables.items area)
    same_count q = owned_moved area e t items_now q (bit (p == q)) 0 (how_many (λ r. r == q) (owned_pages tables.items area)) inside (moved q)
        (turned (how_many (λ r. r == q) (owned_pages items_now area)) (how_many (λ r. r == q) (owned_pages tables.items area)) (bit (p == q)) (owned_with (λ r. r == q) area (AllocOf x p) items_now tables.items one))
      where
        turned : (a b c : ℕ) → b ≡ a + (c + 0) → a + c ≡ b + 0
        turned a b c is = omega (arith, is)

    pub linked_sound : IsSoundArea counted (without_item (Allocation x p) tables) (with_firsts e t area)
    linked_sound = record {
      readable = firsts_readable area e t tables good sound.readable;
      behind = firsts_behind area e t tables good (is_committed_in tables) sound.behind;
      counts = firsts_counts area e t tables good sound.counts;
      owned = firsts_owned area e t counted (xids_in tables.opens) tables.items items_now sound.owned same_count
          (λ z in_. inl (items_up area.title (AllocOf x p) items_now tables.items one (alloc_of_page x p) z in_));
      keys = firsts_keys area e t tables good sound.keys;
      pointers = firsts_pointers area e t tables good sound.pointers;
      names = named_same (is_committed_in tables) (xids_in tables.opens) area.title tables.items items_now (shorter_same area.title (AllocOf x p) items_now tables.items one (alloc_of_page x p)) sound.names;
      below = firsts_below area e t tables good tables.next (xids_in tables.opens ++ xids_in tables.aborted) sound.below;
    }

  -- ---- to a bucket

  module _ (bucket : ℕ) (header : area.header p ≡ rows_header e bucket (first_page area e bucket)) (there : bucket < length (area.firsts e).buckets) where
    abbrev was_first : ℕ
    was_first = first_page area e bucket

    abbrev buckets : List ℕ
    buckets = (area.firsts e).buckets

    leads : (area.header p).next ≡ was_first
    leads = ap (λ (h : Header). h.next) header

    pub bucket_front : pages_from pages_bound area.header p ≡ p ∷ pages_from pages_bound area.header was_first
    bucket_front = front_chain area.header p was_first some leads (short_bucket counted tables area p few sound in_items e bucket inside there)

    abbrev with_page : Firsts
    with_page = with_bucket bucket p (area.firsts e)

    places : places_from area p ≡ places_on p 0 (area.room p) ++ places_from area was_first
    places = front_places area p was_first bucket_front

    bucket_good : AreGoodFirsts area e with_page tables
    bucket_good = record {
      rows = buckets_with area e 0 bucket p buckets (sound.readable.rows e)
          (front_ends area.header p was_first some leads (IsOfRows e (0 + bucket)) bucket_front (ap (λ (h : Header). h.kind) header, ap (λ (h : Header). h.entry) header, ap (λ (h : Header). h.bucket) header ∙ plain bucket)
          (bucket_chain area e 0 bucket buckets there (sound.readable.rows e)));
      versions = sound.readable.versions e;
      slots_back = λ at in_ used. ⊎_elim
          (λ new. ⊎_elim (λ on_it. absurd (false≢true (sym (empty at (on_page p 0 (area.room p) at on_it)).0 ∙ used)))
          (λ behind_. one_among (places_from area) at buckets bucket there behind_)
          (among_parts at (places_on p 0 (area.room p)) (places_from area was_first) (subst (IsAmong at) places new)))
          (λ was. was) (set_among (places_from area) at buckets bucket p in_);
      older_back = λ q in_ used. in_;
      older_there = λ at used q in_. in_;
      heads = λ h in_. same_heads h.0;
    }
      where
        plain : (n : ℕ) → n ≡ 0 + n
        plain n = omega arith

        same_heads : (y : ℕ) → how_many (is_headed_by area.slot y) (flat_map (places_from area) (set buckets bucket p)) ≡ how_many (is_headed_by area.slot y) (slot_places area e)
        same_heads y =
            let test = is_headed_by area.slot y in
            all (how_many test (flat_map (places_from area) (set buckets bucket p))) (how_many test (places_from area was_first)) (how_many test (slot_places area e)) (how_many test (places_from area p)) (how_many test (places_on p 0 (area.room p)))
            (set_count (places_from area) test buckets bucket p there)
            (ap (how_many test) places ∙ count_append test (places_on p 0 (area.room p)) (places_from area was_first))
            (none_headed area p empty y)
          where
            all : (a b c d f : ℕ) → a + b ≡ c + d → d ≡ f + b → f ≡ 0 → a ≡ c
            all a b c d f one two three = omega (arith, one, two, three)

    bucket_moved : (q : ℕ) → how_many (λ r. r == q) (pages_of_firsts area e with_page with_page) + 0 ≡ how_many (λ r. r == q) (table_pages area e) + bit (p == q)
    bucket_moved q =
        let g = pages_from pages_bound area.header in
        let test : ℕ → Bool = λ r. r == q in
        let versions = g (area.firsts e).versions in
        all (how_many test (flat_map g (set buckets bucket p))) (how_many test (flat_map g buckets)) (how_many test (g was_first)) (how_many test (g p)) (how_many test versions) (bit (p == q))
        (how_many test (pages_of_firsts area e with_page with_page)) (how_many test (table_pages area e))
        (set_count g test buckets bucket p there) (ap (how_many test) bucket_front)
        (count_append test (flat_map g (set buckets bucket p)) versions) (count_append test (flat_map g buckets) versions)
      where
        all : (a b c d v n x y : ℕ) → a + c ≡ b + d → d ≡ n + c → x ≡ a + v → y ≡ b + v → x + 0 ≡ y + n
        all a b c d v n x y one two three four = omega (arith, one, two, three, four)

    pub bucket_sound : IsSoundArea counted (without_item (Allocation x p) tables) (with_firsts e with_page area)
    bucket_sound = linked_sound with_page bucket_good bucket_moved

  -- ---- to the versions

  module _ (header : area.header p ≡ versions_header e (area.firsts e).versions) where
    abbrev was_older : ℕ
    was_older = (area.firsts e).versions

    older_leads : (area.header p).next ≡ was_older
    older_leads = ap (λ (h : Header). h.next) header

    pub older_front : pages_from pages_bound area.header p ≡ p ∷ pages_from pages_bound area.header was_older
    older_front = front_chain area.header p was_older some older_leads (short_versions counted tables area p few sound in_items e inside)

    abbrev with_older_page : Firsts
    with_older_page = record (area.firsts e) { versions = p }

    older_places_are : places_from area p ≡ places_on p 0 (area.room p) ++ places_from area was_older
    older_places_are = front_places area p was_older older_front

    older_good : AreGoodFirsts area e with_older_page tables
    older_good = record {
      rows = sound.readable.rows e;
      versions = front_ends area.header p was_older some older_leads (IsOfVersions e) older_front (ap (λ (h : Header). h.kind) header, ap (λ (h : Header). h.entry) header, ap (λ (h : Header). h.bucket) header) (sound.readable.versions e);
      slots_back = λ at in_ used. in_;
      older_back = λ q in_ used. ⊎_elim (λ on_it. absurd (false≢true (sym (empty q (on_page p 0 (area.room p) q on_it)).1 ∙ used))) (λ was. was)
          (among_parts q (places_on p 0 (area.room p)) (places_from area was_older) (subst (IsAmong q) older_places_are in_));
      older_there = λ at used q in_. subst (IsAmong q) (sym older_places_are) (among_rest q (places_on p 0 (area.room p)) (places_from area was_older) in_);
      heads = λ h in_. refl;
    }

    older_moved : (q : ℕ) → how_many (λ r. r == q) (pages_of_firsts area e with_older_page with_older_page) + 0 ≡ how_many (λ r. r == q) (table_pages area e) + bit (p == q)
    older_moved q =
        let g = pages_from pages_bound area.header in
        let test : ℕ → Bool = λ r. r == q in
        let rows = flat_map g (area.firsts e).buckets in
        all (how_many test rows) (how_many test (g p)) (how_many test (g was_older)) (bit (p == q)) (how_many test (pages_of_firsts area e with_older_page with_older_page)) (how_many test (table_pages area e))
        (ap (how_many test) older_front) (count_append test rows (g p)) (count_append test rows (g was_older))
      where
        all : (a b c n x y : ℕ) → b ≡ n + c → x ≡ a + b → y ≡ a + c → x + 0 ≡ y + n
        all a b c n x y one two three = omega (arith, one, two, three)

    pub older_sound : IsSoundArea counted (without_item (Allocation x p) tables) (with_firsts e with_older_page area)
    older_sound = linked_sound with_older_page older_good older_moved
