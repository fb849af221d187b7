-- The first pages of one entry are others: what stays sound.
use Rattle.std.proofs.Common.{◌≡◌, ◌⊎◌, ⊎_elim, inl, inr, ℕ, ◌+◌, ◌<◌, ◌≤◌, zero, suc, Bool, true, cond, List, [], ◌∷◌, ◌++◌, refl, sym, ◌∙◌, ap, subst, arith}
use Rattle.std.proofs.lemmas.Bool.{false≢true, eq-eqb, eqb-true}
use Rattle.std.specs.List.{flat_map}
use Rattle.std.specs.Prelude.{◌==◌}
use Rattle.ctr_area.proofs.Buckets.{each_of}
use Rattle.ctr_area.specs.Areas.{Firsts, Area}
use Rattle.ctr_area.specs.Chains.{pages_bound, older_bound, pages_from, places_from, slot_places, older_places, table_pages}
use Rattle.ctr_area.specs.Changes.{with_firsts}
use Rattle.ctr_area.specs.Images.{numbers, entry_numbers}
use Rattle.ctr_area.specs.Sound.{IsAmong, how_many, IsUsedSlot, EndsIn, IsOfVersions, AreBuckets, AreReadable, AreBehind, is_headed_by, head_count, AreCounted, page_of_item, owned_pages, AreOwned, AreKeyed, IsKeptFor, ArePointed, NumbersBelow}
use Rattle.ctr_area.specs.meta_Tables.{Tables}
use Rattle.ctr_record_laws.proofs.Along.{leads_same}
use Rattle.ctr_record_laws.proofs.Members.{count_append, count_among, bit}
use Rattle.ctr_area.specs.ctr_page.declared.rows.Place.{Place}
use Rattle.ctr_area.specs.rec_SlogItem.{SlogItem}
use Rattle.ctr_area.specs.rec_SlogItem.TheVariants.{AllocOf, FreeOf, CreateOf, DropOf}
use Rattle.ctr_record_laws.proofs.Named.{kind_of_item}
use Rattle.ctr_record_laws.proofs.Owning.{all_of}
use Rattle.ctr_area.proofs.ctr_versions.Keys.{known}

pub counted_among : (q : ℕ) (xs : List ℕ) → 1 ≤ how_many (λ r. r == q) xs → IsAmong q xs
counted_among q [] le = absurd (omega (arith, le))
counted_among q (x ∷ xs) le = known (x == q)
    (λ is. inl (sym (eqb-true x q is)))
    (λ isnt. inr (counted_among q xs (plain (how_many (λ r. r == q) xs) (subst (λ b. 1 ≤ bit b + how_many (λ r. r == q) xs) isnt le))))
  where
    plain : (n : ℕ) → 1 ≤ 0 + n → 1 ≤ n
    plain n le = omega (arith, le)

module _ (area : Area) (e : ℕ) (t : Firsts) where
  abbrev pub after : Area
  after = with_firsts e t area

  -- what holds of the entry with these, and of the others with theirs, holds of each
  pub by_entry : (P : ℕ → Firsts → Type 0) → P e t → ((f : ℕ) → (f ≡ e → ⊥) → P f (area.firsts f)) → (f : ℕ) → P f (after.firsts f)
  by_entry P here others f = known (f == e)
      (λ is. subst (P f) (sym (ap (λ b. cond b t (area.firsts f)) is)) (subst (λ f. P f t) (sym (eqb-true f e is)) here))
      (λ isnt. subst (P f) (sym (ap (λ b. cond b t (area.firsts f)) isnt)) (others f (λ is. false≢true (sym isnt ∙ eq-eqb f e is))))

  -- what is owed of the new first pages
  pub record AreGoodFirsts (tables : Tables) : Type 0 where
    pub rows : AreBuckets area e 0 t.buckets
    pub versions : EndsIn pages_bound area.header (IsOfVersions e) t.versions
    pub slots_back : (at : Place) → IsAmong at (flat_map (places_from area) t.buckets) → (area.slot at).used ≡ true → IsAmong at (slot_places area e)
    pub older_back : (q : Place) → IsAmong q (places_from area t.versions) → (area.older q).used ≡ true → IsAmong q (older_places area e)
    pub older_there : (at : Place) → IsUsedSlot area e at → (q : Place) → IsAmong q (older_places area e) → IsAmong q (places_from area t.versions)
    pub heads : (p : ℕ × ℕ) → IsAmong p (tables.opens ++ tables.aborted)
        → how_many (is_headed_by area.slot p.0) (flat_map (places_from area) t.buckets) ≡ how_many (is_headed_by area.slot p.0) (slot_places area e)

  module _ (tables : Tables) (good : AreGoodFirsts tables) where
    pub firsts_readable : AreReadable area → AreReadable after
    firsts_readable readable = record {
      rows = by_entry (λ f u. AreBuckets after f 0 u.buckets) good.rows (λ f apart. readable.rows f);
      versions = by_entry (λ f u. EndsIn pages_bound area.header (IsOfVersions f) u.versions) good.versions (λ f apart. readable.versions f);
    }

    used_was : (f : ℕ) (at : Place) → IsUsedSlot after f at → IsUsedSlot area f at
    used_was f at used = (
      by_entry (λ f u. IsAmong at (flat_map (places_from area) u.buckets) → IsAmong at (slot_places area f)) (λ in_. good.slots_back at in_ used.1) (λ f apart in_. in_) f used.0,
      used.1,
    )

    pub firsts_behind : (committed : ℕ → Bool) → AreBehind committed area → AreBehind committed after
    firsts_behind committed behind f at used = behind f at (used_was f at used)

    pub firsts_keys : AreKeyed area → AreKeyed after
    firsts_keys keys = record {
      once = λ f a b used_a used_b same_. keys.once f a b (used_was f a used_a) (used_was f b used_b) same_;
      bucket = λ f at used. keys.bucket f at (used_was f at used);
    }

    older_now : (f : ℕ) (at : Place) → IsUsedSlot area f at → (q : Place) → IsAmong q (older_places area f) → IsAmong q (older_places after f)
    older_now f at used q in_ = by_entry (λ f u. IsUsedSlot area f at → IsAmong q (older_places area f) → IsAmong q (places_from area u.versions))
        (λ its was. good.older_there at its q was) (λ f apart its was. was) f used in_

    pub firsts_pointers : ArePointed area → ArePointed after
    firsts_pointers pointers = record {
      lead = λ f at used. let was = used_was f at used in
          leads_same area.older (IsKeptFor area f (area.slot at).key) area.older (IsKeptFor after f (area.slot at).key) (λ q its. refl)
          (λ q its. (older_now f at was q its.0, its.1, its.2)) older_bound (area.slot at).pointer (pointers.lead f at was);
      apart = λ f g a b q used_a used_b in_a in_b. pointers.apart f g a b q (used_was f a used_a) (used_was g b used_b) in_a in_b;
    }

    pub firsts_below : (next : ℕ) (xids : List ℕ) → NumbersBelow next xids area → NumbersBelow next xids after
    firsts_below next xids below = record {
      slots = λ f at used. below.slots f at (used_was f at used);
      older = λ f q in_ used. below.older f q (by_entry (λ f u. IsAmong q (places_from area u.versions) → IsAmong q (older_places area f)) (λ now. good.older_back q now used) (λ f apart was. was) f in_) used;
      entries = below.entries;
      drawn = below.drawn;
      once = below.once;
    }

    counts_each : (test : Place → Bool) → how_many test (flat_map (places_from area) t.buckets) ≡ how_many test (slot_places area e)
        → (es : List ℕ) → how_many test (flat_map (slot_places after) es) ≡ how_many test (flat_map (slot_places area) es)
    counts_each test same_ [] = refl
    counts_each test same_ (f ∷ fs) =
        count_append test (slot_places after f) (flat_map (slot_places after) fs)
        ∙ (λ i. by_entry (λ f u. how_many test (flat_map (places_from area) u.buckets) ≡ how_many test (slot_places area f)) same_ (λ f apart. refl) f i + counts_each test same_ fs i)
        ∙ sym (count_append test (slot_places area f) (flat_map (slot_places area) fs))

    pub firsts_counts : AreCounted tables area → AreCounted tables after
    firsts_counts counts = all_of (λ (p : ℕ × ℕ). p.1 ≡ head_count after p.0) (tables.opens ++ tables.aborted)
        (λ p in_. each_of (λ (p : ℕ × ℕ). p.1 ≡ head_count area p.0) p (tables.opens ++ tables.aborted) counts in_
        ∙ sym (counts_each (is_headed_by area.slot p.0) (good.heads p in_) entry_numbers))

  -- ---- who owns a page

  abbrev pub pages_of_firsts : Firsts → List ℕ
  pages_of_firsts u = flat_map (pages_from pages_bound area.header) u.buckets ++ pages_from pages_bound area.header u.versions

  module _ (test : ℕ → Bool) (c d : ℕ) (moved : how_many test (pages_of_firsts t) + d ≡ how_many test (table_pages area e) + c) where
    table_apart : (f : ℕ) → (f ≡ e → ⊥) → how_many test (table_pages after f) ≡ how_many test (table_pages area f)
    table_apart f apart = by_entry (λ g u. (g ≡ e → ⊥) → how_many test (pages_of_firsts u) ≡ how_many test (table_pages area g)) (λ is. absurd (is refl)) (λ g not_e now. refl) f apart

    table_here : (f : ℕ) → f ≡ e → how_many test (table_pages after f) + d ≡ how_many test (table_pages area f) + c
    table_here f is = by_entry (λ g u. (g ≡ e) → how_many test (pages_of_firsts u) + d ≡ how_many test (table_pages area g) + c) (λ same_. moved) (λ g not_e same_. absurd (not_e same_)) f is

    past : (k n : ℕ) → e < k → how_many test (flat_map (table_pages after) (numbers k n)) ≡ how_many test (flat_map (table_pages area) (numbers k n))
    past k zero lt = refl
    past k (suc n) lt =
        count_append test (table_pages after k) (flat_map (table_pages after) (numbers (k + 1) n))
        ∙ (λ i. table_apart k (λ is. omega (arith, lt, is)) i + past (k + 1) n (omega (arith, lt)) i)
        ∙ sym (count_append test (table_pages area k) (flat_map (table_pages area) (numbers (k + 1) n)))

    tables_moved : (k n : ℕ) → k ≤ e → e < k + n → how_many test (flat_map (table_pages after) (numbers k n)) + d ≡ how_many test (flat_map (table_pages area) (numbers k n)) + c
    tables_moved k zero from to = absurd (omega (arith, from, to))
    tables_moved k (suc n) from to = known (k == e)
        (λ is. let same_ = eqb-true k e is in
        here (how_many test (table_pages after k)) (how_many test (table_pages area k)) (how_many test (flat_map (table_pages after) (numbers (k + 1) n))) (how_many test (flat_map (table_pages area) (numbers (k + 1) n)))
        (how_many test (flat_map (table_pages after) (numbers k (suc n)))) (how_many test (flat_map (table_pages area) (numbers k (suc n))))
        (count_append test (table_pages after k) (flat_map (table_pages after) (numbers (k + 1) n))) (count_append test (table_pages area k) (flat_map (table_pages area) (numbers (k + 1) n)))
        (table_here k same_) (past (k + 1) n (omega (arith, same_))))
        (λ isnt. let apart : k ≡ e → ⊥ = λ is. false≢true (sym isnt ∙ eq-eqb k e is) in
        there (how_many test (table_pages after k)) (how_many test (table_pages area k)) (how_many test (flat_map (table_pages after) (numbers (k + 1) n))) (how_many test (flat_map (table_pages area) (numbers (k + 1) n)))
        (how_many test (flat_map (table_pages after) (numbers k (suc n)))) (how_many test (flat_map (table_pages area) (numbers k (suc n))))
        (count_append test (table_pages after k) (flat_map (table_pages after) (numbers (k + 1) n))) (count_append test (table_pages area k) (flat_map (table_pages area) (numbers (k + 1) n)))
        (table_apart k apart) (tables_moved (k + 1) n (later k e from apart) (omega (arith, to))))
      where
        later : (k e : ℕ) → k ≤ e → (k ≡ e → ⊥) → k + 1 ≤ e
        later k e from apart = omega (arith, from, apart)

        here : (a b x y u v : ℕ) → u ≡ a + x → v ≡ b + y → a + d ≡ b + c → x ≡ y → u + d ≡ v + c
        here a b x y u v one two is same_ = omega (arith, one, two, is, same_)

        there : (a b x y u v : ℕ) → u ≡ a + x → v ≡ b + y → a ≡ b → x + d ≡ y + c → u + d ≡ v + c
        there a b x y u v one two is same_ = omega (arith, one, two, is, same_)

    pub pages_moved : e < 32 → how_many test (flat_map (table_pages after) entry_numbers) + d ≡ how_many test (flat_map (table_pages area) entry_numbers) + c
    unfolding entry_numbers
    pages_moved inside = tables_moved 0 32 (omega arith) (omega (arith, inside))

  -- how often a page is owned, where the entry's chains and the items have it other times
  pub owned_moved : (items : List SlogItem) (q c d count : ℕ) → e < 32 → how_many (λ r. r == q) (pages_of_firsts t) + d ≡ how_many (λ r. r == q) (table_pages area e) + c
      → how_many (λ r. r == q) (owned_pages items area) + c ≡ count + d → how_many (λ r. r == q) (owned_pages items after) ≡ count
  owned_moved items q c d count inside moved owned =
      let new_tables = flat_map (table_pages after) entry_numbers in
      let old_tables = flat_map (table_pages area) entry_numbers in
      all (how_many (λ r. r == q) new_tables) (how_many (λ r. r == q) old_tables) (how_many (λ r. r == q) (flat_map page_of_item items)) (how_many (λ r. r == q) (owned_pages items area))
      (how_many (λ r. r == q) (owned_pages items after)) (pages_moved (λ r. r == q) c d moved inside)
      (count_append (λ r. r == q) old_tables (flat_map page_of_item items)) (count_append (λ r. r == q) new_tables (flat_map page_of_item items)) owned
    where
      all : (a b i x y : ℕ) → a + d ≡ b + c → x ≡ b + i → y ≡ a + i → x + c ≡ count + d → y ≡ count
      all a b i x y one two three four = omega (arith, one, two, three, four)

  -- a page goes from the items to the entry's chains, or the other way
  module _ (counted : ℕ) (live : List ℕ) (items items_now : List SlogItem) (owned : AreOwned counted live items area)
      (same_count : (q : ℕ) → how_many (λ r. r == q) (owned_pages items_now after) ≡ how_many (λ r. r == q) (owned_pages items area))
      (back : (z : SlogItem) → IsAmong z items_now → IsAmong z items ⊎ ((p : ℕ) × (z ≡ FreeOf p))) where
    pub firsts_owned : AreOwned counted live items_now after
    firsts_owned = record {
      once = λ q behind_ inside_. same_count q ∙ owned.once q behind_ inside_;
      inside = all_of (λ q. (3 ≤ q) × (q < counted) × (area.taken q ≡ true)) (owned_pages items_now after)
          (λ q in_. each_of (λ q. (3 ≤ q) × (q < counted) × (area.taken q ≡ true)) q (owned_pages items area) owned.inside
          (counted_among q (owned_pages items area) (subst (λ n. 1 ≤ n) (same_count q) (count_among q (owned_pages items_now after) in_))));
      uncounted = owned.uncounted;
      allocs = λ x p in_. owned.allocs x p (was (AllocOf x p) (λ q is. other_kind 1 (λ z. omega (arith, z)) (ap kind_of_item is)) in_);
      creates = λ x p in_. owned.creates x p (was (CreateOf x p) (λ q is. other_kind 3 (λ z. omega (arith, z)) (ap kind_of_item is)) in_);
      drops = λ x p in_. owned.drops x p (was (DropOf x p) (λ q is. other_kind 4 (λ z. omega (arith, z)) (ap kind_of_item is)) in_);
    }
      where
        was : (z : SlogItem) → ((p : ℕ) → z ≡ FreeOf p → ⊥) → IsAmong z items_now → IsAmong z items
        was z isnt in_ = ⊎_elim (λ there. there) (λ free. absurd (isnt free.0 free.1)) (back z in_)

        other_kind : (n : ℕ) → (n ≡ 2 → ⊥) → n ≡ 2 → ⊥
        other_kind n isnt is = isnt is
