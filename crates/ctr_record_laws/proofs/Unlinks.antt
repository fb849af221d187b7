-- An Unlink: the first page of a chain leaves it, and is to be freed.
use Rattle.std.proofs.Common.{◌≡◌, ◌⊎◌, ⊎_elim, inl, inr, ℕ, ◌+◌, ◌<◌, Bool, true, List, [], ◌∷◌, ◌++◌, set, length, refl, sym, ◌∙◌, ap, subst, arith}
use Rattle.std.proofs.lemmas.Bool.{false≢true, ne_eqb, cases_lt}
use Rattle.std.proofs.lemmas.List.{append-nil}
use Rattle.std.specs.List.{flat_map}
use Rattle.std.specs.Prelude.{◌==◌, ◌&&◌}
use Rattle.ctr_area.specs.Areas.{Firsts, Area}
use Rattle.ctr_area.specs.Chains.{pages_bound, pages_from, places_on, places_from, slot_places, table_pages}
use Rattle.ctr_area.specs.Changes.{with_firsts, with_bucket}
use Rattle.ctr_area.specs.Images.{is_committed_in}
use Rattle.ctr_area.specs.Sound.{IsAmong, how_many, xids_in, IsUsedSlot, EndsIn, IsOfRows, IsOfVersions, is_headed_by, owned_pages, IsSoundArea}
use Rattle.ctr_area.proofs.meta_XidLaws.{in_head, in_rest}
use Rattle.ctr_area.specs.meta_Effects.{with_item}
use Rattle.ctr_area.specs.meta_Tables.{Tables, is_in}
use Rattle.ctr_record_laws.proofs.Heads.{listed_open}
use Rattle.ctr_record_laws.proofs.Members.{among_front, among_rest, among_parts, on_page, count_append, bit}
use Rattle.ctr_record_laws.specs.Bounds.{IsInBounds}
use Rattle.ctr_area.specs.ctr_page.declared.rows.Place.{Place}
use Rattle.ctr_area.specs.rec_SlogItem.{SlogItem}
use Rattle.ctr_area.specs.rec_SlogItem.TheVariants.{FreeOf}
use Rattle.ctr_record_laws.proofs.Ends.{behind_chain, front_places, set_count, set_among, one_among, bucket_chain, buckets_with}
use Rattle.ctr_record_laws.proofs.Firsts.{firsts_readable, firsts_behind, firsts_keys, firsts_pointers, firsts_below, firsts_counts, pages_of_firsts, owned_moved, firsts_owned, AreGoodFirsts}
use Rattle.ctr_record_laws.proofs.Items.{or_the_one, added, IsWithOne}
use Rattle.ctr_record_laws.proofs.Links.{none_pass}
use Rattle.ctr_record_laws.proofs.Named.{free_of_page, named_same, longer_same}
use Rattle.ctr_record_laws.proofs.Owning.{owned_with}
use Rattle.ctr_record_laws.specs.Owed.{first_page}
use Rattle.ctr_area.proofs.ctr_versions.Keys.{known}

pub above_zero : (p : ℕ) → 0 < p → p ≡ 0 → ⊥
above_zero p lt is = omega (arith, lt, is)

pub older_inside : (area : Area) → IsInBounds area → (p e : ℕ) → (area.firsts e).versions ≡ p → 0 < p → e < 32
older_inside area bounds p e first some = ⊎_elim (λ lt. lt) (λ le. absurd (above_zero p some (sym first ∙ ap (λ (u : Firsts). u.versions) (bounds.entries e le)))) (cases_lt e 32)

module _ (counted : ℕ) (tables : Tables) (area : Area) (p e : ℕ) (sound : IsSoundArea counted tables area) (some : p ≡ 0 → ⊥) (inside : e < 32) where
  abbrev next : ℕ
  next = (area.header p).next

  abbrev items_now : List SlogItem
  items_now = tables.items ++ FreeOf p ∷ []

  one : IsWithOne (FreeOf p) tables.items items_now
  one = added (FreeOf p) tables.items

  module _ (t : Firsts) (good : AreGoodFirsts area e t tables)
      (moved : (q : ℕ) → how_many (λ r. r == q) (pages_of_firsts area e t t) + bit (p == q) ≡ how_many (λ r. r == q) (table_pages area e) + 0) where
    same_count : (q : ℕ) → how_many (λ r. r == q) (owned_pages items_now (with_firsts e t area)) ≡ how_many (λ r. r == q) (owned_pages tables.items area)
    same_count q = owned_moved area e t items_now q 0 (bit (p == q)) (how_many (λ r. r == q) (owned_pages tables.items area)) inside (moved q)
        (turned (how_many (λ r. r == q) (owned_pages items_now area)) (how_many (λ r. r == q) (owned_pages tables.items area)) (bit (p == q)) (owned_with (λ r. r == q) area (FreeOf p) tables.items items_now one))
      where
        turned : (a b c : ℕ) → a ≡ b + (c + 0) → a + 0 ≡ b + c
        turned a b c is = omega (arith, is)

    pub unlinked_sound : IsSoundArea counted (with_item (FreeOf p) tables) (with_firsts e t area)
    unlinked_sound = record {
      readable = firsts_readable area e t tables good sound.readable;
      behind = firsts_behind area e t tables good (is_committed_in tables) sound.behind;
      counts = firsts_counts area e t tables good sound.counts;
      owned = firsts_owned area e t counted (xids_in tables.opens) tables.items items_now sound.owned same_count
          (λ z in_. ⊎_elim (λ is. inr (p, is)) (λ was. inl (subst (IsAmong z) (append-nil tables.items) was)) (or_the_one z (FreeOf p) tables.items [] in_));
      keys = firsts_keys area e t tables good sound.keys;
      pointers = firsts_pointers area e t tables good sound.pointers;
      names = named_same (is_committed_in tables) (xids_in tables.opens) area.title tables.items items_now (longer_same area.title (FreeOf p) tables.items items_now one (free_of_page p)) sound.names;
      below = firsts_below area e t tables good tables.next (xids_in tables.opens ++ xids_in tables.aborted) sound.below;
    }

  -- ---- from a bucket

  module _ (bucket : ℕ) (there : bucket < length (area.firsts e).buckets) (first : first_page area e bucket ≡ p)
      (heads : (at : Place) → IsUsedSlot area e at → at.page ≡ p → is_committed_in tables (area.slot at).head.0 ≡ true) where
    abbrev buckets : List ℕ
    buckets = (area.firsts e).buckets

    chain : (pages_from pages_bound area.header p ≡ p ∷ pages_from pages_bound area.header next) × EndsIn pages_bound area.header (IsOfRows e (0 + bucket)) next
    chain = behind_chain area.header p next some refl (IsOfRows e (0 + bucket))
        (subst (EndsIn pages_bound area.header (IsOfRows e (0 + bucket))) first (bucket_chain area e 0 bucket buckets there (sound.readable.rows e)))

    places : places_from area p ≡ places_on p 0 (area.room p) ++ places_from area next
    places = front_places area p next chain.0

    abbrev without_page : Firsts
    without_page = with_bucket bucket next (area.firsts e)

    -- the places on it are those of slots
    in_table : (at : Place) → IsAmong at (places_on p 0 (area.room p)) → IsAmong at (slot_places area e)
    in_table at on_it = one_among (places_from area) at buckets bucket there
        (subst (λ f. IsAmong at (places_from area f)) (sym first) (subst (IsAmong at) (sym places) (among_front at (places_on p 0 (area.room p)) (places_from area next) on_it)))

    -- no head on it is counted
    no_heads : (h : ℕ × ℕ) → IsAmong h (tables.opens ++ tables.aborted) → how_many (is_headed_by area.slot h.0) (places_on p 0 (area.room p)) ≡ 0
    no_heads h in_ = none_pass (is_headed_by area.slot h.0) (places_on p 0 (area.room p))
        (λ at on_it. known (area.slot at).used
        (λ used. ap (λ b. b && ((area.slot at).head.0 == h.0)) used
        ∙ ne_eqb (area.slot at).head.0 h.0 (λ is. false≢true (sym (listed_open tables h.0 (listed_one h in_)) ∙ ap (is_committed_in tables) (sym is) ∙ heads at (in_table at on_it, used) (on_page p 0 (area.room p) at on_it))))
        (λ free. ap (λ b. b && ((area.slot at).head.0 == h.0)) free))
      where
        in_list : (h : ℕ × ℕ) (ps : List (ℕ × ℕ)) → IsAmong h ps → is_in h.0 ps ≡ true
        in_list h [] in_ = absurd in_
        in_list h (q ∷ ps) (inl is) = in_head h.0 q ps (ap (λ (h : ℕ × ℕ). h.0) is)
        in_list h (q ∷ ps) (inr in_) = in_rest h.0 q ps (in_list h ps in_)

        listed_one : (h : ℕ × ℕ) → IsAmong h (tables.opens ++ tables.aborted) → (is_in h.0 tables.opens ≡ true) ⊎ (is_in h.0 tables.aborted ≡ true)
        listed_one h in_ = ⊎_elim (λ open_. inl (in_list h tables.opens open_)) (λ gone. inr (in_list h tables.aborted gone)) (among_parts h tables.opens tables.aborted in_)

    bucket_good : AreGoodFirsts area e without_page tables
    bucket_good = record {
      rows = buckets_with area e 0 bucket next buckets (sound.readable.rows e) chain.1;
      versions = sound.readable.versions e;
      slots_back = λ at in_ used. ⊎_elim
          (λ behind_. one_among (places_from area) at buckets bucket there
          (subst (λ f. IsAmong at (places_from area f)) (sym first) (subst (IsAmong at) (sym places) (among_rest at (places_on p 0 (area.room p)) (places_from area next) behind_))))
          (λ was. was) (set_among (places_from area) at buckets bucket next in_);
      older_back = λ q in_ used. in_;
      older_there = λ at used q in_. in_;
      heads = λ h in_.
          let test = is_headed_by area.slot h.0 in
          all (how_many test (flat_map (places_from area) (set buckets bucket next))) (how_many test (places_from area (first_page area e bucket))) (how_many test (places_from area p)) (how_many test (slot_places area e))
          (how_many test (places_from area next)) (how_many test (places_on p 0 (area.room p)))
          (set_count (places_from area) test buckets bucket next there) (ap (λ f. how_many test (places_from area f)) first)
          (ap (how_many test) places ∙ count_append test (places_on p 0 (area.room p)) (places_from area next)) (no_heads h in_);
    }
      where
        all : (a b c d f g : ℕ) → a + b ≡ d + f → b ≡ c → c ≡ g + f → g ≡ 0 → a ≡ d
        all a b c d f g one two three four = omega (arith, one, two, three, four)

    bucket_moved : (q : ℕ) → how_many (λ r. r == q) (pages_of_firsts area e without_page without_page) + bit (p == q) ≡ how_many (λ r. r == q) (table_pages area e) + 0
    bucket_moved q =
        let g = pages_from pages_bound area.header in
        let test : ℕ → Bool = λ r. r == q in
        let versions = g (area.firsts e).versions in
        all (how_many test (flat_map g (set buckets bucket next))) (how_many test (flat_map g buckets)) (how_many test (g (first_page area e bucket))) (how_many test (g p)) (how_many test (g next)) (how_many test versions) (bit (p == q))
        (how_many test (pages_of_firsts area e without_page without_page)) (how_many test (table_pages area e))
        (set_count g test buckets bucket next there) (ap (λ f. how_many test (g f)) first) (ap (how_many test) chain.0)
        (count_append test (flat_map g (set buckets bucket next)) versions) (count_append test (flat_map g buckets) versions)
      where
        all : (a b c d f v n x y : ℕ) → a + c ≡ b + f → c ≡ d → d ≡ n + f → x ≡ a + v → y ≡ b + v → x + n ≡ y + 0
        all a b c d f v n x y one two three four five = omega (arith, one, two, three, four, five)

    pub unlink_sound : IsSoundArea counted (with_item (FreeOf p) tables) (with_firsts e without_page area)
    unlink_sound = unlinked_sound without_page bucket_good bucket_moved

  -- ---- from the versions

  module _ (first : (area.firsts e).versions ≡ p) (none : (at : Place) → IsUsedSlot area e at → ⊥) where
    older_chain : (pages_from pages_bound area.header p ≡ p ∷ pages_from pages_bound area.header next) × EndsIn pages_bound area.header (IsOfVersions e) next
    older_chain = behind_chain area.header p next some refl (IsOfVersions e) (subst (EndsIn pages_bound area.header (IsOfVersions e)) first (sound.readable.versions e))

    older_places_are : places_from area p ≡ places_on p 0 (area.room p) ++ places_from area next
    older_places_are = front_places area p next older_chain.0

    abbrev without_older_page : Firsts
    without_older_page = record (area.firsts e) { versions = next }

    older_good : AreGoodFirsts area e without_older_page tables
    older_good = record {
      rows = sound.readable.rows e;
      versions = older_chain.1;
      slots_back = λ at in_ used. in_;
      older_back = λ q in_ used. subst (λ f. IsAmong q (places_from area f)) (sym first) (subst (IsAmong q) (sym older_places_are) (among_rest q (places_on p 0 (area.room p)) (places_from area next) in_));
      older_there = λ at used q in_. absurd (none at used);
      heads = λ h in_. refl;
    }

    older_moved : (q : ℕ) → how_many (λ r. r == q) (pages_of_firsts area e without_older_page without_older_page) + bit (p == q) ≡ how_many (λ r. r == q) (table_pages area e) + 0
    older_moved q =
        let g = pages_from pages_bound area.header in
        let test : ℕ → Bool = λ r. r == q in
        let rows = flat_map g (area.firsts e).buckets in
        all (how_many test rows) (how_many test (g (area.firsts e).versions)) (how_many test (g p)) (how_many test (g next)) (bit (p == q)) (how_many test (pages_of_firsts area e without_older_page without_older_page)) (how_many test (table_pages area e))
        (ap (λ f. how_many test (g f)) first) (ap (how_many test) older_chain.0) (count_append test rows (g next)) (count_append test rows (g (area.firsts e).versions))
      where
        all : (a b c d n x y : ℕ) → b ≡ c → c ≡ n + d → x ≡ a + d → y ≡ a + b → x + n ≡ y + 0
        all a b c d n x y one two three four = omega (arith, one, two, three, four)

    pub older_unlink_sound : IsSoundArea counted (with_item (FreeOf p) tables) (with_firsts e without_older_page area)
    older_unlink_sound = unlinked_sound without_older_page older_good older_moved
