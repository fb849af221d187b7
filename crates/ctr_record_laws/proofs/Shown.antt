-- Records on whole pages show the same.
use Rattle.std.proofs.Common.{◌≡◌, inl, inr, ℕ, ◌<◌, ◌≤◌, zero, suc, Bool, true, false, cond, List, [], ◌∷◌, ◌++◌, append_assoc, map, set, length, slice_index, refl, sym, ◌∙◌, ap, arith}
use Rattle.std.proofs.lemmas.Bool.{eq-eqb, and_from}
use Rattle.std.specs.FinMap.Entries.{put}
use Rattle.std.specs.List.{flat_map, filter}
use Rattle.std.specs.Ordering.{int_cmp}
use Rattle.std.specs.Prelude.{◌==◌}
use Rattle.ctr_area.specs.Areas.{Firsts, Slot, Older, free_slot, free_older, Area}
use Rattle.ctr_area.specs.Chains.{pages_bound, pages_from, places_on, places_from, slot_places, table_pages, chain_of}
use Rattle.ctr_area.specs.Changes.{with_firsts, with_bucket, with_taken, with_blank}
use Rattle.ctr_area.specs.Images.{rows_gathered, rows_of_entry, entry_numbers, tables_standing, names_gathered, name_chain, all_numbered, is_standing}
use Rattle.ctr_area.specs.Sound.{IsAmong, IsSoundArea}
use Rattle.ctr_area.specs.meta_Effects.{with_item}
use Rattle.ctr_area.specs.meta_Items.{is_item_by}
use Rattle.ctr_area.specs.meta_Tables.{Tables}
use Rattle.ctr_area.specs.meta_Wanted.TheVariants.{Allocation, OfPage}
use Rattle.ctr_area.specs.model_Database.{name_cmp}
use Rattle.ctr_record_laws.proofs.Members.{among_front, on_page}
use Rattle.ctr_record_laws.specs.Bounds.{IsInBounds}
use Rattle.ctr_area.specs.ctr_page.declared.header.Header.{Header}
use Rattle.ctr_area.specs.ctr_page.declared.rows.Place.{Place}
use Rattle.ctr_area.specs.rec_SlogItem.TheVariants.{AllocOf, FreeOf, CreateOf, DropOf}
use Rattle.ctr_record_laws.proofs.Away.{away_chain, place_on_chains, slot_places_same, IsSameOn}
use Rattle.ctr_record_laws.proofs.Ends.{front_places}
use Rattle.ctr_record_laws.proofs.Firsts.{by_entry}
use Rattle.ctr_record_laws.proofs.Format.{same_away, in_tables, item_page}
use Rattle.ctr_record_laws.proofs.Items.{the_one, any_there}
use Rattle.ctr_record_laws.proofs.Links.{bucket_inside, bucket_front}
use Rattle.ctr_record_laws.proofs.Undone.{filter_there}
use Rattle.ctr_record_laws.specs.Owed.{OwedByFree, OwedByFormat, IsEmptyPage, rows_header, versions_header, first_page, OwedByLink, OwedByOlderLink, OwedByUncreate, OwedByUndrop}
use Rattle.ctr_record_laws.specs.Shows.{ShowTheSame}
use Rattle.ctr_area.proofs.ctr_versions.Keys.{known}
use Rattle.ctr_area.specs.versions_Listing.{entries_seen}

module _ (old new : Area) (titles : (f : ℕ) → new.title f ≡ old.title f) (rows : (f : ℕ) → rows_of_entry new f ≡ rows_of_entry old f) where
  tables_same : (committed : ℕ → Bool) (es : List ℕ) → tables_standing committed new es ≡ tables_standing committed old es
  tables_same committed [] = refl
  tables_same committed (e ∷ es) = λ i. cond (is_standing committed (titles e i))
      (put name_cmp (titles e i).name (record { schema = record { columns = (titles e i).columns }; rows = entries_seen committed (rows e i) }) (tables_same committed es i))
      (tables_same committed es i)

  -- where titles and rows are what they were
  pub shows_same : ShowTheSame old new
  shows_same committed = (
    (λ i. record { names = names_gathered (name_chain committed (λ f. titles f i)) (all_numbered (λ f. titles f i)); slots = map (λ e. (e, rows e i)) entry_numbers }),
    tables_same committed entry_numbers,
  )

-- ---- rows by key

-- unused slots don't matter
skipped : (older : Place → Older) (slot : Place → Slot) (xs ys : List Place) → ((at : Place) → IsAmong at xs → (slot at).used ≡ false) → rows_gathered older slot (xs ++ ys) ≡ rows_gathered older slot ys
skipped older slot [] ys unused = refl
skipped older slot (x ∷ xs) ys unused =
    ap (λ b. cond b (put int_cmp (slot x).key (chain_of older (slot x)) (rows_gathered older slot (xs ++ ys))) (rows_gathered older slot (xs ++ ys))) (unused x (inl refl))
    ∙ skipped older slot xs ys (λ at in_. unused at (inr in_))

-- behind others
gathered_behind : (older : Place → Older) (slot : Place → Slot) (xs ys zs : List Place) → rows_gathered older slot ys ≡ rows_gathered older slot zs → rows_gathered older slot (xs ++ ys) ≡ rows_gathered older slot (xs ++ zs)
gathered_behind older slot [] ys zs same_ = same_
gathered_behind older slot (x ∷ xs) ys zs same_ = ap (λ g. cond (slot x).used (put int_cmp (slot x).key (chain_of older (slot x)) g) g) (gathered_behind older slot xs ys zs same_)

-- a page of unused slots in front of one of several chains
set_gathered : (area : Area) (ps : List ℕ) (b p : ℕ) → b < length ps → ((at : Place) → at.page ≡ p → (area.slot at).used ≡ false)
    → places_from area p ≡ places_on p 0 (area.room p) ++ places_from area (slice_index ps b)
    → rows_gathered area.older area.slot (flat_map (places_from area) (set ps b p)) ≡ rows_gathered area.older area.slot (flat_map (places_from area) ps)
set_gathered area [] b p lt unused places = absurd (omega (arith, lt))
set_gathered area (q ∷ ps) zero p lt unused places =
    let rest = flat_map (places_from area) ps in
    ap (λ l. rows_gathered area.older area.slot (l ++ rest)) places
    ∙ ap (rows_gathered area.older area.slot) (append_assoc (places_on p 0 (area.room p)) (places_from area q) rest)
    ∙ skipped area.older area.slot (places_on p 0 (area.room p)) (places_from area q ++ rest) (λ at in_. unused at (on_page p 0 (area.room p) at in_))
set_gathered area (q ∷ ps) (suc b) p lt unused places =
    gathered_behind area.older area.slot (places_from area q) (flat_map (places_from area) (set ps b p)) (flat_map (places_from area) ps) (set_gathered area ps b p (less (length ps) lt) unused places)
  where
    less : (n : ℕ) → suc b < suc n → b < n
    less n lt = omega (arith, lt)

-- slots and chains that are what they were
pub gathered_same : (old new : Area) (places : List Place) → ((at : Place) → IsAmong at places → new.slot at ≡ old.slot at)
    → ((at : Place) → IsAmong at places → (old.slot at).used ≡ true → chain_of new.older (old.slot at) ≡ chain_of old.older (old.slot at))
    → rows_gathered new.older new.slot places ≡ rows_gathered old.older old.slot places
gathered_same old new [] slots chains = refl
gathered_same old new (p ∷ ps) slots chains =
    let rest = gathered_same old new ps (λ at in_. slots at (inr in_)) (λ at in_. chains at (inr in_)) in
    (λ i. cond (slots p (inl refl) i).used (put int_cmp (slots p (inl refl) i).key (chain_of new.older (slots p (inl refl) i)) (rest i)) (rest i))
    ∙ known (old.slot p).used
    (λ is. ap (λ c. cond (old.slot p).used (put int_cmp (old.slot p).key c (rows_gathered old.older old.slot ps)) (rows_gathered old.older old.slot ps)) (chains p (inl refl) is))
    (λ isnt. ap (λ b. cond b (put int_cmp (old.slot p).key (chain_of new.older (old.slot p)) (rows_gathered old.older old.slot ps)) (rows_gathered old.older old.slot ps)) isnt
    ∙ sym (ap (λ b. cond b (put int_cmp (old.slot p).key (chain_of old.older (old.slot p)) (rows_gathered old.older old.slot ps)) (rows_gathered old.older old.slot ps)) isnt))

-- ---- each record

pub taken_shows : (area : Area) (p : ℕ) (taken : Bool) → ShowTheSame area (with_taken p taken area)
taken_shows area p taken = shows_same area (with_taken p taken area) (λ f. refl) (λ f. refl)

pub format_shows : (counted : ℕ) (tables : Tables) (area : Area) (x p : ℕ) (h : Header) → IsInBounds area → IsSoundArea counted tables area → OwedByFormat tables x p → ShowTheSame area (with_blank p h area)
format_shows counted tables area x p h bounds sound owed = shows_same area after (λ f. refl)
    (λ f. ap (rows_gathered after.older after.slot) (slot_places_same (λ q. q ≡ p → ⊥) area after away firsts pages f)
    ∙ gathered_same area after (slot_places area f)
    (λ at in_. away.slots at (λ is. pages f at.page (on_table f at in_) is))
    (λ at in_ used. away_chain (λ q. q ≡ p → ⊥) area after away firsts pages sound.pointers f at (in_, used)))
  where
    after : Area
    after = with_blank p h area

    away : IsSameOn (λ q. q ≡ p → ⊥) area (with_blank p h area)
    away = same_away counted tables area x p h bounds sound owed

    firsts : (f : ℕ) → (with_blank p h area).firsts f ≡ area.firsts f
    firsts f = refl

    pages : (f q : ℕ) → IsAmong q (table_pages area f) → q ≡ p → ⊥
    pages = in_tables counted tables area x p h bounds sound owed

    on_table : (f : ℕ) (at : Place) → IsAmong at (slot_places area f) → IsAmong at.page (table_pages area f)
    on_table f at in_ = among_front at.page (flat_map (pages_from pages_bound area.header) (area.firsts f).buckets) (pages_from pages_bound area.header (area.firsts f).versions) (place_on_chains area (area.firsts f).buckets at in_)

-- first pages whose slots are what they were
pub firsts_show : (area : Area) (e : ℕ) (t : Firsts) → rows_gathered area.older area.slot (flat_map (places_from area) t.buckets) ≡ rows_of_entry area e → ShowTheSame area (with_firsts e t area)
firsts_show area e t same_ = shows_same area (with_firsts e t area) (λ f. refl)
    (by_entry area e t (λ f u. rows_gathered area.older area.slot (flat_map (places_from area) u.buckets) ≡ rows_of_entry area f) same_ (λ f apart. refl))

pub link_shows : (counted : ℕ) (tables : Tables) (area : Area) (x p e bucket : ℕ) → counted ≤ pages_bound → IsInBounds area → IsSoundArea counted tables area → OwedByLink tables area x p e bucket
    → ShowTheSame area (with_firsts e (with_bucket bucket p (area.firsts e)) area)
link_shows counted tables area x p e bucket few bounds sound owed = firsts_show area e (with_bucket bucket p (area.firsts e))
    (set_gathered area (area.firsts e).buckets bucket p owed.there (λ at is. (owed.empty at is).0)
    (front_places area p (first_page area e bucket) (bucket_front counted tables area x p e few bounds sound owed.item owed.empty (bucket_inside area bounds e bucket owed.there) bucket owed.header owed.there)))

pub older_shows : (area : Area) (e p : ℕ) → ShowTheSame area (with_firsts e (record (area.firsts e) { versions = p }) area)
older_shows area e p = firsts_show area e (record (area.firsts e) { versions = p }) refl

-- ---- what one record leaves to the next

pub can_format : (tables : Tables) (x p : ℕ) → OwedByFormat (with_item (AllocOf x p) tables) x p
can_format tables x p = any_there (Allocation x p) (AllocOf x p) (tables.items ++ AllocOf x p ∷ []) (and_from (x == x) (p == p) (eq-eqb x x refl) (eq-eqb p p refl)) (the_one (AllocOf x p) tables.items [])

pub empty_now : (area : Area) (p : ℕ) (h : Header) → IsEmptyPage (with_blank p h area) p
empty_now area p h at is =
    (ap (λ b. (cond b free_slot (area.slot at)).used) (eq-eqb at.page p is), ap (λ b. (cond b free_older (area.older at)).used) (eq-eqb at.page p is))

pub header_now : (area : Area) (p : ℕ) (h : Header) → (with_blank p h area).header p ≡ h
header_now area p h = ap (λ b. cond b h (area.header p)) (eq-eqb p p refl)

pub can_link : (tables : Tables) (area : Area) (x p e bucket : ℕ) → OwedByFormat tables x p → bucket < length (area.firsts e).buckets
    → OwedByLink tables (with_blank p (rows_header e bucket (first_page area e bucket)) area) x p e bucket
can_link tables area x p e bucket item there =
    let h = rows_header e bucket (first_page area e bucket) in
    record { item = item; empty = empty_now area p h; header = header_now area p h; there = there }

pub can_link_older : (tables : Tables) (area : Area) (x p e : ℕ) → OwedByFormat tables x p → e < 32
    → OwedByOlderLink tables (with_blank p (versions_header e (area.firsts e).versions) area) x p e
can_link_older tables area x p e item there =
    let h = versions_header e (area.firsts e).versions in
    record { item = item; empty = empty_now area p h; header = header_now area p h; there = there }

pub can_give_back : (tables : Tables) (x p : ℕ) → OwedByFormat tables x p → OwedByFree tables p
can_give_back tables x p item = any_there (OfPage p) (AllocOf x p) tables.items (eq-eqb p p refl) (item_page x p tables.items item).0

pub can_free : (tables : Tables) (p : ℕ) → OwedByFree (with_item (FreeOf p) tables) p
can_free tables p = any_there (OfPage p) (FreeOf p) (tables.items ++ FreeOf p ∷ []) (eq-eqb p p refl) (the_one (FreeOf p) tables.items [])

pub can_uncreate : (tables : Tables) (x e : ℕ) → OwedByUncreate (with_item (CreateOf x e) tables) x e
can_uncreate tables x e = (filter (is_item_by x) tables.items, filter_there (is_item_by x) (CreateOf x e) tables.items [] (eq-eqb x x refl))

pub can_undrop : (tables : Tables) (x e : ℕ) → OwedByUndrop (with_item (DropOf x e) tables) x e
can_undrop tables x e = (filter (is_item_by x) tables.items, filter_there (is_item_by x) (DropOf x e) tables.items [] (eq-eqb x x refl))
