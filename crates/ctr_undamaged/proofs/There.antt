-- What stands at a place of a table is read without damage.
use Rattle.std.proofs.Common.{◌≡◌, ℕ, ◌+◌, ◌-◌, ◌*◌, ◌/◌, ◌%◌, ◌<◌, ◌≤◌, cond, List, [], length, slice_index, Result, Ok, Err, sym, ◌∙◌, ap, subst, arith}
use Rattle.std.specs.Prelude.{nat_lt, ◌==◌, ⊤}
use Rattle.std.specs.List.{flat_map}
use Rattle.std.proofs.lemmas.Bool.{eq-eqb, ne_eqb, le-ltb, lt-ltb}
use Rattle.ctr_types.specs.declared.value.Kind.{Kind}
use Rattle.ctr_bytes.specs.Fields.{field}
use Rattle.ctr_bytes.specs.Following.{◌>>=◌}
use Rattle.ctr_rec.specs.declared.decoding.BadRecord.{BadRecord}
use Rattle.ctr_rec.specs.Damage.{wrong, expect, at_most}
use Rattle.ctr_page.specs.declared.checks.Chain.TheVariants.{Rows, Versions}
use Rattle.ctr_page.specs.declared.header.Header.{Header}
use Rattle.ctr_page.specs.declared.rows.Place.{Place}
use Rattle.ctr_page.specs.declared.walk.BadChain.{BadChain}
use Rattle.ctr_page.specs.declared.table.TheConstants.{ENTRY_SIZE, KIND_AT, OWNER_AT, BUCKET_AT}
use Rattle.ctr_page.specs.Places.{slot_size, kept_size, room_for}
use Rattle.ctr_page.specs.Reading.{piece}
use Rattle.ctr_page.specs.Columns.{entry_in, entry_at, kinds_width, slot_start, kept_start}
use Rattle.ctr_page.specs.Damage.{header_check, slot_check, kept_check, entry_check}
use Rattle.ctr_meta.specs.Tables.{Tables}
use Rattle.ctr_heap.specs.area_Areas.{Firsts, Area}
use Rattle.ctr_heap.specs.area_Chains.{pages_bound, pages_from, places_on, places_from, slot_places, older_places}
use Rattle.ctr_heap.specs.area_Checked.{kinds_at, ArePassed}
use Rattle.ctr_heap.specs.area_Reading.{title_of, header_on, area_of}
use Rattle.ctr_heap.specs.area_Sound.{IsAmong, IsOfRows, IsOfVersions, IsSoundArea}
use Rattle.ctr_heap.proofs.area_Buckets.{each_of, on_chain, nothing_from_0}
use Rattle.ctr_chain.specs.record_laws_Bounds.{IsInBounds}
use Rattle.ctr_heap.proofs.record_laws_Bounds.{pages_bounded}
use Rattle.ctr_heap.proofs.record_laws_Ends.{bucket_chain}
use Rattle.ctr_heap.proofs.record_laws_Members.{among_flat}
use Rattle.ctr_heap.proofs.record_laws_Owned.{entry_inside, slot_inside}
use Rattle.ctr_heap.proofs.ctr_passed.Pagewise.{PassedIn, page_by_page, index_of}
use Rattle.ctr_heap.proofs.ctr_walk.Telling.{none_from}
use Rattle.ctr_chain.specs.ctr_pvs.Table.{there_check, owner_check, catalog_check, told_of, owner_of, table_check}
use Rattle.ctr_chain.specs.ctr_pvs.Reading.{lies_check, kept_on_check, versions_there, kept_at_check, version_check_at, row_on_check, row_check_at}
use Rattle.ctr_chain.specs.ctr_pvs.Writing.{drop_check}
use Rattle.ctr_chain.proofs.ctr_pvs.Told.{header_here}
use Rattle.ctr_undamaged.proofs.Inside.{on_bucket, on_versions}
use Rattle.ctr_undamaged.proofs.Walks.{rows_room, versions_room}

-- ---- checks that pass

pub both_pass : {E : Type 0} (r s : Result ⊤ E) → r ≡ Ok tt → s ≡ Ok tt → (r >>= λ _. s) ≡ Ok tt
both_pass {E} r s one two = ap (λ (x : Result ⊤ E). x >>= λ _. s) one ∙ two

most_passes : (at most got : ℕ) → got ≤ most → at_most at most got ≡ Ok tt
unfolding at_most
most_passes at most got le = ap (λ b. cond b (Err (wrong at most got)) (Ok tt)) (le-ltb most got le)

wanted_passes : (at want got : ℕ) → want ≡ got → expect at want got ≡ Ok tt
wanted_passes at want got is = ap (λ b. cond b (Ok tt) (Err (wrong at want got))) (eq-eqb want got is)

lies_passes : (size number : ℕ) → number < room_for size → lies_check size number ≡ Ok tt
lies_passes size number fits = most_passes 0 (room_for size - 1) number (lower (room_for size) fits)
  where
    lower : (room : ℕ) → number < room → number ≤ room - 1
    lower room lt = omega (arith, lt)

there_passes : (header : Result ⊤ BadRecord) (counted p : ℕ) → (3 ≤ p) × (p < counted) → header ≡ Ok tt → there_check header counted p ≡ Ok tt
there_passes header counted p inside passes =
    both_pass (at_most 0 (counted - 1) p) (header >>= λ _. last) (most_passes 0 (counted - 1) p (omega (arith, inside.1)))
    (both_pass header last passes (ap (λ b. cond b (Err (wrong 0 3 p)) (Ok tt)) (le-ltb p 3 inside.0)))
  where
    last : Result ⊤ BadRecord
    last = cond (nat_lt p 3) (Err (wrong 0 3 p)) (Ok tt)

module _ (counted : ℕ) (tables : Tables) (pages : ℕ → List ℕ) (passed : ArePassed counted pages) (sound : IsSoundArea counted tables (area_of pages)) where
  abbrev area : Area
  area = area_of pages

  abbrev bounds : IsInBounds area
  bounds = pages_bounded pages

  abbrev whole : PassedIn counted pages area
  whole = page_by_page counted pages passed

  -- ---- the table of a page

  entry_passes : (e : ℕ) → e < 32 → ((area.title e).state ≡ 0 → ⊥) → catalog_check counted pages e ≡ Ok tt
  entry_passes e lt used =
      both_pass (entry_check counted (ENTRY_SIZE * (e % 16)) page) (cond ((entry_at (e % 16) page).state == 0) (Err (wrong (ENTRY_SIZE * (e % 16)) 1 0)) (Ok tt)) (passed.entries e lt)
      (ap (λ b. cond b (Err (wrong (ENTRY_SIZE * (e % 16)) 1 0)) (Ok tt)) (ne_eqb (entry_at (e % 16) page).state 0 (λ none. used (same ∙ none))))
    where
      page : List ℕ
      page = pages (1 + e / 16)

      same : (area.title e).state ≡ (entry_at (e % 16) page).state
      same = ap (λ b. (title_of (entry_in (cond b (piece (256 * (e % 16)) 256 page) []))).state) (lt-ltb e 32 lt)

  -- a page of a table, of this kind, behind the catalog
  pub record IsPage (kind e p : ℕ) : Type 0 where
    pub inside : (3 ≤ p) × (p < counted)
    pub few : e < 32
    pub used : (area.title e).state ≡ 0 → ⊥
    pub of_kind : (header_on pages p).kind ≡ kind
    pub of_entry : (header_on pages p).entry ≡ e

  pub names_entry : (kind e p : ℕ) → IsPage kind e p → owner_of (pages p) ≡ e
  names_entry kind e p page = sym (ap (λ (h : Header). h.entry) (header_here pages p page.inside.0)) ∙ page.of_entry

  pub table_passes : (kind e p : ℕ) → IsPage kind e p → table_check kind counted pages p ≡ Ok tt
  table_passes kind e p page =
      let named = names_entry kind e p page in
      let kind_is : kind ≡ field 1 KIND_AT (pages p) = sym page.of_kind ∙ ap (λ (h : Header). h.kind) (header_here pages p page.inside.0) in
      let owner : owner_check kind counted p (pages p) ≡ Ok tt = both_pass (there_check (expect KIND_AT kind (field 1 KIND_AT (pages p))) counted p) (at_most OWNER_AT 31 (owner_of (pages p)))
      (there_passes (expect KIND_AT kind (field 1 KIND_AT (pages p))) counted p page.inside (wanted_passes KIND_AT kind (field 1 KIND_AT (pages p)) kind_is))
      (most_passes OWNER_AT 31 (owner_of (pages p)) (subst (λ f. f ≤ 31) (sym named) (omega (arith, page.few)))) in
      ap (λ (r : Result ⊤ BadRecord). told_of p r >>= λ _. told_of (1 + owner_of (pages p) / 16) (catalog_check counted pages (owner_of (pages p)))) owner
      ∙ ap (λ f. told_of (1 + f / 16) (catalog_check counted pages f)) named
      ∙ ap (told_of (1 + e / 16)) (entry_passes e page.few page.used)

  -- ---- a place of a version entry

  module _ (e : ℕ) (at : Place) (in_ : IsAmong at (older_places area e)) where
    abbrev start : ℕ
    start = (area.firsts e).versions

    abbrev kinds : List Kind
    kinds = kinds_at area e

    here : IsAmong at.page (pages_from pages_bound area.header start) × (at.slot < area.room at.page)
    here = on_chain area start at in_

    header_is : IsOfVersions e (area.header at.page)
    header_is = each_of (λ r. IsOfVersions e (area.header r)) at.page (pages_from pages_bound area.header start) (sound.readable.versions e).0 here.0

    pub older_page : IsPage 2 e at.page
    older_page = record {
      inside = on_versions counted tables area bounds sound e at.page here.0;
      few = entry_inside area bounds (λ (f : Firsts). places_from area f.versions) at e (ap (flat_map (λ q. places_on q 0 (area.room q))) (none_from pages_bound area.header)) in_;
      used = λ none. nothing_from_0 area at (subst (λ (f : Firsts). IsAmong at (places_from area f.versions)) (bounds.free e none) in_);
      of_kind = header_is.0;
      of_entry = header_is.1;
    }

    older_lies : lies_check (kept_size (kinds_width kinds)) at.slot ≡ Ok tt
    older_lies = lies_passes (kept_size (kinds_width kinds)) at.slot (subst (λ m. at.slot < m) (sym (versions_room pages at.page e header_is.1 header_is.0)) here.1)

    kept_on : kept_on_check counted e kinds at.slot (pages at.page) ≡ Ok tt
    kept_on =
        let its = whole.versions e at.page here.0 in
        both_pass (header_check (Versions e) counted (pages at.page)) (lies_check (kept_size (kinds_width kinds)) at.slot >>= λ _. kept_check kinds counted (kept_start kinds at.slot) (pages at.page)) its.header
        (both_pass (lies_check (kept_size (kinds_width kinds)) at.slot) (kept_check kinds counted (kept_start kinds at.slot) (pages at.page)) older_lies (its.older at.slot here.1))

    -- to which a chain of the table leads
    pub kept_passes : kept_at_check counted pages e at ≡ Ok tt
    kept_passes = both_pass (versions_there counted e at.page (pages at.page)) (kept_on_check counted e kinds at.slot (pages at.page))
        (there_passes (header_check (Versions e) counted (pages at.page)) counted at.page older_page.inside (whole.versions e at.page here.0).header) kept_on

    -- or that is known
    pub version_passes : version_check_at counted pages at ≡ Ok tt
    version_passes =
        ap (λ (r : Result ⊤ BadChain). r >>= λ _. rest (owner_of (pages at.page))) (table_passes 2 e at.page older_page)
        ∙ ap rest (names_entry 2 e at.page older_page) ∙ ap (told_of at.page) kept_on
      where
        rest : ℕ → Result ⊤ BadChain
        rest f = told_of at.page (kept_on_check counted f (kinds_at area f) at.slot (pages at.page))

    -- of which what stands in it isn't looked at
    pub drop_passes : drop_check counted pages at ≡ Ok tt
    drop_passes =
        ap (λ (r : Result ⊤ BadChain). r >>= λ _. rest (owner_of (pages at.page))) (table_passes 2 e at.page older_page)
        ∙ ap rest (names_entry 2 e at.page older_page) ∙ ap (told_of at.page) older_lies
      where
        rest : ℕ → Result ⊤ BadChain
        rest f = told_of at.page (lies_check (kept_size (kinds_width (kinds_at area f))) at.slot)

  -- ---- a place of a slot

  module _ (e : ℕ) (at : Place) (in_ : IsAmong at (slot_places area e)) where
    abbrev columns : List Kind
    columns = kinds_at area e

    -- the bucket that the slot is in
    record IsInBucket (b : ℕ) : Type 0 where
      pub there : b < length (area.firsts e).buckets
      pub on : IsAmong at.page (pages_from pages_bound area.header (slice_index (area.firsts e).buckets b))
      pub fits : at.slot < area.room at.page

    bucket : (b : ℕ) × IsInBucket b
    bucket =
        let found = among_flat (places_from area) at (area.firsts e).buckets in_ in
        let b = index_of found.0 (area.firsts e).buckets found.1 in
        let on = on_chain area found.0 at found.2 in
        (b.0, record { there = b.1; on = subst (λ f. IsAmong at.page (pages_from pages_bound area.header f)) (sym b.2) on.0; fits = on.1 })

    row_header : IsOfRows e bucket.0 (area.header at.page)
    row_header =
        let plain : 0 + bucket.0 ≡ bucket.0 = omega arith in
        subst (λ b. IsOfRows e b (area.header at.page)) plain (each_of (λ r. IsOfRows e (0 + bucket.0) (area.header r)) at.page (pages_from pages_bound area.header (slice_index (area.firsts e).buckets bucket.0))
        (bucket_chain area e 0 bucket.0 (area.firsts e).buckets bucket.1.there (sound.readable.rows e)).0 bucket.1.on)

    pub slot_page : IsPage 1 e at.page
    slot_page = record {
      inside = on_bucket counted tables area bounds sound e bucket.0 at.page bucket.1.there bucket.1.on;
      few = slot_inside area bounds e at in_;
      used = λ none. subst (λ (f : Firsts). IsAmong at (flat_map (places_from area) f.buckets)) (bounds.free e none) in_;
      of_kind = row_header.0;
      of_entry = row_header.1;
    }

    row_on : row_on_check counted e columns at.slot (pages at.page) ≡ Ok tt
    row_on =
        let its = whole.rows e bucket.0 at.page bucket.1.there bucket.1.on in
        let bucket_is : bucket.0 ≡ field 1 BUCKET_AT (pages at.page) = sym row_header.2 ∙ ap (λ (h : Header). h.bucket) (header_here pages at.page slot_page.inside.0) in
        let size = slot_size (kinds_width columns) in
        both_pass (header_check (Rows e (field 1 BUCKET_AT (pages at.page))) counted (pages at.page)) (lies_check size at.slot >>= λ _. slot_check columns counted (slot_start columns at.slot) (pages at.page))
        (subst (λ b. header_check (Rows e b) counted (pages at.page) ≡ Ok tt) bucket_is its.header)
        (both_pass (lies_check size at.slot) (slot_check columns counted (slot_start columns at.slot) (pages at.page))
        (lies_passes size at.slot (subst (λ m. at.slot < m) (sym (rows_room pages at.page e row_header.1 row_header.0)) bucket.1.fits)) (its.slots at.slot bucket.1.fits))

    pub row_passes : row_check_at counted pages at ≡ Ok tt
    row_passes =
        ap (λ (r : Result ⊤ BadChain). r >>= λ _. rest (owner_of (pages at.page))) (table_passes 1 e at.page slot_page)
        ∙ ap rest (names_entry 1 e at.page slot_page) ∙ ap (told_of at.page) row_on
      where
        rest : ℕ → Result ⊤ BadChain
        rest f = told_of at.page (row_on_check counted f (kinds_at area f) at.slot (pages at.page))
