-- What is read of a page of a bucket is the area's, and is read without damage.
use Rattle.std.proofs.Common.{◌≡◌, inl, ℕ, zero, suc, ◌+◌, ◌-◌, ◌/◌, ◌<◌, ◌≤◌, ℤ, Bool, true, false, cond, List, [], ◌∷◌, length, slice_index, Option, None, Some, Result, Ok, Err, refl, sym, ◌∙◌, ap, subst, arith}
use Rattle.std.specs.Prelude.{◌==◌, IfErr, IfOk}
use Rattle.std.specs.Option.{option_map}
use Rattle.std.specs.List.{flat_map}
use Rattle.std.proofs.lemmas.Bool.{eq-eqb}
use Rattle.ctr_disk.specs.declared.fault.StoreFault.{StoreFault}
use Rattle.ctr_disk.specs.declared.fault.StoreFault.TheVariants.{Fault, Damaged}
use Rattle.ctr_types.specs.declared.value.Column.{Column}
use Rattle.ctr_rec.specs.declared.decoding.BadRecord.{BadRecord}
use Rattle.ctr_versions.proofs.Keys.{known}
use Rattle.ctr_page.specs.declared.checks.Chain.{Chain}
use Rattle.ctr_page.specs.declared.checks.Chain.TheVariants.{Rows, Versions}
use Rattle.ctr_page.specs.declared.header.Header.{Header}
use Rattle.ctr_page.specs.declared.rows.Place.{Place}
use Rattle.ctr_page.specs.declared.rows.RowSlot.{RowSlot}
use Rattle.ctr_page.specs.declared.walk.BadChain.{BadChain}
use Rattle.ctr_page.specs.declared.walk.BadChain.TheVariants.{OnPage, TooLong}
use Rattle.ctr_page.specs.Columns.{kinds_width}
use Rattle.ctr_page.specs.Damage.{chain_entry, header_check}
use Rattle.ctr_page.specs.Places.{slot_size, room_for}
use Rattle.ctr_page.specs.Reading.{slot_at}
use Rattle.ctr_redo.specs.States.{State}
use Rattle.ctr_area.specs.Areas.{Firsts, Slot, Area, free_slot}
use Rattle.ctr_area.specs.Chains.{pages_bound, pages_from, places_on, slot_places}
use Rattle.ctr_area.specs.Reading.{version_said, slot_said, header_on, columns_on, width_on, size_of_kind, area_of}
use Rattle.ctr_area.specs.Sound.{IsAmong, IsOfRows}
use Rattle.ctr_area.proofs.Buckets.{each_of, in_chain, of_bucket, nothing_from_0}
use Rattle.ctr_record_laws.specs.Bounds.{IsInBounds}
use Rattle.ctr_record_laws.proofs.Bounds.{pages_bounded}
use Rattle.ctr_record_laws.proofs.Ends.{bucket_chain, one_among, page_ends}
use Rattle.ctr_record_laws.proofs.Members.{among_front}
use Rattle.ctr_walk.specs.record_effects_States.{pages_in, area_in}
use Rattle.ctr_walk.specs.record_effects_Standing.{IsDatabaseState}
use Rattle.ctr_views.proofs.passed_Pagewise.{page_by_page}
use Rattle.ctr_walk.specs.declared.table.TableOf.{TableOf}
use Rattle.ctr_walk.specs.Damage.{EndsOnPage, EndsTold}
use Rattle.ctr_walk.specs.Tables.{kinds_said, first_of_chain, EndsFirst}
use Rattle.ctr_undamaged.specs.heap_SlotSought.{SlotSought}
use Rattle.ctr_undamaged.specs.heap_SlotSought.TheVariants.{Free}
use Rattle.ctr_undamaged.specs.heap_Finding.{EndsBucket}
use Rattle.ctr_undamaged.specs.Undamaged.{MeetsNoDamage}
use Rattle.ctr_views.specs.pvs_Table.{table_check, TableSaid}
use Rattle.ctr_views.specs.pvs_Reading.{row_on_check, row_check_at}
use Rattle.ctr_views.proofs.pvs_Told.{header_here, page_of_table, by_table}
use Rattle.ctr_undamaged.proofs.Inside.{table_inside, on_bucket, few_on_bucket}
use Rattle.ctr_undamaged.proofs.There.{row_passes, table_passes}
use Rattle.ctr_types.specs.declared.value.Row.{Row}
use Rattle.std.specs.Ordering.{int_cmp}
use Rattle.std.specs.FinMap.Entries.{put}
use Rattle.ctr_views.specs.chain_Rows.{GivesRow}
use Rattle.ctr_views.specs.chain_Visible.{as_read, visible_row}
use Rattle.ctr_views.specs.chain_ReadRefusal.{ReadRefusal}
use Rattle.ctr_views.specs.chain_ReadRefusal.TheVariants as refusal
use Rattle.ctr_views.specs.Scanning.{with_seen}
use Rattle.ctr_reading.specs.declared.pages.PageSlots.{PageSlots}
use Rattle.ctr_reading.specs.Reading.{as_told}
use Rattle.ctr_reading.specs.Gathering.{gathered_at, key_of_slot, key_there, Gathers, KeySaid, NextSaid, ArePageSlots, IsBucketPage}
use Rattle.ctr_reading.proofs.Gathers.{put_some}

-- what is there isn't damaged
passes_or_fails : {A B : Type 0} (checked : Result A B) (x : A) (bad : B) → checked ≡ Ok x → checked ≡ Err bad → ⊥
passes_or_fails checked x bad passes fails = let e = sym passes ∙ fails in absurd cc

-- ---- a slot of a page, by the page's table

key_said : (cs : List Column) (s : RowSlot) → key_there (slot_said cs s) ≡ key_of_slot s
key_said cs s = known (s.used == 1)
    (λ is. ap (λ b. key_there (cond b (there s) free_slot)) is ∙ sym (ap (λ b. cond b (Some s.key) None) is))
    (λ isnt. ap (λ b. key_there (cond b (there s) free_slot)) isnt ∙ sym (ap (λ b. cond b (Some s.key) None) isnt))
  where
    there : RowSlot → Slot
    there s = record { used = true; key = s.key; head = version_said cs s.key s.head; previous = option_map (version_said cs s.key) s.previous; pointer = s.older }

module _ (counted : ℕ) (pages : ℕ → List ℕ) (place : Place) (t : TableOf) (table : TableSaid 1 counted pages place.page (Ok t)) where
  slot_is : (area_of pages).slot place ≡ slot_said (columns_on pages place.page) (slot_at (kinds_width (kinds_said t)) place.slot (pages place.page))
  slot_is =
      let page = page_of_table 1 counted pages place.page t table in
      ap (λ b. cond b (slot_said (columns_on pages place.page) (slot_at (width_on pages place.page) place.slot (pages place.page))) free_slot) (eq-eqb (header_on pages place.page).kind 1 page.of_kind)
      ∙ ap (λ w. slot_said (columns_on pages place.page) (slot_at w place.slot (pages place.page))) (sym page.wide)

  pub key_tells : (told : BadChain → StoreFault) (r : Result (Option ℤ) StoreFault) → EndsTold told (EndsOnPage place.page (KeySaid counted t place.slot (pages place.page))) r → IfOk r (λ key. key ≡ key_there ((area_of pages).slot place))
  key_tells told (Ok key) said = said.1 ∙ sym (ap key_there slot_is ∙ key_said (columns_on pages place.page) (slot_at (kinds_width (kinds_said t)) place.slot (pages place.page)))
  key_tells told (Err e) said = tt

  key_well : row_check_at counted pages place ≡ Ok tt → (bad : BadRecord) → row_on_check counted t.entry (kinds_said t) place.slot (pages place.page) ≡ Err bad → ⊥
  key_well passes bad fails = passes_or_fails (row_check_at counted pages place) tt (OnPage place.page bad) passes
      (by_table 1 counted pages place.page t (λ e ks. row_on_check counted e ks place.slot (pages place.page)) (Err bad) table fails)

  pub key_undamaged : (told : BadChain → StoreFault) → row_check_at counted pages place ≡ Ok tt → (r : Result (Option ℤ) StoreFault) → EndsTold told (EndsOnPage place.page (KeySaid counted t place.slot (pages place.page))) r → IfErr r (λ e. e ≡ Fault)
  key_undamaged told passes (Ok key) ends = tt
  key_undamaged told passes (Err Fault) ends = refl
  key_undamaged told passes (Err (Damaged d)) (OnPage q bad, ends, is) = absurd (key_well passes bad ends.1)
  key_undamaged told passes (Err (Damaged d)) (TooLong last most, ends, is) = absurd ends

-- a slot of a table passes, in a state that may be a database's
pub slot_passes : (s : State) (e : ℕ) (at : Place) → IsDatabaseState s → IsAmong at (slot_places (area_in s) e) → row_check_at s.counted (pages_in s) at ≡ Ok tt
slot_passes s e at sound in_ = row_passes s.counted s.tables (pages_in s) sound.passed sound.sound e at in_

-- ---- a page of rows

pub behind_catalog : (counted : ℕ) (pages : ℕ → List ℕ) (p : ℕ) (t : TableOf) → TableSaid 1 counted pages p (Ok t) → 3 ≤ p
behind_catalog counted pages p t table = (page_of_table 1 counted pages p t table).behind

pub room_is : (counted : ℕ) (pages : ℕ → List ℕ) (p : ℕ) (t : TableOf) → TableSaid 1 counted pages p (Ok t) → room_for (slot_size (kinds_width (kinds_said t))) ≡ (area_of pages).room p
room_is counted pages p t table =
    let page = page_of_table 1 counted pages p t table in
    ap (λ w. room_for (slot_size w)) page.wide ∙ sym (ap (λ b. room_for (size_of_kind b (width_on pages p))) (eq-eqb (header_on pages p).kind 1 page.of_kind))

pub next_tells : (told : BadChain → StoreFault) (chain : Chain) (counted : ℕ) (pages : ℕ → List ℕ) (p : ℕ) (r : Result ℕ StoreFault) → 3 ≤ p → EndsTold told (EndsOnPage p (NextSaid chain counted (pages p))) r → IfOk r (λ n. n ≡ ((area_of pages).header p).next)
next_tells told chain counted pages p (Ok n) behind said = said.1 ∙ sym (ap (λ (h : Header). h.next) (header_here pages p behind))
next_tells told chain counted pages p (Err e) behind said = tt

-- ---- a page of a bucket

there_is : (ps : List ℕ) (b n : ℕ) (header : ℕ → Header) (p : ℕ) → IsAmong p (pages_from n header (slice_index ps b)) → b < length ps
there_is [] b n header p in_ = absurd (subst (IsAmong p) (page_ends header n 0 refl) in_)
there_is (q ∷ ps) zero n header p in_ = some (length ps)
  where
    some : (m : ℕ) → 0 < suc m
    some m = omega arith
there_is (q ∷ ps) (suc b) n header p in_ = more b (length ps) (there_is ps b n header p in_)
  where
    more : (a m : ℕ) → a < m → suc a < suc m
    more a m lt = omega (arith, lt)

module _ (s : State) (sound : IsDatabaseState s) where
  abbrev pages : ℕ → List ℕ
  pages = pages_in s

  abbrev area : Area
  area = area_in s

  abbrev bounds : IsInBounds area
  bounds = pages_bounded pages

  module _ (e b p : ℕ) (on : IsAmong p (pages_from pages_bound area.header (slice_index (area.firsts e).buckets b))) where
    lt : b < length (area.firsts e).buckets
    lt = there_is (area.firsts e).buckets b pages_bound area.header p on

    of_rows : IsOfRows e (0 + b) (area.header p)
    of_rows = each_of (λ q. IsOfRows e (0 + b) (area.header q)) p (pages_from pages_bound area.header (slice_index (area.firsts e).buckets b)) (bucket_chain area e 0 b (area.firsts e).buckets lt (sound.sound.readable.rows e)).0 on

    header_good : header_check (Rows e b) s.counted (pages p) ≡ Ok tt
    header_good = ((page_by_page s.counted pages sound.passed).rows e b p lt on).header

    table_good : table_check 1 s.counted pages p ≡ Ok tt
    table_good = table_passes s.counted s.tables pages sound.passed sound.sound 1 e p (record {
      inside = on_bucket s.counted s.tables area bounds sound.sound e b p lt on;
      few = table_inside s.counted s.tables area bounds sound.sound e p
          (among_front p (flat_map (pages_from pages_bound area.header) (area.firsts e).buckets) (pages_from pages_bound area.header (area.firsts e).versions)
          (one_among (pages_from pages_bound area.header) p (area.firsts e).buckets b lt on));
      used = λ none. subst (λ (f : Firsts). IsAmong p (pages_from pages_bound area.header (slice_index f.buckets b)) → ⊥) (sym (bounds.free e none)) (λ in_. subst (IsAmong p) (page_ends area.header pages_bound 0 refl) in_) on;
      of_kind = of_rows.0;
      of_entry = of_rows.1;
    })

    inside : e < 32
    inside = table_inside s.counted s.tables area bounds sound.sound e p
        (among_front p (flat_map (pages_from pages_bound area.header) (area.firsts e).buckets) (pages_from pages_bound area.header (area.firsts e).versions)
        (one_among (pages_from pages_bound area.header) p (area.firsts e).buckets b lt on))

    few_rows : length (pages_from pages_bound area.header (slice_index (area.firsts e).buckets b)) ≤ s.counted - 3
    few_rows = few_on_bucket s.counted s.tables area bounds sound.sound e b inside lt

    slot_of : (n : ℕ) → n < area.room p → IsAmong (record { page = p; slot = n }) (slot_places area e)
    slot_of n fits = of_bucket area (record { page = p; slot = n }) b (area.firsts e).buckets (in_chain area (slice_index (area.firsts e).buckets b) p n on fits) (nothing_from_0 area (record { page = p; slot = n }))

-- whichever bucket it is
pub page_header : (chain : Chain) (p : ℕ) (s : State) → IsBucketPage chain p s → header_check chain s.counted (pages_in s p) ≡ Ok tt
page_header (Rows e b) p s page = header_good s page.sound e b p page.on
page_header (Versions e) p s page = absurd page.rows

pub page_table : (chain : Chain) (p : ℕ) (s : State) → IsBucketPage chain p s → table_check 1 s.counted (pages_in s) p ≡ Ok tt
page_table (Rows e b) p s page = table_good s page.sound e b p page.on
page_table (Versions e) p s page = absurd page.rows

pub page_slot : (chain : Chain) (p : ℕ) (s : State) (n : ℕ) → IsBucketPage chain p s → n < (area_in s).room p → IsAmong (record { page = p; slot = n }) (slot_places (area_in s) (chain_entry chain))
page_slot (Rows e b) p s n page fits = slot_of s page.sound e b p page.on n fits
page_slot (Versions e) p s n page fits = absurd page.rows

-- a bucket has no more pages than are counted behind the catalog
pub few_pages : (chain : Chain) (p : ℕ) (s : State) → IsBucketPage chain p s → length (pages_from pages_bound (area_in s).header (first_of_chain (area_in s) chain)) ≤ s.counted - 3
few_pages (Rows e b) p s page = few_rows s page.sound e b p page.on
few_pages (Versions e) p s page = absurd page.rows

-- so no damage of it is told
pub next_undamaged : (told : BadChain → StoreFault) (chain : Chain) (p : ℕ) (s : State) → IsBucketPage chain p s → (r : Result ℕ StoreFault) → EndsTold told (EndsOnPage p (NextSaid chain s.counted (pages_in s p))) r → IfErr r (λ e. e ≡ Fault)
next_undamaged told chain p s page (Ok n) ends = tt
next_undamaged told chain p s page (Err Fault) ends = refl
next_undamaged told chain p s page (Err (Damaged d)) (OnPage q bad, ends, is) = absurd (passes_or_fails (header_check chain s.counted (pages_in s p)) tt bad (page_header chain p s page) ends.1)
next_undamaged told chain p s page (Err (Damaged d)) (TooLong last most, ends, is) = absurd ends

pub table_undamaged : (told : BadChain → StoreFault) (chain : Chain) (p : ℕ) (s : State) → IsBucketPage chain p s → (r : Result TableOf StoreFault) → EndsTold told (TableSaid 1 s.counted (pages_in s) p) r → IfErr r (λ e. e ≡ Fault)
table_undamaged told chain p s page (Ok t) ends = tt
table_undamaged told chain p s page (Err Fault) ends = refl
table_undamaged told chain p s page (Err (Damaged d)) (bad, ends, is) = absurd (passes_or_fails (table_check 1 s.counted (pages_in s) p) tt bad (page_table chain p s page) ends)

-- the places of a page, by what was read of it
pub page_places : (s : State) (slots : PageSlots) (p : ℕ) → ArePageSlots s slots → slots.page ≡ p → places_on slots.page 0 slots.count ≡ places_on p 0 ((area_in s).room p)
page_places s slots p are is = ap (places_on slots.page 0) are.count ∙ ap (λ q. places_on q 0 ((area_in s).room q)) is

-- ---- the first page of a bucket

-- the entry of a bucket isn't damaged
pub first_undamaged : (told : BadChain → StoreFault) (e b : ℕ) (s : State) → ((sought : SlotSought) → MeetsNoDamage (EndsBucket s.counted (pages_in s) e b sought)) → (r : Result (Option ℕ) StoreFault)
    → EndsTold told (EndsFirst s.counted (pages_in s) (Rows e b)) r → IfErr r (λ e. e ≡ Fault)
first_undamaged told e b s meets (Ok found) ends = tt
first_undamaged told e b s meets (Err Fault) ends = refl
first_undamaged told e b s meets (Err (Damaged d)) (OnPage q bad, ends, is) = absurd ((meets Free).ends (OnPage (1 + e / 16) bad) (inl (bad, ends.1, refl)))
first_undamaged told e b s meets (Err (Damaged d)) (TooLong last most, ends, is) = absurd ends

-- ---- one slot that is gathered

module _ (test : ℕ → Bool) (area : Area) (at : Place) (rows : List (ℤ × Row)) (key : ℤ) (there : key_there (area.slot at) ≡ Some key) where
  its : ((area.slot at).used ≡ true) × ((area.slot at).key ≡ key)
  its = by (area.slot at).used there
    where
      by : (b : Bool) → cond b (Some (area.slot at).key) None ≡ Some key → (b ≡ true) × ((area.slot at).key ≡ key)
      by true is = (refl, cc is)
      by false is = absurd (let e = is in cc)

  at_slot : (o : Option Row) → visible_row test area at ≡ o → gathered_at test area at rows ≡ with_seen key o rows
  at_slot o seen = ap (λ b. cond b (with_seen (area.slot at).key (visible_row test area at) rows) rows) its.0 ∙ (λ i. with_seen (its.1 i) (seen i) rows)

  pub gathers_none : visible_row test area at ≡ None → rows ≡ gathered_at test area at rows
  gathers_none seen = sym (at_slot None seen)

  -- where the row is refused, there is one
  pub gathers_refused : (T : Type 0) (e : ReadRefusal) (others : List (ℤ × Row)) → IfOk (as_read (Err e)) (GivesRow (visible_row test area at)) → IfOk (as_told {T = T} (Err e)) (Gathers (gathered_at test area at rows) others)
  gathers_refused T (refusal.Store e) others gives = tt
  gathers_refused T refusal.OutOfMemory others gives = λ none. put_some key gives.0 rows (sym (at_slot (Some gives.0) gives.1) ∙ none)

  pub gathers_row : (row : Row) (k : ℤ) → k ≡ key → visible_row test area at ≡ Some row → put int_cmp k row rows ≡ gathered_at test area at rows
  gathers_row row k same seen = ap (λ z. put int_cmp z row rows) same ∙ sym (at_slot (Some row) seen)
