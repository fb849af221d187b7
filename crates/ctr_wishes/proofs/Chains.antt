-- Each version of a row is one of the table's columns and of the row's key, where no check of the pages fails.
use Rattle.std.proofs.Common.{◌≡◌, inl, inr, ℕ, ℤ, Bool, true, false, cond, List, [], ◌∷◌, ◌++◌, map, drop, Option, None, Some, refl, sym, ◌∙◌, ap, subst}
use Rattle.std.specs.Prelude.{◌==◌, IfSome}
use Rattle.std.specs.List.{AllByRecursion}
use Rattle.std.specs.Option.{option_map}
use Rattle.std.proofs.lemmas.Bool.{false≢true, eq-eqb, eqb-true, and_parts}
use Rattle.ctr_types.specs.declared.value.Column.{Column}
use Rattle.ctr_types.specs.declared.value.Row.{Row}
use Rattle.ctr_versions.specs.Chains.{value_seen}
use Rattle.ctr_versions.proofs.Keys.{known}
use Rattle.ctr_legal.proofs.Ready.{absurd_some}
use Rattle.ctr_value.specs.Payload.{IsKeyed}
use Rattle.ctr_page.specs.declared.rows.Place.{Place}
use Rattle.ctr_page.specs.declared.rows.RowSlot.{RowSlot}
use Rattle.ctr_page.specs.declared.rows.Version.{Version}
use Rattle.ctr_page.specs.declared.rows.VersionEntry.{VersionEntry}
use Rattle.ctr_page.specs.Columns.{kinds_of, kinds_width, columns_in}
use Rattle.ctr_page.specs.Reading.{slot_at, older_at}
use Rattle.ctr_page.proofs.Holding.{kinds_wide}
use Rattle.ctr_redo.specs.States.{State}
use Rattle.ctr_area.specs.Areas.{RowVersion, Slot, Older, Area, free_slot, free_older}
use Rattle.ctr_area.specs.Chains.{slot_places, older_places, if_any, chain_of}
use Rattle.ctr_area.specs.Checked.{SlotPasses, OlderPasses}
use Rattle.ctr_area.specs.Reading.{entry_bytes, header_on, columns_on, width_on, row_said, version_said, slot_said, older_said}
use Rattle.ctr_area.specs.Sound.{IsAmong, IsUsedSlot, IsKeptFor, along}
use Rattle.ctr_area.proofs.Buckets.{each_of}
use Rattle.ctr_record_laws.proofs.Loosened.{kept_for}
use Rattle.ctr_record_effects.specs.States.{pages_in, area_in}
use Rattle.ctr_record_effects.specs.Standing.{IsDatabaseState}
use Rattle.ctr_reading.proofs.undamaged_There.{slot_page, older_page}
use Rattle.ctr_reading.specs.chain_Visible.{visible_row}
use Rattle.ctr_names.specs.Search.{IsEntryFound}
use Rattle.ctr_reading.specs.catalog_Columns.{columns_there}
use Rattle.ctr_area.specs.Images.{is_live}
use Rattle.ctr_reading.specs.Reading.{IsRowSeen}
use Rattle.ctr_wishes.proofs.Good.{IsGood, IfGood}
use Rattle.ctr_wishes.proofs.Suiting.{RowSuits, slot_suits, older_suits}

-- a row that a version says suits the columns, and is of the key
abbrev pub SaysGood : List Column → ℤ → RowVersion → Type 0
SaysGood cs key v = IfGood cs key v.1

said_good : (cs : List Column) (key : ℤ) (v : Version) → RowSuits cs v → SaysGood cs key (version_said cs key v)
said_good cs key v suits row is = by (v.tombstone == 0) is
  where
    by : (b : Bool) → cond b (Some (row_said cs key v.payload)) None ≡ Some row → IsGood cs key row
    by true said =
        let same : row_said cs key v.payload ≡ row = cc said in
        subst (IsGood cs key) same (suits key, refl)
    by false said = absurd (let e = said in cc)

-- all of a list that is put together
all_both : {A : Type 0} (P : A → Type 0) (xs ys : List A) → AllByRecursion P xs → AllByRecursion P ys → AllByRecursion P (xs ++ ys)
all_both P [] ys one two = two
all_both P (x ∷ xs) ys one two = (one.0, all_both P xs ys one.1 two)

all_map : {A B : Type 0} (P : B → Type 0) (f : A → B) (xs : List A) → ((x : A) → IsAmong x xs → P (f x)) → AllByRecursion P (map f xs)
all_map P f [] each = tt
all_map P f (x ∷ xs) each = (each x (inl refl), all_map P f xs (λ y in_. each y (inr in_)))

chain_good : (cs : List Column) (key : ℤ) (test : ℕ → Bool) (vs : List RowVersion) → AllByRecursion (SaysGood cs key) vs → IfGood cs key (value_seen test vs)
chain_good cs key test [] all row is = absurd (let e = is in cc)
chain_good cs key test (v ∷ vs) all row is = known (test v.0)
    (λ yes_. all.0 row (sym (ap (λ b. cond b v.1 (value_seen test vs)) yes_) ∙ is))
    (λ no_. chain_good cs key test vs all.1 row (sym (ap (λ b. cond b v.1 (value_seen test vs)) no_) ∙ is))

-- of a slot that is used
module _ (cs : List Column) (s : RowSlot) where
  abbrev there : Slot
  there = record { used = true; key = s.key; head = version_said cs s.key s.head; previous = option_map (version_said cs s.key) s.previous; pointer = s.older }

  slot_used : (slot_said cs s).used ≡ true → (s.used ≡ 1) × (slot_said cs s ≡ there)
  slot_used used = known (s.used == 1)
      (λ is. (eqb-true s.used 1 is, ap (λ b. cond b there free_slot) is))
      (λ isnt. absurd (false≢true (sym (ap (λ b. (cond b there free_slot).used) isnt) ∙ used)))

  previous_good : (o : Option Version) → IfSome o (λ v. RowSuits cs v) → AllByRecursion (SaysGood cs s.key) (if_any (option_map (version_said cs s.key) o))
  previous_good None suits = tt
  previous_good (Some v) suits = (said_good cs s.key v suits, tt)

module _ (cs : List Column) (o : VersionEntry) where
  abbrev entry_there : Older
  entry_there = record { used = true; key = o.key; version = version_said cs o.key o.version; pointer = o.older }

  entry_used : (older_said cs o).used ≡ true → (o.used ≡ 1) × (older_said cs o ≡ entry_there)
  entry_used used = known (o.used == 1)
      (λ is. (eqb-true o.used 1 is, ap (λ b. cond b entry_there free_older) is))
      (λ isnt. absurd (false≢true (sym (ap (λ b. (cond b entry_there free_older).used) isnt) ∙ used)))

module _ (s : State) (sound : IsDatabaseState s) (e : ℕ) where
  abbrev pages : ℕ → List ℕ
  pages = pages_in s

  abbrev area : Area
  area = area_in s

  abbrev cs : List Column
  cs = (area.title e).columns

  abbrev w : ℕ
  w = kinds_width (kinds_of cs)

  -- a page that names the entry has its columns
  columns_are : (p : ℕ) → (header_on pages p).entry ≡ e → columns_on pages p ≡ cs
  columns_are p is = ap (λ f. columns_in (entry_bytes pages f)) is

  width_is : (p : ℕ) → (header_on pages p).entry ≡ e → width_on pages p ≡ w
  width_is p is = sym (kinds_wide (drop 1 (columns_on pages p))) ∙ ap (λ (l : List Column). kinds_width (kinds_of l)) (columns_are p is)

  module _ (keyed : IsKeyed cs) where
    slot_is : (at : Place) → IsAmong at (slot_places area e) → area.slot at ≡ slot_said cs (slot_at w at.slot (pages at.page))
    slot_is at in_ =
        let page = slot_page s.counted s.tables pages sound.passed sound.sound e at in_ in
        ap (λ b. cond b (slot_said (columns_on pages at.page) (slot_at (width_on pages at.page) at.slot (pages at.page))) free_slot) (eq-eqb (header_on pages at.page).kind 1 page.of_kind)
        ∙ (λ i. slot_said (columns_are at.page page.of_entry i) (slot_at (width_is at.page page.of_entry i) at.slot (pages at.page)))

    older_is : (q : Place) → IsAmong q (older_places area e) → area.older q ≡ older_said cs (older_at w q.slot (pages q.page))
    older_is q in_ =
        let page = older_page s.counted s.tables pages sound.passed sound.sound e q in_ in
        ap (λ b. cond b (older_said (columns_on pages q.page) (older_at (width_on pages q.page) q.slot (pages q.page))) free_older) (eq-eqb (header_on pages q.page).kind 2 page.of_kind)
        ∙ (λ i. older_said (columns_are q.page page.of_entry i) (older_at (width_is q.page page.of_entry i) q.slot (pages q.page)))

    entry_good : (key : ℤ) (q : Place) → IsKeptFor area e key q (area.older q) → SaysGood cs key (area.older q).version
    entry_good key q kept =
        let raw = older_at w q.slot (pages q.page) in
        let is = older_is q kept.0 in
        let used = entry_used cs raw (sym (ap (λ (o : Older). o.used) is) ∙ kept.1) in
        let same = is ∙ used.1 in
        let passes = each_of (OlderPasses s.counted pages e) q (older_places area e) (sound.passed.older e) kept.0 in
        let suits = older_suits cs keyed (pages q.page) s.counted q.slot passes used.0 in
        subst (λ (o : Older). o.key ≡ key → SaysGood cs key o.version) (sym same)
        (λ k. subst (λ z. SaysGood cs z (version_said cs raw.key raw.version)) k (said_good cs raw.key raw.version suits)) kept.2

    -- what is seen of a used slot is such a row
    pub visible_good : (test : ℕ → Bool) (at : Place) → IsUsedSlot area e at → IfGood cs (area.slot at).key (visible_row test area at)
    visible_good test at used =
        let raw = slot_at w at.slot (pages at.page) in
        let is = slot_is at used.0 in
        let its = slot_used cs raw (sym (ap (λ (z : Slot). z.used) is) ∙ used.1) in
        let same = is ∙ its.1 in
        let passes = each_of (SlotPasses s.counted pages e) at (slot_places area e) (sound.passed.slots e) used.0 in
        let suits = slot_suits cs keyed (pages at.page) s.counted at.slot passes its.0 in
        let behind : AllByRecursion (SaysGood cs (area.slot at).key) (map (λ q. (area.older q).version) (along area at)) =
        all_map (SaysGood cs (area.slot at).key) (λ q. (area.older q).version) (along area at) (λ q in_. entry_good (area.slot at).key q (kept_for area sound.sound.pointers e at q used in_)) in
        let front : AllByRecursion (SaysGood cs (area.slot at).key) ((area.slot at).head ∷ if_any (area.slot at).previous) =
        subst (λ (z : Slot). AllByRecursion (SaysGood cs z.key) (z.head ∷ if_any z.previous)) (sym same) (said_good cs raw.key raw.head suits.0, previous_good cs raw raw.previous suits.1) in
        chain_good cs (area.slot at).key test (chain_of area.older (area.slot at)) (front.0, all_both (SaysGood cs (area.slot at).key) (if_any (area.slot at).previous) (map (λ q. (area.older q).version) (along area at)) front.1 behind)

    -- and so is the row of a key
    pub seen_good : (test : ℕ → Bool) (key : ℤ) (row : Option Row) → IsRowSeen test area e key row → IfGood cs key row
    seen_good test key row (inl (at, used, same, shown)) seen is = subst (λ k. IsGood cs k seen) same (visible_good test at used seen (sym shown ∙ is))
    seen_good test key row (inr (none, isnt)) seen is = absurd_some seen (sym isnt ∙ is)

-- the entry of a table that is found has columns
pub there_columns : (test : ℕ → Bool) (name : List ℕ) (area : Area) (e : ℕ) → IsEntryFound test name area e → columns_there area e ≡ Some (area.title e).columns
there_columns test name area e found =
    let live : is_live (area.title e) ≡ true = (and_parts (is_live (area.title e)) _ found.2).0 in
    ap (λ n. cond (n == 0) None (Some (area.title e).columns)) (eqb-true (area.title e).state 1 live)
