-- A page that is allocated, and that no item of the secondary log has, stands in the chain that its header names.
use Rattle.std.proofs.Common.{◌≡◌, ⊎_elim, inl, ℕ, suc, ◌+◌, ◌<◌, ◌≤◌, true, false, List, [], ◌∷◌, cond, slice_index, sym, ◌∙◌, ap, subst, arith}
use Rattle.std.proofs.lemmas.Bool.{cases_lt, false≢true, eqb-true, eq-eqb}
use Rattle.std.specs.List.{flat_map, list_any}
use Rattle.std.specs.Prelude.{◌==◌, ◌||◌}
use Rattle.ctr_rec.specs.declared.record.SlogItem.{SlogItem}
use Rattle.ctr_rec.specs.declared.record.SlogItem.TheVariants.{AllocOf, FreeOf, CreateOf, DropOf}
use Rattle.ctr_area.proofs.ctr_versions.Keys.{known}
use Rattle.ctr_page.specs.declared.checks.Chain.{Chain}
use Rattle.ctr_page.specs.declared.checks.Chain.TheVariants.{Rows, Versions}
use Rattle.ctr_page.specs.Damage.{chain_entry}
use Rattle.ctr_area.specs.Areas.{Area}
use Rattle.ctr_area.specs.Chains.{pages_bound, pages_from, table_pages}
use Rattle.ctr_area.specs.Images.{entry_numbers}
use Rattle.ctr_area.specs.Sound.{IsAmong, how_many, page_of_item, owned_pages, IsOfRows, IsOfVersions, AreBuckets}
use Rattle.ctr_area.proofs.Buckets.{each_of}
use Rattle.ctr_record_laws.specs.Bounds.{IsInBounds}
use Rattle.ctr_record_laws.proofs.Bounds.{pages_bounded}
use Rattle.ctr_record_laws.proofs.Ends.{bucket_chain}
use Rattle.ctr_record_laws.proofs.Firsts.{counted_among}
use Rattle.ctr_record_laws.proofs.Members.{among_flat, among_front, among_rest, among_parts, count_append, count_among}
use Rattle.ctr_record_laws.proofs.Owned.{in_all}
use Rattle.ctr_walk.specs.redo_States.{State}
use Rattle.ctr_walk.specs.record_effects_States.{pages_in, area_in}
use Rattle.ctr_walk.specs.record_effects_Standing.{IsDatabaseState}
use Rattle.ctr_reading.proofs.undamaged_Inside.{table_inside}
use Rattle.ctr_cursor.specs.Standing.{IsInChain, IsOfChain, is_item_of}
use Rattle.ctr_cursor.proofs.Stays.{is_there, of_table}

-- one of a bucket's pages is of the bucket that its header names
in_bucket : (area : Area) (e from p : ℕ) (ps : List ℕ) → AreBuckets area e from ps → IsAmong p (flat_map (pages_from pages_bound area.header) ps)
    → (b : ℕ) × IsOfRows e (from + b) (area.header p) × IsAmong p (pages_from pages_bound area.header (slice_index ps b))
in_bucket area e from p [] are in_ = absurd in_
in_bucket area e from p (q ∷ ps) are in_ = ⊎_elim
    (λ here. (0, subst (λ n. IsOfRows e n (area.header p)) (plus_none from) (each_of (λ r. IsOfRows e from (area.header r)) p (pages_from pages_bound area.header q) are.0.0 here), here))
    (λ there.
    let rest = in_bucket area e (from + 1) p ps are.1 there in
    (suc rest.0, subst (λ n. IsOfRows e n (area.header p)) (plus_one from rest.0) rest.1, rest.2))
    (among_parts p (pages_from pages_bound area.header q) (flat_map (pages_from pages_bound area.header) ps) in_)
  where
    plus_none : (n : ℕ) → n ≡ n + 0
    plus_none n = omega arith

    plus_one : (n b : ℕ) → n + 1 + b ≡ n + suc b
    plus_one n b = omega arith

none_plus : (n : ℕ) → 0 + n ≡ n
none_plus n = omega arith

-- the test of items is whether one has the page
in_item : (p : ℕ) (i : SlogItem) → is_item_of p i ≡ true → IsAmong p (page_of_item i)
in_item p (AllocOf x q) is = inl (sym (eqb-true q p is))
in_item p (FreeOf q) is = inl (sym (eqb-true q p is))
in_item p (CreateOf x e) is = absurd (false≢true is)
in_item p (DropOf x e) is = absurd (false≢true is)

of_item : (p : ℕ) (i : SlogItem) → IsAmong p (page_of_item i) → is_item_of p i ≡ true
of_item p (AllocOf x q) in_ = ⊎_elim (λ is. eq-eqb q p (sym is)) (λ no. absurd no) in_
of_item p (FreeOf q) in_ = ⊎_elim (λ is. eq-eqb q p (sym is)) (λ no. absurd no) in_
of_item p (CreateOf x e) in_ = absurd in_
of_item p (DropOf x e) in_ = absurd in_

pub items_have : (p : ℕ) (items : List SlogItem) → list_any (is_item_of p) items ≡ true → IsAmong p (flat_map page_of_item items)
items_have p [] is = absurd (false≢true is)
items_have p (i ∷ items) is = known (is_item_of p i)
    (λ yes. among_front p (page_of_item i) (flat_map page_of_item items) (in_item p i yes))
    (λ other. among_rest p (page_of_item i) (flat_map page_of_item items) (items_have p items (sym (ap (λ b. b || list_any (is_item_of p) items) other) ∙ is)))

pub items_lack : (p : ℕ) (items : List SlogItem) → list_any (is_item_of p) items ≡ false → IsAmong p (flat_map page_of_item items) → ⊥
items_lack p [] is in_ = in_
items_lack p (i ∷ items) is in_ = known (is_item_of p i)
    (λ yes. false≢true (sym is ∙ ap (λ b. b || list_any (is_item_of p) items) yes))
    (λ other. ⊎_elim (λ here. false≢true (sym other ∙ of_item p i here)) (λ there. items_lack p items (sym (ap (λ b. b || list_any (is_item_of p) items) other) ∙ is) there)
    (among_parts p (page_of_item i) (flat_map page_of_item items) in_))

module _ (s : State) (sound : IsDatabaseState s) where
  abbrev area : Area
  area = area_in s

  abbrev bounds : IsInBounds area
  bounds = pages_bounded (pages_in s)

  abbrev tables_pages : List ℕ
  tables_pages = flat_map (table_pages area) entry_numbers

  abbrev items_pages : List ℕ
  items_pages = flat_map page_of_item s.tables.items

  -- ---- of a page in a chain

  -- its table has it
  owned_by : (chain : Chain) (p : ℕ) → IsInChain chain p area → IsAmong p tables_pages
  owned_by chain p on =
      let in_ = of_table chain p area on in
      in_all area bounds (table_pages area) p (chain_entry chain) (table_inside s.counted s.tables area bounds sound.sound (chain_entry chain) p in_) in_

  pub chain_fine : (chain : Chain) (p : ℕ) → IsInChain chain p area → (3 ≤ p) × (p < s.counted) × (area.taken p ≡ true)
  chain_fine chain p on = each_of (λ q. (3 ≤ q) × (q < s.counted) × (area.taken q ≡ true)) p (owned_pages s.tables.items area) sound.sound.owned.inside (among_front p tables_pages items_pages (owned_by chain p on))

  -- no item has it
  pub chain_alone : (chain : Chain) (p : ℕ) → IsInChain chain p area → IsAmong p items_pages → ⊥
  chain_alone chain p on in_ =
      let fine = chain_fine chain p on in
      twice (how_many (λ q. q == p) tables_pages) (how_many (λ q. q == p) items_pages) (cond (area.taken p) 1 0) (count_among p tables_pages (owned_by chain p on)) (count_among p items_pages in_)
      (sym (count_append (λ q. q == p) tables_pages items_pages) ∙ sound.sound.owned.once p fine.0 fine.1) (ap (λ b. cond b 1 0) fine.2)
    where
      twice : (a b n : ℕ) → 1 ≤ a → 1 ≤ b → a + b ≡ n → n ≡ 1 → ⊥
      twice a b n one other sum is = omega (arith, one, other, sum, is)

  -- its header names the chain
  pub chain_headed : (chain : Chain) (p : ℕ) → IsInChain chain p area → IsOfChain chain (area.header p)
  chain_headed (Rows e b) p on =
      let there = is_there area.header pages_bound p b (area.firsts e).buckets on in
      subst (λ n. IsOfRows e n (area.header p)) (none_plus b) (each_of (λ q. IsOfRows e (0 + b) (area.header q)) p (pages_from pages_bound area.header (slice_index (area.firsts e).buckets b)) (bucket_chain area e 0 b (area.firsts e).buckets there (sound.sound.readable.rows e)).0 on)
  chain_headed (Versions e) p on = each_of (λ q. IsOfVersions e (area.header q)) p (pages_from pages_bound area.header (area.firsts e).versions) (sound.sound.readable.versions e).0 on

  -- ---- of a page that is allocated

  counted_is : (p : ℕ) → area.taken p ≡ true → p < s.counted
  counted_is p taken = ⊎_elim (λ lt. lt) (λ le. absurd (let no = sym (sound.sound.owned.uncounted p le) ∙ taken in cc no)) (cases_lt p s.counted)

  owned_is : (p : ℕ) → 3 ≤ p → area.taken p ≡ true → (IsAmong p items_pages → ⊥) → IsAmong p tables_pages
  owned_is p behind taken alone =
      let counts = sound.sound.owned.once p behind (counted_is p taken) in
      ⊎_elim (λ in_. in_) (λ in_. absurd (alone in_))
      (among_parts p tables_pages items_pages (counted_among p (owned_pages s.tables.items area) (one (how_many (λ q. q == p) (owned_pages s.tables.items area)) (cond (area.taken p) 1 0) counts (ap (λ b. cond b 1 0) taken))))
    where
      one : (n m : ℕ) → n ≡ m → m ≡ 1 → 1 ≤ n
      one n m is one_ = omega (arith, is, one_)

  -- it is in a chain of the kind that its header names
  by_header : (chain : Chain) (p e : ℕ) → IsOfChain chain (area.header p) → IsAmong p (table_pages area e) → IsInChain chain p area
  by_header (Rows f b) p e headed in_ = ⊎_elim
      (λ rows.
      let its = in_bucket area e 0 p (area.firsts e).buckets (sound.sound.readable.rows e) rows in
      let entry : e ≡ f = sym its.1.1 ∙ headed.1 in
      let bucket : its.0 ≡ b = sym (none_plus its.0) ∙ sym its.1.2 ∙ headed.2 in
      subst (λ d. IsAmong p (pages_from pages_bound area.header (slice_index (area.firsts d).buckets b))) entry
      (subst (λ n. IsAmong p (pages_from pages_bound area.header (slice_index (area.firsts e).buckets n))) bucket its.2))
      (λ older. absurd (let its = each_of (λ q. IsOfVersions e (area.header q)) p (pages_from pages_bound area.header (area.firsts e).versions) (sound.sound.readable.versions e).0 older in
      let no : 1 ≡ 2 = sym headed.0 ∙ its.0 in cc no))
      (among_parts p (flat_map (pages_from pages_bound area.header) (area.firsts e).buckets) (pages_from pages_bound area.header (area.firsts e).versions) in_)
  by_header (Versions f) p e headed in_ = ⊎_elim
      (λ rows. absurd (let its = in_bucket area e 0 p (area.firsts e).buckets (sound.sound.readable.rows e) rows in
      let no : 2 ≡ 1 = sym headed.0 ∙ its.1.0 in cc no))
      (λ older.
      let its = each_of (λ q. IsOfVersions e (area.header q)) p (pages_from pages_bound area.header (area.firsts e).versions) (sound.sound.readable.versions e).0 older in
      let entry : e ≡ f = sym its.1 ∙ headed.1 in
      subst (λ d. IsAmong p (pages_from pages_bound area.header (area.firsts d).versions)) entry older)
      (among_parts p (flat_map (pages_from pages_bound area.header) (area.firsts e).buckets) (pages_from pages_bound area.header (area.firsts e).versions) in_)

  pub chain_named : (chain : Chain) (p : ℕ) → 3 ≤ p → area.taken p ≡ true → (IsAmong p items_pages → ⊥) → IsOfChain chain (area.header p) → IsInChain chain p area
  chain_named chain p behind taken alone headed =
      let its = among_flat (table_pages area) p entry_numbers (owned_is p behind taken alone) in
      by_header chain p its.0 headed its.2
