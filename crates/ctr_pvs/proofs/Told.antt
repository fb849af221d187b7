-- What the checks of a page and of its table say, where they pass.
use Rattle.std.proofs.Common.{◌≡◌, ℕ, ◌+◌, ◌-◌, ◌/◌, ◌%◌, ◌<◌, ◌≤◌, cond, List, drop, length, Result, Ok, Err, refl, sym, ◌∙◌, ap, subst, arith}
use Rattle.std.specs.Prelude.{nat_lt, nat_le, true, ⊤}
use Rattle.ctr_passed.proofs.versions_Keys.{known}
use Rattle.std.proofs.Math.Nat.{le-div_iff_mul-le}
use Rattle.std.proofs.lemmas.Bool.{ltb-false, le-ltb, leb-true}
use Rattle.ctr_types.specs.declared.value.Kind.{Kind}
use Rattle.ctr_bytes.specs.Fields.{field}
use Rattle.ctr_bytes.specs.Following.{◌>>=◌}
use Rattle.ctr_rec.specs.declared.decoding.BadRecord.{BadRecord}
use Rattle.ctr_rec.specs.Damage.{wrong, expect, at_most}
use Rattle.ctr_rec.proofs.Reading.{bind_ok, guard_ok, expect_ok}
use Rattle.ctr_page.specs.declared.checks.Chain.TheVariants.{Rows, Versions}
use Rattle.ctr_page.specs.declared.walk.BadChain.{BadChain}
use Rattle.ctr_page.specs.declared.walk.BadChain.TheVariants.{OnPage}
use Rattle.ctr_page.specs.declared.header.Header.{Header}
use Rattle.ctr_page.specs.declared.rows.Place.{Place}
use Rattle.ctr_page.specs.Places.{slot_size, kept_size, room_for, start_of}
use Rattle.ctr_page.specs.Reading.{header_in}
use Rattle.ctr_page.specs.Columns.{kinds_of, kinds_width, columns_in, slot_start, kept_start}
use Rattle.ctr_page.specs.Damage.{header_check, slot_check, kept_check}
use Rattle.ctr_page.proofs.Holding.{kinds_wide, most_ok}
use Rattle.ctr_page.proofs.Searches.{lies_on_page}
use Rattle.ctr_passed.specs.area_Reading.{no_header, entry_bytes, header_on, columns_on, width_on, size_on, area_of}
use Rattle.ctr_passed.specs.area_Checked.{kinds_at}
use Rattle.ctr_passed.specs.area_Changes.{IsPlaceOf}
use Rattle.ctr_passed.proofs.area_Written.{one_of_two}
use Rattle.ctr_walk.proofs.Said.{bytes_of_entry}
use Rattle.ctr_walk.specs.declared.table.TableOf.{TableOf}
use Rattle.ctr_pvs.specs.Table.{there_check, owner_check, catalog_check, told_of, owner_of, table_check, KindsSaid, OwnerSaid, TableSaid}
use Rattle.ctr_walk.specs.Tables.{kinds_said}
use Rattle.ctr_pvs.specs.Reading.{lies_check, kept_on_check, kept_at_check, row_on_check, row_check_at}

-- what is wrong on a page isn't, where it passes
pub told_ok : (p : ℕ) (r : Result ⊤ BadRecord) → told_of p r ≡ Ok tt → r ≡ Ok tt
told_ok p (Ok x) e = refl
told_ok p (Err bad) e = absurd cc

-- one check and another behind it
pub chain_ok : {A B : Type 0} (r : Result A BadChain) (f : A → Result B BadChain) (y : B) → (r >>= f) ≡ Ok y → (x : A) × (r ≡ Ok x) × (f x ≡ Ok y)
chain_ok (Ok x) f y e = (x, refl, e)
chain_ok (Err d) f y e = absurd cc

-- a page that is there is counted, has its header, and is behind the catalog
pub is_there : (header : Result ⊤ BadRecord) (counted p : ℕ) → there_check header counted p ≡ Ok tt → (p ≤ counted - 1) × (header ≡ Ok tt) × (3 ≤ p)
is_there header counted p e =
    let last : ⊤ → Result ⊤ BadRecord = λ _. cond (nat_lt p 3) (Err (wrong 0 3 p)) (Ok tt) in
    let low = bind_ok (at_most 0 (counted - 1) p) (λ _. header >>= last) tt e in
    let passes = bind_ok header last tt low.2 in
    (most_ok 0 (counted - 1) p low.1, passes.1, ltb-false p 3 (guard_ok (nat_lt p 3) (wrong 0 3 p) (Ok tt) tt passes.2).0)

-- so there may be one
pub within : (header : Result ⊤ BadRecord) (counted p : ℕ) → 0 < counted → counted ≤ 30000 → there_check header counted p ≡ Ok tt → p < 30000
within header counted p some few is = let low = (is_there header counted p is).0 in omega (arith, low, some, few)

-- what is checked of a page that isn't counted doesn't depend on what stands there
pub by_there : (P : Result ⊤ BadRecord → Type 0) (header other : Result ⊤ BadRecord) (rest last : ⊤ → Result ⊤ BadRecord) (counted p : ℕ) → 0 < counted → counted ≤ 30000
    → (p < 30000 → (there_check header counted p >>= rest) ≡ (there_check other counted p >>= last)) → P (there_check header counted p >>= rest) → P (there_check other counted p >>= last)
by_there P header other rest last counted p some few same holds =
    by (at_most 0 (counted - 1) p) refl
  where
    low : p ≤ counted - 1 → p < 30000
    low le = omega (arith, le, some, few)

    by : (r : Result ⊤ BadRecord) → at_most 0 (counted - 1) p ≡ r → P (there_check other counted p >>= last)
    by (Ok x) is = subst P (same (low (most_ok 0 (counted - 1) p is))) holds
    by (Err bad) is =
        let one : (there_check header counted p >>= rest) ≡ Err bad = ap (λ (r : Result ⊤ BadRecord). (r >>= λ _. header >>= λ _. cond (nat_lt p 3) (Err (wrong 0 3 p)) (Ok tt)) >>= rest) is in
        let two : (there_check other counted p >>= last) ≡ Err bad = ap (λ (r : Result ⊤ BadRecord). (r >>= λ _. other >>= λ _. cond (nat_lt p 3) (Err (wrong 0 3 p)) (Ok tt)) >>= last) is in
        subst P (one ∙ sym two) holds

-- what is behind the catalog has a header
pub header_here : (pages : ℕ → List ℕ) (p : ℕ) → 3 ≤ p → header_on pages p ≡ header_in (pages p)
header_here pages p le = ap (λ t. cond t no_header (header_in (pages p))) (le-ltb p 3 le)

-- the page of a table
pub record IsPageOf (kind : ℕ) (pages : ℕ → List ℕ) (p : ℕ) (t : TableOf) : Type 0 where
  pub behind : 3 ≤ p
  pub of_kind : (header_on pages p).kind ≡ kind
  pub entry : (header_on pages p).entry ≡ t.entry
  pub kinds : kinds_said t ≡ kinds_of (columns_on pages p)
  pub wide : kinds_width (kinds_said t) ≡ width_on pages p

pub page_of_table : (kind counted : ℕ) (pages : ℕ → List ℕ) (p : ℕ) (t : TableOf) → TableSaid kind counted pages p (Ok t) → IsPageOf kind pages p t
page_of_table kind counted pages p t said =
    let page = pages p in
    let owner = told_ok p (owner_check kind counted p page) (chain_ok (told_of p (owner_check kind counted p page)) (λ _. told_of (1 + owner_of page / 16) (catalog_check counted pages (owner_of page))) tt said.0).1 in
    let is = is_there (expect 0 kind (field 1 0 page)) counted p (bind_ok (there_check (expect 0 kind (field 1 0 page)) counted p) (λ _. at_most 1 31 (field 1 1 page)) tt owner).1 in
    let behind = is.2 in
    let header = header_here pages p behind in
    let named : (header_on pages p).entry ≡ t.entry = ap (λ (h : Header). h.entry) header ∙ sym said.1 in
    let same : kinds_said t ≡ kinds_of (columns_on pages p) = said.2 ∙ ap (λ e. kinds_of (columns_in (entry_bytes pages e))) (sym named) in
    record {
      behind = behind;
      of_kind = ap (λ (h : Header). h.kind) header ∙ sym (expect_ok 0 kind (field 1 0 page) is.1);
      entry = named;
      kinds = same;
      wide = ap kinds_width same ∙ kinds_wide (drop 1 (columns_on pages p));
    }

-- The page names the entry of its table, on a page of the catalog.
module _ (kind counted : ℕ) (pages : ℕ → List ℕ) (p : ℕ) where
  abbrev rest : ⊤ → Result ⊤ BadChain
  rest _ = told_of (1 + owner_of (pages p) / 16) (catalog_check counted pages (owner_of (pages p)))

  -- it names none
  pub no_owner : (bad : BadRecord) → OwnerSaid kind counted p (pages p) (Err bad) → TableSaid kind counted pages p (Err (OnPage p bad))
  no_owner bad said = ap (λ (r : Result ⊤ BadRecord). told_of p r >>= rest) said

  module _ (e : ℕ) (owner : OwnerSaid kind counted p (pages p) (Ok e)) where
    passes : table_check kind counted pages p ≡ told_of (1 + e / 16) (catalog_check counted pages e)
    passes = ap (λ (r : Result ⊤ BadRecord). told_of p r >>= rest) owner.0 ∙ ap (λ x. told_of (1 + x / 16) (catalog_check counted pages x)) (sym owner.1)

    pub table_named : e < 32 → (t : TableOf) → t.entry ≡ e → KindsSaid counted (e % 16) (pages (1 + e / 16)) (Ok t) → TableSaid kind counted pages p (Ok t)
    table_named few t same said = (
      passes ∙ ap (told_of (1 + e / 16)) said.0,
      same ∙ owner.1,
      said.1 ∙ sym (ap (λ l. kinds_of (columns_in l)) (bytes_of_entry pages e few)) ∙ ap (kinds_at (area_of pages)) (sym same),
    )

    pub no_table : (bad : BadRecord) → KindsSaid counted (e % 16) (pages (1 + e / 16)) (Err bad) → TableSaid kind counted pages p (Err (OnPage (1 + e / 16) bad))
    no_table bad said = passes ∙ ap (told_of (1 + e / 16)) said

-- what a check behind the table of a page finds, by the table
pub by_table : (kind counted : ℕ) (pages : ℕ → List ℕ) (p : ℕ) (t : TableOf) (check : ℕ → List Kind → Result ⊤ BadRecord) (r : Result ⊤ BadRecord) → TableSaid kind counted pages p (Ok t) → check t.entry (kinds_said t) ≡ r
    → (table_check kind counted pages p >>= λ _. told_of p (check (owner_of (pages p)) (kinds_at (area_of pages) (owner_of (pages p))))) ≡ told_of p r
by_table kind counted pages p t check r said is =
    let rest : ⊤ → Result ⊤ BadChain = λ _. told_of p (check (owner_of (pages p)) (kinds_at (area_of pages) (owner_of (pages p)))) in
    ap (λ (x : Result ⊤ BadChain). x >>= rest) said.0
    ∙ ap (λ e. told_of p (check e (kinds_at (area_of pages) e))) (sym said.1)
    ∙ ap (λ ks. told_of p (check t.entry ks)) (sym said.2) ∙ ap (told_of p) is

-- where no table is found nothing behind it is looked at
pub no_table_first : (kind counted : ℕ) (pages : ℕ → List ℕ) (p : ℕ) (check : ℕ → List Kind → Result ⊤ BadRecord) (bad : BadChain) → TableSaid kind counted pages p (Err bad)
    → (table_check kind counted pages p >>= λ _. told_of p (check (owner_of (pages p)) (kinds_at (area_of pages) (owner_of (pages p))))) ≡ Err bad
no_table_first kind counted pages p check bad said =
    let rest : ⊤ → Result ⊤ BadChain = λ _. told_of p (check (owner_of (pages p)) (kinds_at (area_of pages) (owner_of (pages p)))) in
    ap (λ (x : Result ⊤ BadChain). x >>= rest) said

-- the slot at a place passes, by its table
pub row_passes : (counted : ℕ) (pages : ℕ → List ℕ) (at : Place) (t : TableOf) → TableSaid 1 counted pages at.page (Ok t) → row_on_check counted t.entry (kinds_said t) at.slot (pages at.page) ≡ Ok tt
    → row_check_at counted pages at ≡ Ok tt
row_passes counted pages at t said passes = by_table 1 counted pages at.page t (λ e ks. row_on_check counted e ks at.slot (pages at.page)) (Ok tt) said passes

-- a version entry of a table that passes is read by the table's columns
pub older_read : (counted : ℕ) (pages : ℕ → List ℕ) (e : ℕ) (q : Place) → kept_at_check counted pages e q ≡ Ok tt → ((header_on pages q.page).kind ≡ 2) × ((header_on pages q.page).entry ≡ e)
unfolding header_check
older_read counted pages e q is =
    let l = pages q.page in
    let there = is_there (header_check (Versions e) counted l) counted q.page (bind_ok (there_check (header_check (Versions e) counted l) counted q.page) (λ _. kept_on_check counted e (kinds_at (area_of pages) e) q.slot l) tt is).1 in
    let kind = bind_ok (expect 0 2 (field 1 0 l)) _ tt there.1 in
    let entry = bind_ok (expect 1 e (field 1 1 l)) _ tt kind.2 in
    let here = header_here pages q.page there.2 in
    (ap (λ (h : Header). h.kind) here ∙ sym (expect_ok 0 2 (field 1 0 l) kind.1), ap (λ (h : Header). h.entry) here ∙ sym (expect_ok 1 e (field 1 1 l) entry.1))

-- it has a place of its number
pub lies_of_entry : (counted e : ℕ) (kinds : List Kind) (number : ℕ) (page : List ℕ) → kept_on_check counted e kinds number page ≡ Ok tt → lies_check (kept_size (kinds_width kinds)) number ≡ Ok tt
lies_of_entry counted e kinds number page is =
    let last : ⊤ → Result ⊤ BadRecord = λ _. kept_check kinds counted (kept_start kinds number) page in
    let rest : ⊤ → Result ⊤ BadRecord = λ _. lies_check (kept_size (kinds_width kinds)) number >>= last in
    let header = bind_ok (header_check (Versions e) counted page) rest tt is in
    (bind_ok (lies_check (kept_size (kinds_width kinds)) number) last tt header.2).1

-- so has a slot
pub lies_of_slot : (counted e : ℕ) (kinds : List Kind) (number : ℕ) (page : List ℕ) → row_on_check counted e kinds number page ≡ Ok tt → lies_check (slot_size (kinds_width kinds)) number ≡ Ok tt
lies_of_slot counted e kinds number page is =
    let last : ⊤ → Result ⊤ BadRecord = λ _. slot_check kinds counted (slot_start kinds number) page in
    let rest : ⊤ → Result ⊤ BadRecord = λ _. lies_check (slot_size (kinds_width kinds)) number >>= last in
    let header = bind_ok (header_check (Rows e (field 1 2 page)) counted page) rest tt is in
    (bind_ok (lies_check (slot_size (kinds_width kinds)) number) last tt header.2).1

-- a page has a place of a number that passes
pub lies_below : (size number : ℕ) → 0 < size → size ≤ 4080 → lies_check size number ≡ Ok tt → number < room_for size
lies_below size number some narrow e =
    let fits : 1 ≤ 4080 / size = (le-div_iff_mul-le {k = size} {x = 1} {y = 4080} some).1 (omega (arith, narrow)) in
    omega (arith, fits, most_ok 0 (room_for size - 1) number e)

pub lies_inside : (size number : ℕ) → 0 < size → size ≤ 4080 → lies_check size number ≡ Ok tt → start_of size number + size ≤ 4096
lies_inside size number some narrow e = lies_on_page size number (lies_below size number some narrow e)

pub lies_there : (size same number long : ℕ) → size ≡ same → 0 < size → size ≤ 4080 → lies_check size number ≡ Ok tt → long ≡ 4096 → start_of same number + same ≤ long
lies_there size same number long is some narrow e whole = subst (λ n. start_of n number + n ≤ long) is (subst (λ l. start_of size number + size ≤ l) (sym whole) (lies_inside size number some narrow e))

-- slots of a table aren't larger
pub slot_small : (w : ℕ) → w ≤ 1792 → slot_size w ≤ 2072
slot_small w narrow = known (nat_le w 200)
    (λ is. let few = below_200 is in subst (λ b. cond b (18 + w + 9 + w) (18 + w) + 6 ≤ 2072) (sym is) (omega (arith, few)))
    (λ isnt. subst (λ b. cond b (18 + w + 9 + w) (18 + w) + 6 ≤ 2072) (sym isnt) (omega (arith, narrow)))
  where
    below_200 : nat_le w 200 ≡ true → w ≤ 200
    below_200 is = leb-true w 200 is

pub slot_there : (w size same number long : ℕ) → w ≤ 1792 → size ≡ slot_size w → slot_size w ≡ same → 0 < size → lies_check size number ≡ Ok tt → long ≡ 4096 → start_of same number + same ≤ long
slot_there w size same number long narrow is wanted some told whole =
    let small = slot_small w narrow in
    lies_there size same number long (is ∙ wanted) some (omega (arith, small, is)) told whole

-- nor are version entries
pub entry_there : (w size same number long : ℕ) → w ≤ 1792 → size ≡ kept_size w → kept_size w ≡ same → 0 < size → lies_check size number ≡ Ok tt → long ≡ 4096 → start_of same number + same ≤ long
entry_there w size same number long narrow is wanted some told whole = lies_there size same number long (is ∙ wanted) some (omega (arith, narrow, is)) told whole

pub place_of_version : (pages : ℕ → List ℕ) (at : Place) (w : ℕ) → 3 ≤ at.page → (header_on pages at.page).kind ≡ 2 → w ≡ width_on pages at.page → w ≤ 2048 → lies_check (kept_size w) at.slot ≡ Ok tt
    → length (pages at.page) ≡ 4096 → IsPlaceOf 2 pages at
place_of_version pages at w behind is wide narrow lies whole =
    let size : kept_size w ≡ size_on pages at.page =
    ap kept_size wide ∙ sym (ap (λ b. cond b (slot_size (width_on pages at.page)) (kept_size (width_on pages at.page))) (one_of_two (header_on pages at.page).kind is)) in
    record {
      behind_catalog = behind;
      of_kind = is;
      inside = subst (λ n. start_of n at.slot + n ≤ length (pages at.page)) size
          (subst (λ l. start_of (kept_size w) at.slot + kept_size w ≤ l) (sym whole) (lies_inside (kept_size w) at.slot (omega arith) (omega (arith, narrow)) lies));
    }
