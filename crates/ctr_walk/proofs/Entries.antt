-- An entry that passes its check has columns that a table may have.
use Rattle.std.proofs.Common.{◌≡◌, ◌≢◌, ⊎_elim, ℕ, zero, suc, ◌+◌, ◌-◌, ◌*◌, ◌<◌, ◌≤◌, cond, List, [], ◌∷◌, length, drop, Result, Ok, Err, refl, sym, ◌∙◌, ap, subst, arith, take-append-drop}
use Rattle.std.specs.Prelude.{⊤}
use Rattle.std.specs.List.{AllByRecursion}
use Rattle.std.proofs.lemmas.Bool.{eq-eqb, ne_eqb, cases_eq}
use Rattle.ctr_bytes.specs.Fields.{field}
use Rattle.ctr_bytes.specs.Following.{◌>>=◌}
use Rattle.ctr_bytes.proofs.FieldLaws.{field-append, field-drop}
use Rattle.ctr_types.specs.declared.value.Column.{Column}
use Rattle.ctr_types.specs.declared.value.Kind.TheVariants.{Int, Chars}
use Rattle.ctr_types.specs.declared.value.Kind.{Kind}
use Rattle.ctr_record_effects.specs.value_Columns.{KindFits, ColumnFits, ColumnsFit}
use Rattle.ctr_record_effects.specs.value_Payload.{IsKeyed}
use Rattle.ctr_store.specs.rec_BadRecord.{BadRecord}
use Rattle.ctr_store.specs.rec_Damage.{at_most}
use Rattle.ctr_record_effects.specs.page_Reading.{piece}
use Rattle.ctr_record_effects.specs.page_Columns.{entry_at, name_in, column_kind_at, kind_said, columns_from, columns_in}
use Rattle.ctr_record_effects.specs.page_Damage.{from_1_check, firsts_check, column_check, columns_check, used_entry_check, entry_check}
use Rattle.ctr_record_effects.proofs.page_Passing.{from_1_holds}
use Rattle.ctr_record_effects.proofs.page_Holding.{most_ok}
use Rattle.ctr_record_effects.proofs.area_Bytes.{length-piece}
use Rattle.ctr_walk.specs.Columns.{HaveNames}

pub both_ok : (r s : Result ⊤ BadRecord) → (r >>= λ _. s) ≡ Ok tt → (r ≡ Ok tt) × (s ≡ Ok tt)
both_ok (Ok x) s e = (refl, e)
both_ok (Err d) s e = absurd cc

-- a field of a piece of a page
pub field_there : (n k b m : ℕ) (page : List ℕ) → k + n ≤ m → b + m ≤ length page → field n k (piece b m page) ≡ field n (b + k) page
field_there n k b m page fits inside =
    sym (field-append n k (piece b m page) (drop m (drop b page)) (subst (λ l. k + n ≤ l) (sym (length-piece b m page inside)) fits))
    ∙ ap (field n k) (take-append-drop m (drop b page)) ∙ field-drop n k b page

-- one column
pub record IsThere (most k : ℕ) (bytes : List ℕ) : Type 0 where
  pub some : 1 ≤ field 1 k bytes
  pub short : field 1 k bytes ≤ 16
  pub kind : field 1 (column_kind_at k) bytes ≤ most

module _ (start : ℕ) (page : List ℕ) (inside : start + 256 ≤ length page) where
  column_there : (most k : ℕ) → k + 18 ≤ 256 → column_check most (start + k) page ≡ Ok tt → IsThere most k (piece start 256 page)
  unfolding column_check
  column_there most k within e =
      let both = both_ok (from_1_check 16 (start + k) page) (at_most (column_kind_at (start + k)) most (field 1 (column_kind_at (start + k)) page)) e in
      let name = from_1_holds 16 (start + k) page (sym both.0) in
      let here = field_there 1 k start 256 page (omega (arith, within)) inside in
      let kind = field_there 1 (column_kind_at k) start 256 page (omega (arith, within)) inside in
      let place : start + column_kind_at k ≡ column_kind_at (start + k) = omega arith in
      record {
        some = subst (λ x. 1 ≤ x) (sym here) name.0;
        short = subst (λ x. x ≤ 16) (sym here) name.1;
        kind = subst (λ x. x ≤ most) (sym (kind ∙ ap (λ j. field 1 j page) place)) (most_ok (column_kind_at (start + k)) most (field 1 (column_kind_at (start + k)) page) both.1);
      }

  -- each of those behind the first
  column_behind : (n k i : ℕ) → i < n → k + 18 * n ≤ 256 → columns_check n (start + k) page ≡ Ok tt → IsThere 64 (k + 18 * i) (piece start 256 page)
  column_behind zero k i few within e = absurd (omega (arith, few))
  column_behind (suc n) k zero few within e =
      let both = both_ok (column_check 64 (start + k) page) (columns_check n (start + k + 18) page) e in
      subst (λ j. IsThere 64 j (piece start 256 page)) (let z : k ≡ k + 18 * 0 = omega arith in z) (column_there 64 k (omega (arith, within)) both.0)
  column_behind (suc n) k (suc i) few within e =
      let both = both_ok (column_check 64 (start + k) page) (columns_check n (start + k + 18) page) e in
      subst (λ j. IsThere 64 j (piece start 256 page)) (let z : k + 18 + 18 * i ≡ k + 18 * suc i = omega arith in z)
      (column_behind n (k + 18) i (omega (arith, few)) (omega (arith, within)) (ap (λ j. columns_check n j page) (let z : start + (k + 18) ≡ start + k + 18 = omega arith in z) ∙ both.1))

-- a column that is there fits
kind_fits : (most n : ℕ) → n ≤ most → KindFits most (kind_said n)
kind_fits most n le = ⊎_elim
    (λ none. subst (KindFits most) (sym (ap (λ b. cond b Int (Chars n)) (eq-eqb n 0 none))) tt)
    (λ some. subst (KindFits most) (sym (ap (λ b. cond b Int (Chars n)) (ne_eqb n 0 some))) (omega (arith, some), le))
    (cases_eq n 0)

fits_there : (most k : ℕ) (bytes : List ℕ) → length bytes ≡ 256 → k + 18 ≤ 256 → IsThere most k bytes → ColumnFits most (record { name = name_in k bytes; kind = kind_said (field 1 (column_kind_at k) bytes) })
fits_there most k bytes long within there =
    let short = there.short in
    let some = there.some in
    let width : length (name_in k bytes) ≡ field 1 k bytes = length-piece (k + 1) (field 1 k bytes) bytes (omega (arith, long, within, short)) in
    ((omega (arith, width, some), omega (arith, width, short)), kind_fits most (field 1 (column_kind_at k) bytes) there.kind)

fit_behind : (n k : ℕ) (bytes : List ℕ) → length bytes ≡ 256 → k + 18 * n ≤ 256 → ((i : ℕ) → i < n → IsThere 64 (k + 18 * i) bytes) → AllByRecursion (ColumnFits 64) (columns_from n k bytes)
fit_behind zero k bytes long within each = tt
fit_behind (suc n) k bytes long within each = (
  fits_there 64 k bytes long (omega (arith, within)) (subst (λ j. IsThere 64 j bytes) (let z : k + 18 * 0 ≡ k = omega arith in z) (each 0 (omega arith))),
  fit_behind n (k + 18) bytes long (omega (arith, within)) (λ i few. subst (λ j. IsThere 64 j bytes) (let z : k + 18 * suc i ≡ k + 18 + 18 * i = omega arith in z) (each (suc i) (omega (arith, few)))),
)

length-columns : (n k : ℕ) (bytes : List ℕ) → length (columns_from n k bytes) ≡ n
length-columns zero k bytes = refl
length-columns (suc n) k bytes = ap suc (length-columns n (k + 18) bytes)

-- ---- an entry

-- what the check of one says of its columns
pub record HasColumns (bytes : List ℕ) : Type 0 where
  pub some : 1 ≤ field 1 34 bytes
  pub few : field 1 34 bytes ≤ 8
  pub key : IsThere 0 35 bytes
  pub others : (i : ℕ) → i < field 1 34 bytes - 1 → IsThere 64 (53 + 18 * i) bytes
  pub long : length bytes ≡ 256

pub entry_columns : (counted n : ℕ) (page : List ℕ) → 256 * n + 256 ≤ length page → entry_check counted (256 * n) page ≡ Ok tt → (entry_at n page).state ≢ 0 → HasColumns (entry_at n page).bytes
unfolding entry_check used_entry_check
entry_columns counted n page inside e used =
    let start = 256 * n in
    let state : field 1 start page ≡ (entry_at n page).state = ap (λ k. field 1 k page) (let z : start ≡ start + 0 = omega arith in z) ∙ sym (field_there 1 0 start 256 page (omega arith) inside) in
    let checked : used_entry_check counted start page ≡ Ok tt =
    ap (λ b. cond b (Ok tt) (used_entry_check counted start page)) (sym (ne_eqb (field 1 start page) 0 (λ none. used (sym state ∙ none)))) ∙ e in
    let second = both_ok (firsts_check 9 counted (start + 179) page) _ checked in
    let third = both_ok (at_most start 2 (field 1 start page)) _ second.1 in
    let fourth = both_ok (from_1_check 16 (start + 17) page) _ third.1 in
    let fifth = both_ok (from_1_check 8 (start + 34) page) _ fourth.1 in
    let sixth = both_ok (column_check 0 (start + 34 + 1) page) (columns_check (field 1 (start + 34) page - 1) (start + 34 + 1 + 18) page) fifth.1 in
    let number = from_1_holds 8 (start + 34) page (sym fifth.0) in
    let same : field 1 34 (piece start 256 page) ≡ field 1 (start + 34) page = field_there 1 34 start 256 page (omega arith) inside in
    record {
      some = subst (λ x. 1 ≤ x) (sym same) number.0;
      few = subst (λ x. x ≤ 8) (sym same) number.1;
      key = column_there start page inside 0 35 (omega arith) (ap (λ k. column_check 0 k page) (let z : start + 35 ≡ start + 34 + 1 = omega arith in z) ∙ sixth.0);
      others = λ i less. column_behind start page inside (field 1 (start + 34) page - 1) 53 i (subst (λ x. i < x - 1) same less) (omega (arith, number.1))
          (ap (λ k. columns_check (field 1 (start + 34) page - 1) k page) (let z : start + 53 ≡ start + 34 + 1 + 18 = omega arith in z) ∙ sixth.1);
      long = length-piece start 256 page inside;
    }

pub are_named : (bytes : List ℕ) → HasColumns bytes → HaveNames bytes
are_named bytes has = record { few = has.few; names = names }
  where
    names : (i : ℕ) → i < field 1 34 bytes → (1 ≤ field 1 (34 + 1 + 18 * i) bytes) × (field 1 (34 + 1 + 18 * i) bytes ≤ 16)
    names zero less = let key = has.key in (key.some, key.short)
    names (suc i) less =
        let there = has.others i (omega (arith, less)) in
        subst (λ j. (1 ≤ field 1 j bytes) × (field 1 j bytes ≤ 16)) (let z : 53 + 18 * i ≡ 34 + 1 + 18 * suc i = omega arith in z) (there.some, there.short)

pub columns_fit : (bytes : List ℕ) → HasColumns bytes → ColumnsFit (columns_in bytes)
columns_fit bytes has =
    let more = has.some in
    let few = has.few in
    let one_more : field 1 34 bytes ≡ suc (field 1 34 bytes - 1) = omega (arith, more) in
    subst (λ n. ColumnsFit (columns_from n 35 bytes)) (sym one_more)
    (fits_there 0 35 bytes has.long (omega arith) has.key, fit_behind (field 1 34 bytes - 1) 53 bytes has.long (omega (arith, few)) has.others, omega (arith, few, length-columns (field 1 34 bytes - 1) 53 bytes))

-- the first is the key
key_is_int : (k : Kind) → KindFits 0 k → k ≡ Int
key_is_int Int fits = refl
key_is_int (Chars n) fits = absurd (let some = fits.0 in let none = fits.1 in omega (arith, some, none))

pub columns_keyed : (cs : List Column) → ColumnsFit cs → IsKeyed cs
columns_keyed [] fits = absurd fits
columns_keyed (c ∷ cs) fits = key_is_int c.kind fits.0.1
