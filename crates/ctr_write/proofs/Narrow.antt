-- The rows of a table are narrow, where its entry of the catalog passes its check.
use Rattle.std.proofs.Common.{◌≡◌, ⊎_elim, ℕ, zero, suc, ◌+◌, ◌-◌, ◌*◌, ◌/◌, ◌%◌, ◌<◌, ◌≤◌, cond, List, [], take, drop, Ok, sym, ◌∙◌, ap, subst, arith}
use Rattle.std.specs.Prelude.{map}
use Rattle.std.proofs.lemmas.Bool.{cases_eq, eq-eqb, ne_eqb, lt-ltb}
use Rattle.std.proofs.lemmas.List.{get_or-drop, get_or-take}
use Rattle.ctr_types.specs.declared.value.Column.{Column}
use Rattle.ctr_types.specs.declared.value.Kind.TheVariants.{Int, Chars}
use Rattle.ctr_bytes.specs.Fields.{field}
use Rattle.ctr_bytes.proofs.FieldLaws.{field-drop}
use Rattle.ctr_value.specs.Payload.{field_width}
use Rattle.ctr_rec.specs.Damage.{at_most}
use Rattle.ctr_page.specs.declared.rows.Place.{Place}
use Rattle.ctr_page.specs.Reading.{piece}
use Rattle.ctr_page.specs.Columns.{column_kind_at, kind_said, columns_from, columns_in, kinds_of, kinds_width}
use Rattle.ctr_page.specs.Damage.{from_1_check, firsts_check, column_check, columns_check, used_entry_check, entry_check}
use Rattle.ctr_page.proofs.Passing.{from_1_holds}
use Rattle.ctr_page.proofs.Holding.{most_ok}
use Rattle.ctr_extend.proofs.walk_Entries.{both_ok}
use Rattle.ctr_area.specs.Chains.{slot_places}
use Rattle.ctr_area.specs.Reading.{entry_bytes}
use Rattle.ctr_area.specs.Sound.{IsAmong}
use Rattle.ctr_redo.specs.States.{State}
use Rattle.ctr_extend.specs.record_effects_States.{pages_in, area_in}
use Rattle.ctr_extend.specs.record_effects_Standing.{IsDatabaseState}
use Rattle.ctr_extend.specs.passed_Laid.{width_in}
use Rattle.ctr_extend.proofs.undamaged_There.{slot_page}

-- a byte of a part of a list, however long the list is
take_byte : (k m : ℕ) (xs : List ℕ) → k < m → field 1 k (take m xs) ≡ field 1 k xs
unfolding field
take_byte k m xs lt = ap (λ (b : ℕ). b + 256 * 0) (get_or-drop k (take m xs) 0 0 ∙ get_or-take m xs (k + 0) 0 (omega (arith, lt)) ∙ sym (get_or-drop k xs 0 0))

byte_there : (k start : ℕ) (page : List ℕ) → k < 256 → field 1 k (piece start 256 page) ≡ field 1 (start + k) page
byte_there k start page lt = take_byte k 256 (drop start page) lt ∙ field-drop 1 k start page

-- a column of at most 64 bytes has at most 65 in a payload
kind_narrow : (n : ℕ) → n ≤ 64 → field_width (kind_said n) ≤ 65
kind_narrow n le = ⊎_elim
    (λ none. subst (λ k. field_width k ≤ 65) (sym (ap (λ b. cond b Int (Chars n)) (eq-eqb n 0 none))) (omega arith))
    (λ some. subst (λ k. field_width k ≤ 65) (sym (ap (λ b. cond b Int (Chars n)) (ne_eqb n 0 some))) (omega (arith, le)))
    (cases_eq n 0)

sums : (a b n : ℕ) → a ≤ 65 → b ≤ 65 * n → a + b ≤ 65 * suc n
sums a b n one rest = omega (arith, one, rest)

module _ (start : ℕ) (page : List ℕ) where
  columns_narrow : (n k : ℕ) → k + 18 * n ≤ 256 → columns_check n (start + k) page ≡ Ok tt → kinds_width (map (λ (c : Column). c.kind) (columns_from n k (piece start 256 page))) ≤ 65 * n
  unfolding column_check
  columns_narrow zero k within e = omega arith
  columns_narrow (suc n) k within e =
      let both = both_ok (column_check 64 (start + k) page) (columns_check n (start + k + 18) page) e in
      let one = both_ok (from_1_check 16 (start + k) page) (at_most (column_kind_at (start + k)) 64 (field 1 (column_kind_at (start + k)) page)) both.0 in
      let place : start + column_kind_at k ≡ column_kind_at (start + k) = omega arith in
      let byte = byte_there (column_kind_at k) start page (omega (arith, within)) ∙ ap (λ j. field 1 j page) place in
      let small : field 1 (column_kind_at k) (piece start 256 page) ≤ 64 = subst (λ x. x ≤ 64) (sym byte) (most_ok (column_kind_at (start + k)) 64 (field 1 (column_kind_at (start + k)) page) one.1) in
      let further = ap (λ j. columns_check n j page) (let z : start + (k + 18) ≡ start + k + 18 = omega arith in z) ∙ both.1 in
      sums (field_width (kind_said (field 1 (column_kind_at k) (piece start 256 page)))) (kinds_width (map (λ (c : Column). c.kind) (columns_from n (k + 18) (piece start 256 page)))) n
      (kind_narrow (field 1 (column_kind_at k) (piece start 256 page)) small) (columns_narrow n (k + 18) (omega (arith, within)) further)

few_columns : (w m n : ℕ) → w ≤ 65 * m → suc m ≡ n → n ≤ 8 → w ≤ 2048
few_columns w m n le is few = omega (arith, le, is, few)

rows_narrow : (s : State) (e : ℕ) → IsDatabaseState s → e < 32 → (((area_in s).title e).state ≡ 0 → ⊥) → width_in (area_in s) e ≤ 2048
unfolding entry_check used_entry_check
rows_narrow s e sound few used =
    let page = pages_in s (1 + e / 16) in
    let start = 256 * (e % 16) in
    let bytes = piece start 256 page in
    let here : entry_bytes (pages_in s) e ≡ bytes = ap (λ b. cond b bytes []) (lt-ltb e 32 few) in
    let state : ((area_in s).title e).state ≡ field 1 start page =
    ap (λ l. field 1 0 l) here ∙ byte_there 0 start page (omega arith) ∙ ap (λ k. field 1 k page) (let z : start + 0 ≡ start = omega arith in z) in
    let checked : used_entry_check s.counted start page ≡ Ok tt =
    ap (λ b. cond b (Ok tt) (used_entry_check s.counted start page)) (sym (ne_eqb (field 1 start page) 0 (λ none. used (state ∙ none)))) ∙ sound.passed.entries e few in
    let second = both_ok (firsts_check 9 s.counted (start + 179) page) _ checked in
    let third = both_ok (at_most start 2 (field 1 start page)) _ second.1 in
    let fourth = both_ok (from_1_check 16 (start + 17) page) _ third.1 in
    let fifth = both_ok (from_1_check 8 (start + 34) page) _ fourth.1 in
    let sixth = both_ok (column_check 0 (start + 34 + 1) page) (columns_check (field 1 (start + 34) page - 1) (start + 34 + 1 + 18) page) fifth.1 in
    let number = from_1_holds 8 (start + 34) page (sym fifth.0) in
    let n = field 1 (start + 34) page in
    let many : field 1 34 bytes ≡ suc (n - 1) = byte_there 34 start page (omega arith) ∙ (let z : n ≡ suc (n - 1) = omega (arith, number.0) in z) in
    let more = ap (λ k. columns_check (n - 1) k page) (let z : start + 53 ≡ start + 34 + 1 + 18 = omega arith in z) ∙ sixth.1 in
    let narrow = columns_narrow start page (n - 1) 53 (omega (arith, number.1)) more in
    subst (λ l. kinds_width (kinds_of (columns_in l)) ≤ 2048) (sym here)
    (subst (λ m. kinds_width (kinds_of (columns_from m 35 bytes)) ≤ 2048) (sym many)
    (few_columns (kinds_width (map (λ (c : Column). c.kind) (columns_from (n - 1) 53 bytes))) (n - 1) n narrow (let z : suc (n - 1) ≡ n = omega (arith, number.0) in z) number.1))

-- a table that has a place of a slot has narrow rows
pub table_narrow : (s : State) (e : ℕ) (at : Place) → IsDatabaseState s → IsAmong at (slot_places (area_in s) e) → width_in (area_in s) e ≤ 2048
table_narrow s e at sound in_ =
    let page = slot_page s.counted s.tables (pages_in s) sound.passed sound.sound e at in_ in
    rows_narrow s e sound page.few page.used
