-- The first page of a chain of an entry that passes its check is counted.
use Rattle.std.proofs.Common.{◌≡◌, ◌≢◌, ℕ, zero, suc, ◌+◌, ◌-◌, ◌*◌, ◌%◌, ◌<◌, ◌≤◌, cond, List, drop, length, take-append-drop, Ok, sym, ◌∙◌, ap, subst, arith}
use Rattle.std.proofs.lemmas.Bool.{ne_eqb}
use Rattle.ctr_bytes.specs.Fields.{field}
use Rattle.ctr_bytes.proofs.FieldLaws.{field-append, field-drop}
use Rattle.ctr_store.proofs.rec_Reading.{bind_ok}
use Rattle.ctr_record_effects.specs.page_Reading.{piece}
use Rattle.ctr_record_effects.specs.page_Chain.{Chain}
use Rattle.ctr_record_effects.specs.page_Chain.TheVariants.{Rows, Versions}
use Rattle.ctr_record_effects.specs.page_Columns.{entry_at}
use Rattle.ctr_record_effects.specs.page_Damage.{counted_check, firsts_check, used_entry_check, entry_check}
use Rattle.ctr_record_effects.proofs.page_Holding.{most_ok}
use Rattle.ctr_record_effects.proofs.area_Bytes.{length-piece}
use Rattle.ctr_walk.specs.Tables.{IsChain, first_at, entry_number, chain_table_check}

piece_field : (n k b m : ℕ) (page : List ℕ) → k + n ≤ m → b + m ≤ length page → field n k (piece b m page) ≡ field n (b + k) page
piece_field n k b m page fits inside =
    sym (field-append n k (piece b m page) (drop m (drop b page)) (subst (λ l. k + n ≤ l) (sym (length-piece b m page inside)) fits))
    ∙ ap (field n k) (take-append-drop m (drop b page)) ∙ field-drop n k b page

firsts_hold : (n counted at k : ℕ) (page : List ℕ) → k < n → firsts_check n counted at page ≡ Ok tt → field 4 (at + 4 * k) page ≤ counted - 1
unfolding counted_check
firsts_hold zero counted at k page lt e = absurd (omega (arith, lt))
firsts_hold (suc n) counted at zero page lt e =
    let first = bind_ok (counted_check counted at page) (λ _. firsts_check n counted (at + 4) page) tt e in
    subst (λ j. field 4 j page ≤ counted - 1) (let z : at ≡ at + 4 * 0 = omega arith in z) (most_ok at (counted - 1) (field 4 at page) first.1)
firsts_hold (suc n) counted at (suc k) page lt e =
    let first = bind_ok (counted_check counted at page) (λ _. firsts_check n counted (at + 4) page) tt e in
    subst (λ j. field 4 j page ≤ counted - 1) (let z : at + 4 + 4 * k ≡ at + 4 * suc k = omega arith in z) (firsts_hold n counted (at + 4) k page (omega (arith, lt)) first.2)

module _ (counted : ℕ) (page : List ℕ) (some : 0 < counted) (whole : length page ≡ 4096) where
  front_counted : (n k : ℕ) → n < 16 → k < 9 → entry_check counted (256 * n) page ≡ Ok tt → (entry_at n page).state ≢ 0 → field 4 (179 + 4 * k) (entry_at n page).bytes < counted
  unfolding entry_check used_entry_check
  front_counted n k low few e used =
      let start = 256 * n in
      let inside : start + 256 ≤ length page = omega (arith, low, whole) in
      let state : field 1 start page ≡ (entry_at n page).state = ap (λ k. field 1 k page) (let z : start ≡ start + 0 = omega arith in z) ∙ sym (piece_field 1 0 start 256 page (omega arith) inside) in
      let checked : used_entry_check counted start page ≡ Ok tt =
      ap (λ b. cond b (Ok tt) (used_entry_check counted start page)) (sym (ne_eqb (field 1 start page) 0 (λ none. used (sym state ∙ none)))) ∙ e in
      let first = bind_ok (firsts_check 9 counted (start + 179) page) _ tt checked in
      let small = firsts_hold 9 counted (start + 179) k page few first.1 in
      let same : field 4 (179 + 4 * k) (piece start 256 page) ≡ field 4 (start + 179 + 4 * k) page =
      piece_field 4 (179 + 4 * k) start 256 page (omega (arith, few)) inside ∙ ap (λ k. field 4 k page) (let z : start + (179 + 4 * k) ≡ start + 179 + 4 * k = omega arith in z) in
      subst (λ x. x < counted) (sym same) (omega (arith, small, some))

  pub first_counted : (chain : Chain) → IsChain chain → chain_table_check counted chain page ≡ Ok tt → (entry_at (entry_number chain) page).state ≢ 0 → first_at chain (entry_at (entry_number chain) page).bytes < counted
  first_counted (Rows e bucket) is passes used = front_counted (e % 16) bucket (omega arith) (omega (arith, is.1)) passes used
  first_counted (Versions e) is passes used = front_counted (e % 16) 8 (omega arith) (omega arith) passes used
