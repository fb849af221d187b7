-- A page of a chain has room for a place, as rows are at most 455 bytes wide.
use Rattle.std.proofs.Common.{◌≡◌, ◌≢◌, ⊎_elim, ℕ, zero, suc, ◌+◌, ◌-◌, ◌*◌, ◌<◌, ◌≤◌, Bool, true, false, cond, List, drop, Ok, refl, sym, ◌∙◌, ap, subst, arith}
use Rattle.std.proofs.lemmas.Bool.{eq-eqb, ne_eqb, cases_eq}
use Rattle.std.proofs.lemmas.List.{get_or-take, get_or-drop}
use Rattle.std.proofs.lemmas.Nat.{le-div}
use Rattle.ctr_rec.specs.bytes_Fields.{field}
use Rattle.ctr_page.proofs.bytes_FieldLaws.{got_byte}
use Rattle.ctr_rec.specs.Damage.{at_most}
use Rattle.ctr_page.specs.types_Kind.TheVariants.{Int, Chars}
use Rattle.ctr_page.specs.ctr_value.Payload.{field_width, width}
use Rattle.ctr_page.specs.Reading.{piece}
use Rattle.ctr_page.specs.Columns.{kind_said, column_kind_at, columns_from, columns_in}
use Rattle.ctr_page.specs.Damage.{from_1_check, firsts_check, column_check, columns_check, used_entry_check, entry_check}
use Rattle.ctr_page.specs.Places.{has_previous, slot_size, kept_size, room_for}
use Rattle.ctr_page.proofs.Holding.{most_ok}
use Rattle.ctr_page.proofs.Passing.{from_1_holds}
use Rattle.ctr_area.specs.Reading.{size_of_kind}
use Rattle.ctr_walk.proofs.Entries.{both_ok}

-- ---- rows of columns that pass

-- a byte of an entry, on its page, however long that is
byte_there : (k start : ℕ) (page : List ℕ) → k < 256 → field 1 k (piece start 256 page) ≡ field 1 (start + k) page
byte_there k start page lt = sym (got_byte k (piece start 256 page)) ∙ get_or-take 256 (drop start page) k 0 lt ∙ get_or-drop start page k 0 ∙ got_byte (start + k) page

kind_few : (n : ℕ) → n ≤ 64 → field_width (kind_said n) ≤ 65
kind_few n le = ⊎_elim
    (λ none. subst (λ k. field_width k ≤ 65) (sym (ap (λ b. cond b Int (Chars n)) (eq-eqb n 0 none))) (let few : 8 ≤ 65 = omega arith in few))
    (λ some. subst (λ k. field_width k ≤ 65) (sym (ap (λ b. cond b Int (Chars n)) (ne_eqb n 0 some))) (omega (arith, le)))
    (cases_eq n 0)

module _ (start : ℕ) (page : List ℕ) where
  columns_few : (n k : ℕ) → k + 18 * n ≤ 256 → columns_check n (start + k) page ≡ Ok tt → width (columns_from n k (piece start 256 page)) ≤ 65 * n
  unfolding column_check
  columns_few zero k within e = omega arith
  columns_few (suc n) k within e =
      let both = both_ok (column_check 64 (start + k) page) (columns_check n (start + k + 18) page) e in
      let first = both_ok (from_1_check 16 (start + k) page) (at_most (column_kind_at (start + k)) 64 (field 1 (column_kind_at (start + k)) page)) both.0 in
      let kind = most_ok (column_kind_at (start + k)) 64 (field 1 (column_kind_at (start + k)) page) first.1 in
      let place : start + column_kind_at k ≡ column_kind_at (start + k) = omega arith in
      let here = byte_there (column_kind_at k) start page (omega (arith, within)) ∙ ap (λ j. field 1 j page) place in
      sums (field_width (kind_said (field 1 (column_kind_at k) (piece start 256 page)))) (width (columns_from n (k + 18) (piece start 256 page))) n
      (kind_few (field 1 (column_kind_at k) (piece start 256 page)) (subst (λ f. f ≤ 64) (sym here) kind))
      (columns_few n (k + 18) (omega (arith, within)) (ap (λ j. columns_check n j page) (let z : start + (k + 18) ≡ start + k + 18 = omega arith in z) ∙ both.1))
    where
      sums : (a b n : ℕ) → a ≤ 65 → b ≤ 65 * n → a + b ≤ 65 * suc n
      sums a b n one two = omega (arith, one, two)

  -- an entry that passes and isn't free
  pub entry_few : (counted : ℕ) → entry_check counted start page ≡ Ok tt → field 1 0 (piece start 256 page) ≢ 0 → width (drop 1 (columns_in (piece start 256 page))) ≤ 455
  unfolding entry_check used_entry_check
  entry_few counted e used =
      let state : field 1 0 (piece start 256 page) ≡ field 1 start page = byte_there 0 start page (omega arith) ∙ ap (λ j. field 1 j page) (let z : start + 0 ≡ start = omega arith in z) in
      let checked : used_entry_check counted start page ≡ Ok tt =
      ap (λ b. cond b (Ok tt) (used_entry_check counted start page)) (sym (ne_eqb (field 1 start page) 0 (λ none. used (state ∙ none)))) ∙ e in
      let second = both_ok (firsts_check 9 counted (start + 179) page) _ checked in
      let third = both_ok (at_most start 2 (field 1 start page)) _ second.1 in
      let fourth = both_ok (from_1_check 16 (start + 17) page) _ third.1 in
      let fifth = both_ok (from_1_check 8 (start + 34) page) _ fourth.1 in
      let sixth = both_ok (column_check 0 (start + 34 + 1) page) (columns_check (field 1 (start + 34) page - 1) (start + 34 + 1 + 18) page) fifth.1 in
      let number = from_1_holds 8 (start + 34) page (sym fifth.0) in
      let same : field 1 34 (piece start 256 page) ≡ suc (field 1 (start + 34) page - 1) = byte_there 34 start page (omega arith) ∙ one_more (field 1 (start + 34) page) number.0 in
      let m = field 1 (start + 34) page - 1 in
      subst (λ n. width (drop 1 (columns_from n 35 (piece start 256 page))) ≤ 455) (sym same)
      (most (width (columns_from m 53 (piece start 256 page))) (field 1 (start + 34) page) number.1
      (columns_few m 53 (long (field 1 (start + 34) page) number.1) (ap (λ k. columns_check m k page) (let z : start + 53 ≡ start + 34 + 1 + 18 = omega arith in z) ∙ sixth.1)))
    where
      one_more : (n : ℕ) → 1 ≤ n → n ≡ suc (n - 1)
      one_more n le = omega (arith, le)

      long : (n : ℕ) → n ≤ 8 → 53 + 18 * (n - 1) ≤ 256
      long n le = omega (arith, le)

      most : (w n : ℕ) → n ≤ 8 → w ≤ 65 * (n - 1) → w ≤ 455
      most w n le few = omega (arith, le, few)

-- ---- a place has room

slot_few : (w : ℕ) → w ≤ 455 → (0 < slot_size w) × (slot_size w ≤ 4080)
slot_few w le = by (has_previous w) refl
  where
    by : (b : Bool) → has_previous w ≡ b → (0 < slot_size w) × (slot_size w ≤ 4080)
    by true is = subst (λ b. (0 < cond b (18 + w + 9 + w) (18 + w) + 6) × (cond b (18 + w + 9 + w) (18 + w) + 6 ≤ 4080)) (sym is) (omega arith, omega (arith, le))
    by false is = subst (λ b. (0 < cond b (18 + w + 9 + w) (18 + w) + 6) × (cond b (18 + w + 9 + w) (18 + w) + 6 ≤ 4080)) (sym is) (omega arith, omega (arith, le))

some_room : (size : ℕ) → 0 < size → size ≤ 4080 → 0 < room_for size
some_room size some few = above (room_for size) (le-div 1 4080 size some (omega (arith, few)))
  where
    above : (n : ℕ) → 1 ≤ n → 0 < n
    above n le = omega (arith, le)

pub room_some : (rows : Bool) (w : ℕ) → w ≤ 455 → 0 < room_for (size_of_kind rows w)
room_some true w le = some_room (slot_size w) (slot_few w le).0 (slot_few w le).1
room_some false w le = some_room (kept_size w) (omega arith) (omega (arith, le))
