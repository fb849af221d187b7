-- What passes its checks holds rows that can be read.
use Rattle.std.proofs.Common.{◌≡◌, inl, inr, ℕ, ◌+◌, ◌-◌, ◌*◌, ◌<◌, ◌≤◌, ℤ, Bool, true, false, cond, ltb, List, [], ◌∷◌, map, length, take, drop, slice_index, Some, None, Result, Ok, Err, refl, sym, ◌∙◌, ap, subst, arith, take-append-drop, zero, suc}
use Rattle.std.specs.Prelude.{⊤, IfSome, FitsSigned, ◌==◌}
use Rattle.std.specs.Int.{w64, cast_signed}
use Rattle.std.proofs.Math.Facts.{sfits_to_z}
use Rattle.std.proofs.lemmas.Int.{of_z-to_z}
use Rattle.std.proofs.lemmas.Bool.{ltb-false, eq-eqb, ne_eqb, cases_Bool}
use Rattle.std.proofs.lemmas.List.{drop-take, drop-drop, take-take, length-take-le, length-drop}
use Rattle.ctr_rec.specs.types_Column.{Column}
use Rattle.ctr_rec.specs.types_Kind.{Kind}
use Rattle.ctr_rec.specs.types_Kind.TheVariants as kind
use Rattle.ctr_rec.specs.types_Value_TheVariants as value
use Rattle.ctr_rec.specs.bytes_Fields.{spelled, field}
use Rattle.ctr_rec.proofs.bytes_FieldLaws.{AreBytes, field-append, field-drop, field_fits, spelled_field, got_byte, side}
use Rattle.ctr_value.specs.Payload.{IsOf, AreOf, IsKeyed, field_width, width, IsField, IsPayload, IsRowOf}
use Rattle.ctr_value.specs.Values.{value_said, values_in, row_values}
pub use Rattle.ctr_value.proofs.PayloadLaws.{kinds_wide}
use Rattle.ctr_value.proofs.PayloadLoops.{text_found}
use Rattle.ctr_rec.specs.declared.decoding.BadRecord.{BadRecord}
use Rattle.ctr_rec.specs.bytes_Following.{◌>>=◌}
use Rattle.ctr_rec.specs.Damage.{wrong, at_most}
use Rattle.ctr_rec.proofs.Reading.{guard_ok}
use Rattle.ctr_page.specs.Places.{has_previous, previous_at, pointer_at, kept_pointer_at, slot_size, kept_size}
use Rattle.ctr_page.specs.Reading.{piece, version_in, if_there, previous_in, slot_at, older_at}
use Rattle.ctr_page.specs.Columns.{entry_at, column_kind_at, kind_said, columns_from, first_in, kinds_of, kinds_width, slot_start, kept_start}
use Rattle.ctr_page.specs.Damage.{counted_check, text_check, texts_check, version_check, some_version_check, previous_check, pointer_check, used_slot_check, used_kept_check, slot_check, kept_check, from_1_check, firsts_check, column_check, columns_check, used_entry_check, entry_check}
use Rattle.ctr_page.specs.Readable.{HoldsRow, HoldsRows, HoldsOlder, NamesFit, HasParts, FirstsAreCounted}
use Rattle.ctr_page.proofs.Passing.{from_1_holds}

-- ---- checks that pass

then_ok : (r s : Result ⊤ BadRecord) → (r >>= λ _. s) ≡ Ok tt → (r ≡ Ok tt) × (s ≡ Ok tt)
then_ok (Ok x) s e = (refl, e)
then_ok (Err d) s e = absurd cc

pub most_ok : (at bound got : ℕ) → at_most at bound got ≡ Ok tt → got ≤ bound
unfolding at_most
most_ok at bound got e = ltb-false bound got (guard_ok (ltb bound got) (wrong at bound got) (Ok tt) tt e).0

-- ---- pieces

piece_in : (a n b m : ℕ) (page : List ℕ) → a + n ≤ m → piece a n (piece b m page) ≡ piece (b + a) n page
piece_in a n b m page fits =
    ap (λ k. take n (drop a (take k (drop b page)))) (let e : m ≡ a + (m - a) = omega (arith, fits) in e)
    ∙ ap (take n) (drop-take a (m - a) (drop b page) ∙ ap (take (m - a)) (drop-drop a b page)) ∙ take-take n (m - a) (drop (b + a) page) (omega (arith, fits))

piece_field : (n k b m : ℕ) (page : List ℕ) → k + n ≤ m → b + m ≤ length page → field n k (piece b m page) ≡ field n (b + k) page
piece_field n k b m page fits inside =
    sym (field-append n k (piece b m page) (drop m (drop b page)) (subst (λ l. k + n ≤ l) (sym (length-take-le m (drop b page) (omega (arith, length-drop b page, inside)))) fits))
    ∙ ap (field n k) (take-append-drop m (drop b page)) ∙ field-drop n k b page

-- ---- the fields of a payload

field_holds : (k : Kind) (at more : ℕ) (page : List ℕ) → AreBytes page → at + (field_width k + more) ≤ length page → text_check k at page ≡ Ok tt
    → IsOf k (value_said k (piece at (field_width k + more) page)) × IsField k (value_said k (piece at (field_width k + more) page)) (take (field_width k) (drop at page))
field_holds kind.Int at more page below fits e =
    let x = field 8 at page in
    let said : field 8 0 (piece at (8 + more) page) ≡ x = piece_field 8 0 at (8 + more) page (omega arith) fits ∙ ap (λ k. field 8 k page) (let z : at + 0 ≡ at = omega arith in z) in
    let small = field_fits 8 at page below in
    subst (λ n. IsOf kind.Int (value.Int (cast_signed w64 n)) × IsField kind.Int (value.Int (cast_signed w64 n)) (take 8 (drop at page))) (sym said)
    (sfits_to_z (record { fits = small }), sym (ap (spelled 8) (of_z-to_z w64 x small) ∙ spelled_field 8 at page (omega (arith, fits)) below))
field_holds (kind.Chars most) at more page below fits e =
    let bytes = piece at (most + 1 + more) page in
    let n = slice_index page at in
    let first : field 1 0 bytes ≡ n = piece_field 1 0 at (most + 1 + more) page (omega arith) fits ∙ ap (λ k. field 1 k page) (let z : at + 0 ≡ at = omega arith in z) ∙ sym (got_byte at page) in
    let short : n ≤ most = subst (λ x. x ≤ most) (sym (got_byte at page)) (most_ok at most (field 1 at page) e) in
    let rest : drop 1 bytes ≡ take (most + more) (drop (at + 1) page) =
    ap (λ m. drop 1 (take m (drop at page))) (let z : most + 1 + more ≡ 1 + (most + more) = omega arith in z) ∙ drop-take 1 (most + more) (drop at page) ∙ ap (take (most + more)) (drop-drop 1 at page) in
    let text : take (field 1 0 bytes) (drop 1 bytes) ≡ take n (drop (at + 1) page) =
    ap (λ x. take x (drop 1 bytes)) first ∙ ap (take n) rest ∙ take-take n (most + more) (drop (at + 1) page) (omega (arith, short)) in
    text_found most at page (take (field 1 0 bytes) (drop 1 bytes)) (omega (arith, fits)) short text

texts_hold : (cs : List Column) (at : ℕ) (page : List ℕ) → AreBytes page → at + width cs ≤ length page → texts_check (map (λ (c : Column). c.kind) cs) at page ≡ Ok tt
    → AreOf cs (values_in cs (piece at (width cs) page)) × IsPayload cs (values_in cs (piece at (width cs) page)) (piece at (width cs) page)
texts_hold [] at page below fits e = (tt, refl)
texts_hold (c ∷ cs) at page below fits e =
    let w = field_width c.kind in
    let bytes = piece at (w + width cs) page in
    let both = then_ok (text_check c.kind at page) (texts_check (map (λ (c : Column). c.kind) cs) (at + w) page) e in
    let first = field_holds c.kind at (width cs) page below fits both.0 in
    let others = texts_hold cs (at + w) page below (omega (arith, fits)) both.1 in
    let rest : drop w bytes ≡ piece (at + w) (width cs) page = drop-take w (width cs) (drop at page) ∙ ap (take (width cs)) (drop-drop w at page) in
    let held = subst (λ l. AreOf cs (values_in cs l) × IsPayload cs (values_in cs l) (piece (at + w) (width cs) page)) (sym rest) others in
    ((first.0, held.0), (take w (drop at page), piece (at + w) (width cs) page, first.1, held.1, sym (side at w (width cs) page)))

row_holds : (cs : List Column) (key : ℤ) (at : ℕ) (page : List ℕ) → AreBytes page → IsKeyed cs → FitsSigned w64 key → at + width (drop 1 cs) ≤ length page → texts_check (kinds_of cs) at page ≡ Ok tt
    → IsRowOf cs key (piece at (width (drop 1 cs)) page) (row_values cs key (piece at (width (drop 1 cs)) page))
row_holds [] key at page below keyed fits inside e = absurd keyed
row_holds (c ∷ cs) key at page below keyed fits inside e =
    let held = texts_hold cs at page below inside e in
    ((keyed, (subst (λ k. IsOf k (value.Int key)) (sym keyed) fits, held.0)), refl, held.1)

-- ---- versions

known : {A : Type 0} (b : Bool) → (b ≡ true → A) → (b ≡ false → A) → A
known b at_true at_false = elim (cases_Bool b) [
  | inl t ↦ at_true t
  | inr f ↦ at_false f
]

module _ (cs : List Column) (keyed : IsKeyed cs) (page : List ℕ) (below : AreBytes page) where
  abbrev kinds : List Kind
  kinds = kinds_of cs

  abbrev w : ℕ
  w = kinds_width kinds

  -- the version at a place of what stands in a piece of the page
  version_holds : (key : ℤ) (start size at : ℕ) → FitsSigned w64 key → at + 9 + w ≤ size → start + size ≤ length page → version_check kinds (start + at) page ≡ Ok tt
      → HoldsRow cs key (version_in w at (piece start size page))
  unfolding version_check
  version_holds key start size at fits room inside e =
      let checked = (then_ok (at_most (start + at + 8) 1 (field 1 (start + at + 8) page)) (texts_check kinds (start + at + 9) page) e).1 in
      let wide : w ≡ width (drop 1 cs) = kinds_wide (drop 1 cs) in
      let there : piece (at + 9) w (piece start size page) ≡ piece (start + at + 9) (width (drop 1 cs)) page =
      piece_in (at + 9) w start size page room ∙ (λ i. piece ((let z : start + (at + 9) ≡ start + at + 9 = omega arith in z) i) (wide i) page) in
      subst (λ bytes. IsRowOf cs key bytes (row_values cs key bytes)) (sym there)
      (row_holds cs key (start + at + 9) page below keyed fits (omega (arith, room, inside, wide)) checked)

  key_fits : (start size : ℕ) → 9 ≤ size → start + size ≤ length page → FitsSigned w64 (cast_signed w64 (field 8 1 (piece start size page)))
  key_fits start size room inside =
      subst (λ x. FitsSigned w64 (cast_signed w64 x)) (sym (piece_field 8 1 start size page room inside)) (sfits_to_z (record { fits = field_fits 8 (start + 1) page below }))

  used_in : (start size : ℕ) → 1 ≤ size → start + size ≤ length page → field 1 0 (piece start size page) ≡ 1 → (field 1 start page == 1) ≡ true
  used_in start size room inside used =
      eq-eqb (field 1 start page) 1 (ap (λ k. field 1 k page) (let z : start ≡ start + 0 = omega arith in z) ∙ sym (piece_field 1 0 start size page room inside) ∙ used)

  -- a version that may be there
  some_holds : (key : ℤ) (start size at : ℕ) → FitsSigned w64 key → at + 9 + w ≤ size → start + size ≤ length page → some_version_check kinds (start + at) page ≡ Ok tt
      → IfSome (if_there (version_in w at (piece start size page))) (λ v. HoldsRow cs key v)
  unfolding some_version_check
  some_holds key start size at fits room inside e =
      let v = version_in w at (piece start size page) in
      let xid : field 8 (start + at) page ≡ v.xid = sym (piece_field 8 at start size page (omega (arith, room)) inside) in
      known (v.xid == 0)
      (λ none. subst (λ b. IfSome (cond b None (Some v)) (λ x. HoldsRow cs key x)) (sym none) tt)
      (λ some. subst (λ b. IfSome (cond b None (Some v)) (λ x. HoldsRow cs key x)) (sym some)
      (version_holds key start size at fits room inside
      (ap (λ b. cond b (Ok tt) (version_check kinds (start + at) page)) (sym (ap (λ x. x == 0) xid ∙ some)) ∙ e)))

  previous_holds : (key : ℤ) (start : ℕ) → FitsSigned w64 key → start + slot_size w ≤ length page → previous_check kinds start page ≡ Ok tt
      → IfSome (previous_in w (piece start (slot_size w) page)) (λ v. HoldsRow cs key v)
  unfolding previous_check
  previous_holds key start fits inside e =
      let v = version_in w (previous_at w) (piece start (slot_size w) page) in
      known (has_previous w)
      (λ is. subst (λ b. IfSome (cond b (if_there v) None) (λ x. HoldsRow cs key x)) (sym is)
      (some_holds key start (slot_size w) (previous_at w) fits (omega (arith, ap (λ b. cond b (previous_at w + 9 + w) (previous_at w) + 6) is)) inside
      (ap (λ b. cond b (some_version_check kinds (start + previous_at w) page) (Ok tt)) (sym is) ∙ e)))
      (λ isnt. subst (λ b. IfSome (cond b (if_there v) None) (λ x. HoldsRow cs key x)) (sym isnt) tt)

  -- the head has its room
  head_room : 18 + w ≤ slot_size w
  head_room = known (has_previous w)
      (λ is. omega (arith, ap (λ b. cond b (previous_at w + 9 + w) (previous_at w) + 6) is)) (λ isnt. omega (arith, ap (λ b. cond b (previous_at w + 9 + w) (previous_at w) + 6) isnt))

  pub slot_holds : (counted n : ℕ) → slot_start kinds n + slot_size w ≤ length page → slot_check kinds counted (slot_start kinds n) page ≡ Ok tt → HoldsRows cs (slot_at w n page)
  unfolding slot_check used_slot_check
  slot_holds counted n inside e = λ used.
      let start = slot_start kinds n in
      let size = slot_size w in
      let checked : used_slot_check kinds counted start page ≡ Ok tt =
      ap (λ b. cond b (used_slot_check kinds counted start page) (at_most start 1 (field 1 start page))) (sym (used_in start size (omega (arith, head_room)) inside used)) ∙ e in
      let two = then_ok (pointer_check counted w (start + pointer_at w) page) (version_check kinds (start + 9) page >>= λ _. previous_check kinds start page) checked in
      let last = then_ok (version_check kinds (start + 9) page) (previous_check kinds start page) two.1 in
      let fits = key_fits start size (omega (arith, head_room)) inside in (
        version_holds (slot_at w n page).key start size 9 fits (omega (arith, head_room)) inside last.0,
        previous_holds (slot_at w n page).key start fits inside last.1,
      )

  pub older_holds : (counted n : ℕ) → kept_start kinds n + kept_size w ≤ length page → kept_check kinds counted (kept_start kinds n) page ≡ Ok tt → HoldsOlder cs (older_at w n page)
  unfolding kept_check used_kept_check
  older_holds counted n inside e = λ used.
      let start = kept_start kinds n in
      let size = kept_size w in
      let checked : used_kept_check kinds counted start page ≡ Ok tt =
      ap (λ b. cond b (used_kept_check kinds counted start page) (at_most start 1 (field 1 start page))) (sym (used_in start size (omega arith) inside used)) ∙ e in
      let last = then_ok (pointer_check counted w (start + kept_pointer_at w) page) (version_check kinds (start + 9) page) checked in
      version_holds (older_at w n page).key start size 9 (key_fits start size (omega arith) inside) (omega arith) inside last.1

-- by the kinds of the columns
pub slot_rows : (page : List ℕ) → AreBytes page → (counted n : ℕ) (ks : List Kind) → slot_start ks n + slot_size (kinds_width ks) ≤ length page → (cs : List Column) → IsKeyed cs → kinds_of cs ≡ ks
    → slot_check ks counted (slot_start ks n) page ≡ Ok tt → HoldsRows cs (slot_at (kinds_width ks) n page)
slot_rows page below counted n ks inside cs keyed are e =
    subst (λ ks. slot_start ks n + slot_size (kinds_width ks) ≤ length page → slot_check ks counted (slot_start ks n) page ≡ Ok tt → HoldsRows cs (slot_at (kinds_width ks) n page)) are
    (slot_holds cs keyed page below counted n) inside e

pub older_row : (page : List ℕ) → AreBytes page → (counted n : ℕ) (ks : List Kind) → kept_start ks n + kept_size (kinds_width ks) ≤ length page → (cs : List Column) → IsKeyed cs → kinds_of cs ≡ ks
    → kept_check ks counted (kept_start ks n) page ≡ Ok tt → HoldsOlder cs (older_at (kinds_width ks) n page)
older_row page below counted n ks inside cs keyed are e =
    subst (λ ks. kept_start ks n + kept_size (kinds_width ks) ≤ length page → kept_check ks counted (kept_start ks n) page ≡ Ok tt → HoldsOlder cs (older_at (kinds_width ks) n page)) are
    (older_holds cs keyed page below counted n) inside e

-- ---- entries of the catalog

-- a column's name, by the entry's bytes
name_holds : (most start k : ℕ) (page : List ℕ) → start + 256 ≤ length page → k + 1 ≤ 256 → column_check most (start + k) page ≡ Ok tt → field 1 k (piece start 256 page) ≤ 16
unfolding column_check
name_holds most start k page inside within e =
    let first = then_ok (from_1_check 16 (start + k) page) (at_most (column_kind_at (start + k)) most (field 1 (column_kind_at (start + k)) page)) e in
    subst (λ x. x ≤ 16) (sym (piece_field 1 k start 256 page within inside)) ((from_1_holds 16 (start + k) page (sym first.0)).1)

names_hold : (n start k : ℕ) (page : List ℕ) → start + 256 ≤ length page → k + 18 * n ≤ 256 → columns_check n (start + k) page ≡ Ok tt → NamesFit n k (piece start 256 page)
names_hold zero start k page inside within e = tt
names_hold (suc n) start k page inside within e =
    let both = then_ok (column_check 64 (start + k) page) (columns_check n (start + k + 18) page) e in (
      name_holds 64 start k page inside (omega (arith, within)) both.0,
      names_hold n start (k + 18) page inside (omega (arith, within)) (ap (λ j. columns_check n j page) (let z : start + (k + 18) ≡ start + k + 18 = omega arith in z) ∙ both.1),
    )

pub entry_parts : (counted n : ℕ) (page : List ℕ) → 256 * n + 256 ≤ length page → entry_check counted (256 * n) page ≡ Ok tt → HasParts (entry_at n page)
unfolding entry_check used_entry_check
entry_parts counted n page inside e = λ used.
    let start = 256 * n in
    let state : field 1 start page ≡ (entry_at n page).state = ap (λ k. field 1 k page) (let z : start ≡ start + 0 = omega arith in z) ∙ sym (piece_field 1 0 start 256 page (omega arith) inside) in
    let checked : used_entry_check counted start page ≡ Ok tt =
    ap (λ b. cond b (Ok tt) (used_entry_check counted start page)) (sym (ne_eqb (field 1 start page) 0 (λ none. used (sym state ∙ none)))) ∙ e in
    let second = then_ok (firsts_check 9 counted (start + 179) page) _ checked in
    let third = then_ok (at_most start 2 (field 1 start page)) _ second.1 in
    let fourth = then_ok (from_1_check 16 (start + 17) page) _ third.1 in
    let fifth = then_ok (from_1_check 8 (start + 34) page) _ fourth.1 in
    let sixth = then_ok (column_check 0 (start + 34 + 1) page) (columns_check (field 1 (start + 34) page - 1) (start + 34 + 1 + 18) page) fifth.1 in
    let name = from_1_holds 16 (start + 17) page (sym fourth.0) in
    let number = from_1_holds 8 (start + 34) page (sym fifth.0) in
    let same : field 1 34 (piece start 256 page) ≡ field 1 (start + 34) page = piece_field 1 34 start 256 page (omega arith) inside in
    let one_more : suc (field 1 (start + 34) page - 1) ≡ field 1 34 (piece start 256 page) = omega (arith, number.0, same) in
    let key = name_holds 0 start 35 page inside (omega arith) (ap (λ k. column_check 0 k page) (let z : start + 35 ≡ start + 34 + 1 = omega arith in z) ∙ sixth.0) in
    let others = names_hold (field 1 (start + 34) page - 1) start 53 page inside (omega (arith, number.1)) (ap (λ k. columns_check (field 1 (start + 34) page - 1) k page) (let z : start + 53 ≡ start + 34 + 1 + 18 = omega arith in z) ∙ sixth.1) in
    record {
      name = subst (λ x. x ≤ 16) (sym (piece_field 1 17 start 256 page (omega arith) inside)) name.1;
      keyed = subst (λ x. 1 ≤ x) (sym same) number.0;
      few = subst (λ x. x ≤ 8) (sym same) number.1;
      columns = subst (λ n. NamesFit n 35 (piece start 256 page)) one_more (key, others);
    }

-- ---- the first pages of an entry

firsts_hold : (n counted at k : ℕ) (page : List ℕ) → k < n → firsts_check n counted at page ≡ Ok tt → field 4 (at + 4 * k) page ≤ counted - 1
unfolding counted_check
firsts_hold zero counted at k page lt e = absurd (omega (arith, lt))
firsts_hold (suc n) counted at zero page lt e =
    let both = then_ok (counted_check counted at page) (firsts_check n counted (at + 4) page) e in
    subst (λ j. field 4 j page ≤ counted - 1) (let z : at ≡ at + 4 * 0 = omega arith in z) (most_ok at (counted - 1) (field 4 at page) both.0)
firsts_hold (suc n) counted at (suc k) page lt e =
    let both = then_ok (counted_check counted at page) (firsts_check n counted (at + 4) page) e in
    subst (λ j. field 4 j page ≤ counted - 1) (let z : at + 4 + 4 * k ≡ at + 4 * suc k = omega arith in z) (firsts_hold n counted (at + 4) k page (omega (arith, lt)) both.1)

pub entry_firsts : (counted n : ℕ) (page : List ℕ) → 0 < counted → 256 * n + 256 ≤ length page → entry_check counted (256 * n) page ≡ Ok tt → FirstsAreCounted counted (entry_at n page)
unfolding entry_check used_entry_check
entry_firsts counted n page some inside e = λ used b few.
    let start = 256 * n in
    let state : field 1 start page ≡ (entry_at n page).state = ap (λ k. field 1 k page) (let z : start ≡ start + 0 = omega arith in z) ∙ sym (piece_field 1 0 start 256 page (omega arith) inside) in
    let checked : used_entry_check counted start page ≡ Ok tt =
    ap (λ b. cond b (Ok tt) (used_entry_check counted start page)) (sym (ne_eqb (field 1 start page) 0 (λ none. used (sym state ∙ none)))) ∙ e in
    let first = then_ok (firsts_check 9 counted (start + 179) page) _ checked in
    let small = firsts_hold 9 counted (start + 179) b page (omega (arith, few)) first.0 in
    let same : first_in b (piece start 256 page) ≡ field 4 (start + 179 + 4 * b) page =
    piece_field 4 (179 + 4 * b) start 256 page (omega (arith, few)) inside ∙ ap (λ k. field 4 k page) (let z : start + (179 + 4 * b) ≡ start + 179 + 4 * b = omega arith in z) in
    subst (λ x. x < counted) (sym same) (omega (arith, small, some))

-- ---- the columns behind the key

first_columns : (n k at : ℕ) (bytes : List ℕ) → n ≤ k → take n (map (λ (c : Column). c.kind) (columns_from k at bytes)) ≡ map (λ (c : Column). c.kind) (columns_from n at bytes)
first_columns zero k at bytes le = refl
first_columns (suc n) zero at bytes le = absurd (omega (arith, le))
first_columns (suc n) (suc k) at bytes le = ap (λ ks. kind_said (field 1 (column_kind_at at) bytes) ∷ ks) (first_columns n k (at + 18) bytes (omega (arith, le)))

pub kinds_behind : (n : ℕ) (bytes : List ℕ) → 1 ≤ n → n ≤ 8 → take (n - 1) (map (λ (c : Column). c.kind) (columns_from 7 53 bytes)) ≡ kinds_of (columns_from n 35 bytes)
kinds_behind zero bytes some few = absurd (omega (arith, some))
kinds_behind (suc n) bytes some few =
    let same : suc n - 1 ≡ n = omega arith in
    ap (λ k. take k (map (λ (c : Column). c.kind) (columns_from 7 53 bytes))) same ∙ first_columns n 7 53 bytes (omega (arith, few))
