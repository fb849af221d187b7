-- What passes its checks says rows whose values suit the columns, whatever the bytes are.
use Rattle.std.proofs.Common.{ltb, take-append-drop, ◌≡◌, ℕ, zero, suc, ◌+◌, ◌-◌, ◌≤◌, ℤ, true, cond, List, [], ◌∷◌, length, map, take, drop, None, Some, Result, Ok, Err, refl, sym, ◌∙◌, ap, subst, arith}
use Rattle.std.specs.Prelude.{◌==◌, IfSome, ⊤}
use Rattle.std.proofs.lemmas.Bool.{le-leb, eq-eqb, ltb-true, ltb-false}
use Rattle.std.proofs.lemmas.List.{drop-take, drop-drop, take-take, take_all, length-take-le}
use Rattle.ctr_types.specs.declared.value.Column.{Column}
use Rattle.ctr_types.specs.declared.value.Kind.{Kind}
use Rattle.ctr_types.specs.declared.value.Kind.TheVariants as kind
use Rattle.ctr_types.specs.declared.value.Value.TheVariants as value
use Rattle.ctr_model.specs.Refusals.{fits, bad_from}
use Rattle.ctr_bytes.specs.Fields.{field}
use Rattle.ctr_bytes.specs.Following.{◌>>=◌}
use Rattle.ctr_bytes.proofs.FieldLaws.{field-append, field-drop}
use Rattle.ctr_value.specs.Payload.{field_width, width, IsKeyed}
use Rattle.ctr_value.specs.Values.{value_said, values_in, row_values}
use Rattle.ctr_versions.proofs.Keys.{known}
use Rattle.ctr_rec.specs.declared.decoding.BadRecord.{BadRecord}
use Rattle.ctr_rec.specs.Damage.{at_most}
use Rattle.ctr_page.specs.declared.rows.Version.{Version}
use Rattle.ctr_page.specs.Places.{has_previous, previous_at, pointer_at, kept_pointer_at, slot_size, kept_size}
use Rattle.ctr_page.specs.Reading.{piece, version_in, if_there, previous_in, slot_at, older_at}
use Rattle.ctr_page.specs.Columns.{kinds_of, kinds_width, slot_start, kept_start}
use Rattle.ctr_page.specs.Damage.{text_check, texts_check, version_check, some_version_check, previous_check, pointer_check, used_slot_check, used_kept_check, slot_check, kept_check}
use Rattle.ctr_page.proofs.Holding.{most_ok, kinds_wide}

-- ---- a part of a page

-- what stands in a field is what stands in it, however long the page is
taken_field : (n k m : ℕ) (xs : List ℕ) → k + n ≤ m → field n k (take m xs) ≡ field n k xs
taken_field n k m xs fits = known (ltb (length xs) m)
    (λ short. ap (field n k) (take_all m xs (omega (arith, ltb-true (length xs) m short))))
    (λ long.
    let le : m ≤ length xs = ltb-false (length xs) m long in
    sym (field-append n k (take m xs) (drop m xs) (subst (λ l. k + n ≤ l) (sym (length-take-le m xs le)) fits))
    ∙ ap (field n k) (take-append-drop m xs))

field_in : (n k b m : ℕ) (page : List ℕ) → k + n ≤ m → field n k (piece b m page) ≡ field n (b + k) page
field_in n k b m page fits = taken_field n k m (drop b page) fits ∙ field-drop n k b page

piece_in : (a n b m : ℕ) (page : List ℕ) → a + n ≤ m → piece a n (piece b m page) ≡ piece (b + a) n page
piece_in a n b m page fits =
    ap (λ k. take n (drop a (take k (drop b page)))) (let e : m ≡ a + (m - a) = omega (arith, fits) in e)
    ∙ ap (take n) (drop-take a (m - a) (drop b page) ∙ ap (take (m - a)) (drop-drop a b page)) ∙ take-take n (m - a) (drop (b + a) page) (omega (arith, fits))

then_ok : (r s : Result ⊤ BadRecord) → (r >>= λ _. s) ≡ Ok tt → (r ≡ Ok tt) × (s ≡ Ok tt)
then_ok (Ok x) s e = (refl, e)
then_ok (Err d) s e = absurd cc

-- ---- a payload

no_longer : (n : ℕ) (l : List ℕ) → length (take n l) ≤ n
no_longer zero l = omega arith
no_longer (suc n) [] = omega arith
no_longer (suc n) (x ∷ l) = up (length (take n l)) (no_longer n l)
  where
    up : (m : ℕ) → m ≤ n → suc m ≤ suc n
    up m le = omega (arith, le)

text_suits : (k : Kind) (at more : ℕ) (page : List ℕ) → text_check k at page ≡ Ok tt → fits k (value_said k (piece at (field_width k + more) page)) ≡ true
text_suits kind.Int at more page e = refl
text_suits (kind.Chars most) at more page e =
    let bytes = piece at (most + 1 + more) page in
    let first : field 1 0 bytes ≡ field 1 at page = field_in 1 0 at (most + 1 + more) page (omega arith) ∙ ap (λ k. field 1 k page) (let z : at + 0 ≡ at = omega arith in z) in
    let short : field 1 at page ≤ most = most_ok at most (field 1 at page) e in
    le-leb (length (take (field 1 0 bytes) (drop 1 bytes))) most (below (length (take (field 1 0 bytes) (drop 1 bytes))) (field 1 0 bytes) (field 1 at page) (no_longer (field 1 0 bytes) (drop 1 bytes)) first short)
  where
    below : (a b d : ℕ) → a ≤ b → b ≡ d → d ≤ most → a ≤ most
    below a b d one is two = omega (arith, one, is, two)

texts_suit : (cs : List Column) (from at : ℕ) (page : List ℕ) → texts_check (map (λ (c : Column). c.kind) cs) at page ≡ Ok tt → bad_from from cs (values_in cs (piece at (width cs) page)) ≡ None
texts_suit [] from at page e = refl
texts_suit (c ∷ cs) from at page e =
    let w = field_width c.kind in
    let bytes = piece at (w + width cs) page in
    let both = then_ok (text_check c.kind at page) (texts_check (map (λ (c : Column). c.kind) cs) (at + w) page) e in
    let rest : drop w bytes ≡ piece (at + w) (width cs) page = drop-take w (width cs) (drop at page) ∙ ap (take (width cs)) (drop-drop w at page) in
    ap (λ b. cond b (bad_from (from + 1) cs (values_in cs (drop w bytes))) (Some from)) (text_suits c.kind at (width cs) page both.0)
    ∙ ap (λ l. bad_from (from + 1) cs (values_in cs l)) rest ∙ texts_suit cs (from + 1) (at + w) page both.1

-- ---- versions

-- the row of a payload suits the columns, of whatever key
abbrev pub RowSuits : List Column → Version → Type 0
RowSuits cs v = (key : ℤ) → bad_from 1 cs (row_values cs key v.payload) ≡ None

row_suits : (cs : List Column) (at : ℕ) (page : List ℕ) → IsKeyed cs → texts_check (kinds_of cs) at page ≡ Ok tt → (key : ℤ) → bad_from 1 cs (row_values cs key (piece at (width (drop 1 cs)) page)) ≡ None
row_suits [] at page keyed e key = absurd keyed
row_suits (c ∷ cs) at page keyed e key =
    ap (λ k. cond (fits k (value.Int key)) (bad_from 2 cs (values_in cs (piece at (width cs) page))) (Some 1)) keyed ∙ texts_suit cs 2 at page e

module _ (cs : List Column) (keyed : IsKeyed cs) (page : List ℕ) where
  abbrev kinds : List Kind
  kinds = kinds_of cs

  abbrev w : ℕ
  w = kinds_width kinds

  version_suits : (start size at : ℕ) → at + 9 + w ≤ size → version_check kinds (start + at) page ≡ Ok tt → RowSuits cs (version_in w at (piece start size page))
  unfolding version_check
  version_suits start size at room e key =
      let checked = (then_ok (at_most (start + at + 8) 1 (field 1 (start + at + 8) page)) (texts_check kinds (start + at + 9) page) e).1 in
      let wide : w ≡ width (drop 1 cs) = kinds_wide (drop 1 cs) in
      let there : piece (at + 9) w (piece start size page) ≡ piece (start + at + 9) (width (drop 1 cs)) page =
      piece_in (at + 9) w start size page room ∙ (λ i. piece ((let z : start + (at + 9) ≡ start + at + 9 = omega arith in z) i) (wide i) page) in
      ap (λ bytes. bad_from 1 cs (row_values cs key bytes)) there ∙ row_suits cs (start + at + 9) page keyed checked key

  used_in : (start size : ℕ) → 1 ≤ size → field 1 0 (piece start size page) ≡ 1 → (field 1 start page == 1) ≡ true
  used_in start size room used =
      eq-eqb (field 1 start page) 1 (ap (λ k. field 1 k page) (let z : start ≡ start + 0 = omega arith in z) ∙ sym (field_in 1 0 start size page room) ∙ used)

  some_suits : (start size at : ℕ) → at + 9 + w ≤ size → some_version_check kinds (start + at) page ≡ Ok tt → IfSome (if_there (version_in w at (piece start size page))) (λ v. RowSuits cs v)
  unfolding some_version_check
  some_suits start size at room e =
      let v = version_in w at (piece start size page) in
      let xid : field 8 (start + at) page ≡ v.xid = sym (field_in 8 at start size page (omega (arith, room))) in
      known (v.xid == 0)
      (λ none. subst (λ b. IfSome (cond b None (Some v)) (λ x. RowSuits cs x)) (sym none) tt)
      (λ some. subst (λ b. IfSome (cond b None (Some v)) (λ x. RowSuits cs x)) (sym some)
      (version_suits start size at room (ap (λ b. cond b (Ok tt) (version_check kinds (start + at) page)) (sym (ap (λ x. x == 0) xid ∙ some)) ∙ e)))

  previous_suits : (start : ℕ) → previous_check kinds start page ≡ Ok tt → IfSome (previous_in w (piece start (slot_size w) page)) (λ v. RowSuits cs v)
  unfolding previous_check
  previous_suits start e =
      let v = version_in w (previous_at w) (piece start (slot_size w) page) in
      known (has_previous w)
      (λ is. subst (λ b. IfSome (cond b (if_there v) None) (λ x. RowSuits cs x)) (sym is)
      (some_suits start (slot_size w) (previous_at w) (omega (arith, ap (λ b. cond b (previous_at w + 9 + w) (previous_at w) + 6) is))
      (ap (λ b. cond b (some_version_check kinds (start + previous_at w) page) (Ok tt)) (sym is) ∙ e)))
      (λ isnt. subst (λ b. IfSome (cond b (if_there v) None) (λ x. RowSuits cs x)) (sym isnt) tt)

  head_room : 18 + w ≤ slot_size w
  head_room = known (has_previous w)
      (λ is. omega (arith, ap (λ b. cond b (previous_at w + 9 + w) (previous_at w) + 6) is)) (λ isnt. omega (arith, ap (λ b. cond b (previous_at w + 9 + w) (previous_at w) + 6) isnt))

  pub slot_suits : (counted n : ℕ) → slot_check kinds counted (slot_start kinds n) page ≡ Ok tt → (slot_at w n page).used ≡ 1 → RowSuits cs (slot_at w n page).head × IfSome (slot_at w n page).previous (λ v. RowSuits cs v)
  unfolding slot_check used_slot_check
  slot_suits counted n e used =
      let start = slot_start kinds n in
      let size = slot_size w in
      let checked : used_slot_check kinds counted start page ≡ Ok tt =
      ap (λ b. cond b (used_slot_check kinds counted start page) (at_most start 1 (field 1 start page))) (sym (used_in start size (omega (arith, head_room)) used)) ∙ e in
      let two = then_ok (pointer_check counted w (start + pointer_at w) page) (version_check kinds (start + 9) page >>= λ _. previous_check kinds start page) checked in
      let last = then_ok (version_check kinds (start + 9) page) (previous_check kinds start page) two.1 in
      (version_suits start size 9 (omega (arith, head_room)) last.0, previous_suits start last.1)

  pub older_suits : (counted n : ℕ) → kept_check kinds counted (kept_start kinds n) page ≡ Ok tt → (older_at w n page).used ≡ 1 → RowSuits cs (older_at w n page).version
  unfolding kept_check used_kept_check
  older_suits counted n e used =
      let start = kept_start kinds n in
      let size = kept_size w in
      let checked : used_kept_check kinds counted start page ≡ Ok tt =
      ap (λ b. cond b (used_kept_check kinds counted start page) (at_most start 1 (field 1 start page))) (sym (used_in start size (omega arith) used)) ∙ e in
      let last = then_ok (pointer_check counted w (start + kept_pointer_at w) page) (version_check kinds (start + 9) page) checked in
      version_suits start size 9 (omega arith) last.1
