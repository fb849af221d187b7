-- A slot or a version entry that is well made passes its check where it stands.
use Rattle.std.proofs.Common.{◌≡◌, ⊎_elim, ℕ, ℤ, ◌+◌, ◌-◌, ◌≤◌, ◌<◌, cond, List, [], ◌∷◌, ◌++◌, map, length, take, drop, slice_index, Some, None, Ok, refl, sym, ◌∙◌, ap, subst, arith, length-append}
use Rattle.std.specs.Prelude.{IfSome}
use Rattle.std.specs.Int.{w64, cast_unsigned}
use Rattle.std.proofs.lemmas.Bool.{eq-eqb, ne_eqb, cases_eq}
use Rattle.std.proofs.lemmas.List.{drop-take, drop-drop, drop_at, length-take-le}
use Rattle.ctr_actions.proofs.versions_Keys.{known}
use Rattle.ctr_types.specs.declared.value.Column.{Column}
use Rattle.ctr_types.specs.declared.value.Kind.{Kind}
use Rattle.ctr_types.specs.declared.value.Kind.TheVariants as kind
use Rattle.ctr_types.specs.declared.value.Value.{Value}
use Rattle.ctr_types.specs.declared.value.Value.TheVariants as value
use Rattle.ctr_bytes.specs.Fields.{field}
use Rattle.ctr_bytes.proofs.FieldLaws.{length-spelled, field-drop, got_byte}
use Rattle.ctr_actions.specs.value_Values.{row_values}
use Rattle.ctr_actions.specs.value_Payload.{IsOf, AreOf, field_width, width, IsField, IsPayload, IsRowOf}
use Rattle.ctr_actions.specs.rec_Damage.{at_most}
use Rattle.ctr_actions.specs.page_RowSlot.{RowSlot}
use Rattle.ctr_actions.specs.page_VersionEntry.{VersionEntry}
use Rattle.ctr_actions.specs.page_Places.{has_previous, previous_at, pointer_at, kept_pointer_at, kept_size, room_for}
use Rattle.ctr_actions.specs.page_Reading.{piece, put_over, place_in, version_in, if_there, previous_in, slot_in, older_in}
use Rattle.ctr_actions.specs.page_Columns.{kinds_of, kinds_width}
use Rattle.ctr_actions.specs.page_Damage.{counted_check, place_check, pointer_check, text_check, texts_check, version_check, some_version_check, previous_check, used_slot_check, used_kept_check, slot_check, kept_check}
use Rattle.ctr_actions.specs.page_Making.{slot_bytes, kept_bytes}
use Rattle.ctr_actions.proofs.page_Back.{slot_back, kept_back}
use Rattle.ctr_actions.proofs.page_Holding.{kinds_wide}
use Rattle.ctr_actions.proofs.rec_Laws.{Begins}
use Rattle.ctr_actions.proofs.area_Bytes.{byte_in_piece}
use Rattle.ctr_passed.specs.Logged.{LeadsInside, IsVersionOf, IsSlotOf, IsOlderOf}
use Rattle.ctr_passed.proofs.Entries.{both_pass, most_passes}

-- ---- the texts of a payload

length-field : (k : Kind) (v : Value) (bytes : List ℕ) → IsOf k v → IsField k v bytes → length bytes ≡ field_width k
length-field kind.Int (value.Int n) bytes of is = ap length is ∙ length-spelled 8 (cast_unsigned w64 n)
length-field (kind.Chars most) (value.Chars text) bytes of is = omega (arith, ap length is.2, length-append text is.0, is.1, of)
length-field kind.Int (value.Chars text) bytes of is = absurd of
length-field (kind.Chars most) (value.Int n) bytes of is = absurd of

text_passes : (k : Kind) (v : Value) (at : ℕ) (front rest page : List ℕ) → IsOf k v → IsField k v front → slice_index (front ++ rest) 0 ≡ slice_index page at → text_check k at page ≡ Ok tt
text_passes kind.Int v at front rest page of is same = refl
text_passes (kind.Chars most) (value.Chars text) at front rest page of is same =
    most_passes at most (field 1 at page) (subst (λ n. n ≤ most) (ap (λ (l : List ℕ). slice_index (l ++ rest) 0) (sym is.2) ∙ same ∙ got_byte at page) of)
text_passes (kind.Chars most) (value.Int n) at front rest page of is same = absurd of

wide_field : (k : Kind) → 0 < field_width k
wide_field kind.Int = omega arith
wide_field (kind.Chars most) = omega arith

texts_pass : (cs : List Column) (vs : List Value) (at : ℕ) (page : List ℕ) → AreOf cs vs → IsPayload cs vs (piece at (width cs) page) → texts_check (map (λ (c : Column). c.kind) cs) at page ≡ Ok tt
texts_pass [] vs at page are is = refl
texts_pass (c ∷ cs) [] at page are is = absurd are
texts_pass (c ∷ cs) (v ∷ vs) at page are is =
    let w = field_width c.kind in
    let front = is.0 in
    let rest = is.1 in
    let long : length front ≡ w = length-field c.kind v front are.0 is.2 in
    let first : slice_index (front ++ rest) 0 ≡ slice_index page at =
    ap (λ (l : List ℕ). slice_index l 0) (sym is.4) ∙ byte_in_piece at (w + width cs) page (omega (arith, wide_field c.kind)) in
    let behind : rest ≡ piece (at + w) (width cs) page =
    sym (drop_at front rest w long) ∙ ap (drop w) (sym is.4) ∙ drop-take w (width cs) (drop at page) ∙ ap (take (width cs)) (drop-drop w at page) in
    both_pass (text_check c.kind at page) (texts_check (map (λ (c : Column). c.kind) cs) (at + w) page)
    (text_passes c.kind v at front rest page are.0 is.2 first)
    (texts_pass cs vs (at + w) page are.1 (subst (λ (l : List ℕ). IsPayload cs vs l) behind is.3))

row_passes : (cs : List Column) (vs : List Value) (key : ℤ) (at : ℕ) (page : List ℕ) → IsRowOf cs key (piece at (width (drop 1 cs)) page) vs → texts_check (kinds_of cs) at page ≡ Ok tt
row_passes [] vs key at page is = absurd is.0.0
row_passes (c ∷ cs) [] key at page is = absurd is.0.1
row_passes (c ∷ cs) (v ∷ vs) key at page is = texts_pass cs vs at page is.0.1.1 is.2

-- ---- what stands from a place of a page on

module _ (cs : List Column) (counted start : ℕ) (page : List ℕ) where
  abbrev tail : List ℕ
  tail = drop start page

  abbrev kinds : List Kind
  kinds = kinds_of cs

  abbrev w : ℕ
  w = kinds_width kinds

  here : (n k : ℕ) → field n (start + k) page ≡ field n k tail
  here n k = sym (field-drop n k start page)

  pointer_passes : (k : ℕ) → LeadsInside counted w (place_in k tail) → pointer_check counted w (start + k) page ≡ Ok tt
  unfolding pointer_check place_check counted_check
  pointer_passes k leads = ⊎_elim
      (λ none. ap (λ b. cond b (Ok tt) (place_check counted w (start + k) page)) (eq-eqb (field 4 (start + k) page) 0 none))
      (λ some. let inside = leads (λ none. some (here 4 k ∙ none)) in
      let slot : field 2 (start + k + 4) page ≡ field 2 (k + 4) tail = ap (λ j. field 2 j page) (let e : start + k + 4 ≡ start + (k + 4) = omega arith in e) ∙ here 2 (k + 4) in
      ap (λ b. cond b (Ok tt) (place_check counted w (start + k) page)) (ne_eqb (field 4 (start + k) page) 0 some)
      ∙ both_pass (at_most (start + k) (counted - 1) (field 4 (start + k) page)) (at_most (start + k + 4) (room_for (kept_size w) - 1) (field 2 (start + k + 4) page))
      (most_passes (start + k) (counted - 1) (field 4 (start + k) page) (below (field 4 (start + k) page) counted (subst (λ n. n < counted) (sym (here 4 k)) inside.0)))
      (most_passes (start + k + 4) (room_for (kept_size w) - 1) (field 2 (start + k + 4) page) (below (field 2 (start + k + 4) page) (room_for (kept_size w)) (subst (λ n. n < room_for (kept_size w)) (sym slot) inside.1))))
      (cases_eq (field 4 (start + k) page) 0)
    where
      below : (n m : ℕ) → n < m → n ≤ m - 1
      below n m lt = omega (arith, lt)

  version_passes : (k : ℕ) (key : ℤ) → IsVersionOf cs key (version_in w k tail) → version_check kinds (start + k) page ≡ Ok tt
  unfolding version_check
  version_passes k key is =
      let dead : field 1 (start + k + 8) page ≡ field 1 (k + 8) tail = ap (λ j. field 1 j page) (let e : start + k + 8 ≡ start + (k + 8) = omega arith in e) ∙ here 1 (k + 8) in
      let payload : piece (k + 9) w tail ≡ piece (start + k + 9) (width (drop 1 cs)) page =
      ap (take w) (drop-drop (k + 9) start page) ∙ (λ i. piece ((let e : start + (k + 9) ≡ start + k + 9 = omega arith in e) i) (kinds_wide (drop 1 cs) i) page) in
      both_pass (at_most (start + k + 8) 1 (field 1 (start + k + 8) page)) (texts_check kinds (start + k + 9) page)
      (most_passes (start + k + 8) 1 (field 1 (start + k + 8) page) (subst (λ n. n ≤ 1) (sym dead) is.0))
      (row_passes cs (row_values cs key (piece (start + k + 9) (width (drop 1 cs)) page)) key (start + k + 9) page (subst (λ (l : List ℕ). IsRowOf cs key l (row_values cs key l)) payload is.1))

  some_passes : (k : ℕ) (key : ℤ) → IfSome (if_there (version_in w k tail)) (λ v. IsVersionOf cs key v) → some_version_check kinds (start + k) page ≡ Ok tt
  unfolding some_version_check
  some_passes k key is = ⊎_elim
      (λ none. ap (λ b. cond b (Ok tt) (version_check kinds (start + k) page)) (eq-eqb (field 8 (start + k) page) 0 none))
      (λ some. ap (λ b. cond b (Ok tt) (version_check kinds (start + k) page)) (ne_eqb (field 8 (start + k) page) 0 some)
      ∙ version_passes k key (subst (λ b. IfSome (cond b None (Some (version_in w k tail))) (λ v. IsVersionOf cs key v)) (ne_eqb (field 8 k tail) 0 (λ none. some (here 8 k ∙ none))) is))
      (cases_eq (field 8 (start + k) page) 0)

  previous_passes : (key : ℤ) → IfSome (previous_in w tail) (λ v. IsVersionOf cs key v) → previous_check kinds start page ≡ Ok tt
  unfolding previous_check
  previous_passes key is = known (has_previous w)
      (λ yes. ap (λ b. cond b (some_version_check kinds (start + previous_at w) page) (Ok tt)) yes
      ∙ some_passes (previous_at w) key (subst (λ b. IfSome (cond b (if_there (version_in w (previous_at w) tail)) None) (λ v. IsVersionOf cs key v)) yes is))
      (λ no. ap (λ b. cond b (some_version_check kinds (start + previous_at w) page) (Ok tt)) no)

  first : field 1 start page ≡ field 1 0 tail
  first = ap (λ j. field 1 j page) (let e : start ≡ start + 0 = omega arith in e) ∙ here 1 0

  slot_there : IsSlotOf counted cs (slot_in w tail) → slot_check kinds counted start page ≡ Ok tt
  unfolding slot_check used_slot_check
  slot_there is = ⊎_elim
      (λ used. let rows = is.rows (sym first ∙ used) in
      ap (λ b. cond b (used_slot_check kinds counted start page) (at_most start 1 (field 1 start page))) (eq-eqb (field 1 start page) 1 used)
      ∙ both_pass (pointer_check counted w (start + pointer_at w) page) _ (pointer_passes (pointer_at w) (is.leads (sym first ∙ used)))
      (both_pass (version_check kinds (start + 9) page) (previous_check kinds start page) (version_passes 9 (slot_in w tail).key rows.0) (previous_passes (slot_in w tail).key rows.1)))
      (λ unused. ap (λ b. cond b (used_slot_check kinds counted start page) (at_most start 1 (field 1 start page))) (ne_eqb (field 1 start page) 1 unused)
      ∙ most_passes start 1 (field 1 start page) (subst (λ n. n ≤ 1) (sym first) is.state))
      (cases_eq (field 1 start page) 1)

  older_there : IsOlderOf counted cs (older_in w tail) → kept_check kinds counted start page ≡ Ok tt
  unfolding kept_check used_kept_check
  older_there is = ⊎_elim
      (λ used. ap (λ b. cond b (used_kept_check kinds counted start page) (at_most start 1 (field 1 start page))) (eq-eqb (field 1 start page) 1 used)
      ∙ both_pass (pointer_check counted w (start + kept_pointer_at w) page) (version_check kinds (start + 9) page) (pointer_passes (kept_pointer_at w) (is.leads (sym first ∙ used)))
      (version_passes 9 (older_in w tail).key (is.row (sym first ∙ used))))
      (λ unused. ap (λ b. cond b (used_kept_check kinds counted start page) (at_most start 1 (field 1 start page))) (ne_eqb (field 1 start page) 1 unused)
      ∙ most_passes start 1 (field 1 start page) (subst (λ n. n ≤ 1) (sym first) is.state))
      (cases_eq (field 1 start page) 1)

-- ---- as they are made

module _ (cs : List Column) (counted start : ℕ) (old : List ℕ) (fits : start ≤ length old) where
  begins : (new : List ℕ) → Begins new (drop start (put_over start new old))
  begins new = (drop (start + length new) old, drop_at (take start old) (new ++ drop (start + length new) old) start (length-take-le start old fits))

  pub slot_passes : (slot : RowSlot) → IsSlotOf counted cs slot → slot_check (kinds_of cs) counted start (put_over start (slot_bytes (kinds_width (kinds_of cs)) slot) old) ≡ Ok tt
  slot_passes slot is =
      let new = slot_bytes (kinds_width (kinds_of cs)) slot in
      slot_there cs counted start (put_over start new old)
      (subst (λ (x : RowSlot). IsSlotOf counted cs x) (sym (slot_back (kinds_width (kinds_of cs)) slot (drop start (put_over start new old)) is.is (begins new))) is)

  pub older_passes : (older : VersionEntry) → IsOlderOf counted cs older → kept_check (kinds_of cs) counted start (put_over start (kept_bytes older) old) ≡ Ok tt
  older_passes older is =
      let new = kept_bytes older in
      older_there cs counted start (put_over start new old)
      (subst (λ (x : VersionEntry). IsOlderOf counted cs x) (sym (kept_back (kinds_width (kinds_of cs)) older (drop start (put_over start new old)) is.is (begins new))) is)
