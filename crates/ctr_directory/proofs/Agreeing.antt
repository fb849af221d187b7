-- Bytes of a page that say the same numbers are checked alike, and a slot of them has the same key.
use Rattle.std.proofs.Common.{◌≡◌, inl, inr, ⊎_elim, ℕ, ◌+◌, ◌-◌, ◌<◌, ◌≤◌, eqb, Bool, true, false, cond, List, [], ◌∷◌, length, drop, None, Some, is_some, Result, Ok, refl, sym, ◌∙◌, ap, subst, arith, length-drop}
use Rattle.std.specs.Prelude.{⊤, ◌==◌, ℤ}
use Rattle.std.specs.Int.{w64, cast_signed}
use Rattle.std.proofs.lemmas.List.{take-append-drop, length-take-le}
use Rattle.ctr_rec.specs.bytes_Fields.{field}
use Rattle.ctr_rec.specs.bytes_Following.{◌>>=◌}
use Rattle.ctr_rec.specs.types_Kind.{Kind}
use Rattle.ctr_rec.specs.types_Kind.TheVariants.{Int, Chars}
use Rattle.ctr_rec.specs.declared.decoding.BadRecord.{BadRecord}
use Rattle.ctr_rec.specs.Damage.{at_most}
use Rattle.ctr_page.specs.ctr_value.Payload.{field_width}
use Rattle.ctr_page.specs.Places.{has_previous, previous_at, pointer_at, slot_size, kept_size, room_for}
use Rattle.ctr_page.specs.Reading.{piece, slot_at}
use Rattle.ctr_page.specs.Columns.{kinds_width, slot_start}
use Rattle.ctr_page.specs.Damage.{counted_check, place_check, pointer_check, text_check, texts_check, version_check, some_version_check, previous_check, used_slot_check, slot_check}
use Rattle.ctr_page.proofs.bytes_FieldLaws.{field-append, field-drop}
use Rattle.ctr_page.proofs.Searches.{lies_on_page}
use Rattle.ctr_directory.specs.declared.slots.Span.{Span}
use Rattle.ctr_directory.specs.Keys.{key_on, slots_of_kinds, SlotsPass, SaysSameOutside, LiesOutside, SlotsStay}

-- from a byte on, so many bytes say the same numbers
abbrev Agree : ℕ → ℕ → List ℕ → List ℕ → Type 0
Agree from size old new = (n k : ℕ) → from ≤ k → k + n ≤ from + size → field n k new ≡ field n k old

-- two checks, one after the other
both : (r s u v : Result ⊤ BadRecord) → r ≡ u → s ≡ v → (r >>= λ _. s) ≡ (u >>= λ _. v)
both r s u v first second = λ i. first i >>= λ _. second i

module _ (from size : ℕ) (old new : List ℕ) (same : Agree from size old new) where
  counted_same : (counted at : ℕ) → from ≤ at → at + 4 ≤ from + size → counted_check counted at new ≡ counted_check counted at old
  unfolding counted_check
  counted_same counted at le fits = ap (at_most at (counted - 1)) (same 4 at le fits)

  place_same : (counted w at : ℕ) → from ≤ at → at + 6 ≤ from + size → place_check counted w at new ≡ place_check counted w at old
  unfolding place_check
  place_same counted w at le fits = both (counted_check counted at new) (at_most (at + 4) (room_for (kept_size w) - 1) (field 2 (at + 4) new)) (counted_check counted at old) (at_most (at + 4) (room_for (kept_size w) - 1) (field 2 (at + 4) old))
      (counted_same counted at le (omega (arith, fits))) (ap (at_most (at + 4) (room_for (kept_size w) - 1)) (same 2 (at + 4) (omega (arith, le)) (omega (arith, fits))))

  pointer_same : (counted w at : ℕ) → from ≤ at → at + 6 ≤ from + size → pointer_check counted w at new ≡ pointer_check counted w at old
  unfolding pointer_check
  pointer_same counted w at le fits = λ i. cond (eqb (same 4 at le (omega (arith, fits)) i) 0) (Ok tt) (place_same counted w at le fits i)

  text_same : (k : Kind) (at : ℕ) → from ≤ at → at + field_width k ≤ from + size → text_check k at new ≡ text_check k at old
  text_same Int at le fits = refl
  text_same (Chars most) at le fits = ap (at_most at most) (same 1 at le (omega (arith, fits)))

  texts_same : (kinds : List Kind) (at : ℕ) → from ≤ at → at + kinds_width kinds ≤ from + size → texts_check kinds at new ≡ texts_check kinds at old
  texts_same [] at le fits = refl
  texts_same (k ∷ ks) at le fits = both (text_check k at new) (texts_check ks (at + field_width k) new) (text_check k at old) (texts_check ks (at + field_width k) old)
      (text_same k at le (omega (arith, fits))) (texts_same ks (at + field_width k) (omega (arith, le)) (omega (arith, fits)))

  version_same : (kinds : List Kind) (at : ℕ) → from ≤ at → at + 9 + kinds_width kinds ≤ from + size → version_check kinds at new ≡ version_check kinds at old
  unfolding version_check
  version_same kinds at le fits = both (at_most (at + 8) 1 (field 1 (at + 8) new)) (texts_check kinds (at + 9) new) (at_most (at + 8) 1 (field 1 (at + 8) old)) (texts_check kinds (at + 9) old)
      (ap (at_most (at + 8) 1) (same 1 (at + 8) (omega (arith, le)) (omega (arith, fits)))) (texts_same kinds (at + 9) (omega (arith, le)) fits)

  some_same : (kinds : List Kind) (at : ℕ) → from ≤ at → at + 9 + kinds_width kinds ≤ from + size → some_version_check kinds at new ≡ some_version_check kinds at old
  unfolding some_version_check
  some_same kinds at le fits = λ i. cond (eqb (same 8 at le (omega (arith, fits)) i) 0) (Ok tt) (version_same kinds at le fits i)

-- ---- slots and version entries

module _ (kinds : List Kind) (start : ℕ) (old new : List ℕ) where
  abbrev w : ℕ
  w = kinds_width kinds

  module _ (same : Agree start (slot_size w) old new) where
    head_fits : (b : Bool) → start + 9 + 9 + w ≤ start + (cond b (9 + 9 + w + 9 + w) (9 + 9 + w) + 6)
    head_fits true = omega arith
    head_fits false = omega arith

    previous_same : previous_check kinds start new ≡ previous_check kinds start old
    unfolding previous_check
    previous_same = by (has_previous w) refl
      where
        by : (b : Bool) → has_previous w ≡ b → cond b (some_version_check kinds (start + previous_at w) new) (Ok tt) ≡ cond b (some_version_check kinds (start + previous_at w) old) (Ok tt)
        by true is = some_same start (slot_size w) old new same kinds (start + previous_at w) (omega arith)
            (subst (λ b. start + (9 + 9 + w) + 9 + w ≤ start + (cond b (9 + 9 + w + 9 + w) (9 + 9 + w) + 6)) (sym is) (omega arith))
        by false is = refl

    used_slot_same : (counted : ℕ) → used_slot_check kinds counted start new ≡ used_slot_check kinds counted start old
    unfolding used_slot_check
    used_slot_same counted = both (pointer_check counted w (start + pointer_at w) new) _ (pointer_check counted w (start + pointer_at w) old) _
        (pointer_same start (slot_size w) old new same counted w (start + pointer_at w) (omega arith) (omega arith))
        (both (version_check kinds (start + 9) new) (previous_check kinds start new) (version_check kinds (start + 9) old) (previous_check kinds start old)
        (version_same start (slot_size w) old new same kinds (start + 9) (omega arith) (head_fits (has_previous w))) previous_same)

    pub slot_same : (counted : ℕ) → slot_check kinds counted start new ≡ slot_check kinds counted start old
    unfolding slot_check
    slot_same counted =
        let first = same 1 start (omega arith) (omega arith) in
        λ i. cond (eqb (first i) 1) (used_slot_same counted i) (at_most start 1 (first i))

-- ---- keys

-- a number in a piece of a page stands on the page
field_in_piece : (n k start size : ℕ) (page : List ℕ) → k + n ≤ size → start + size ≤ length page → field n k (piece start size page) ≡ field n (start + k) page
field_in_piece n k start size page fits there =
    let rest = length-drop start page in
    let long : length (piece start size page) ≡ size = length-take-le size (drop start page) (omega (arith, rest, there)) in
    sym (field-append n k (piece start size page) (drop size (drop start page)) (omega (arith, fits, long)))
    ∙ ap (field n k) (take-append-drop size (drop start page))
    ∙ field-drop n k start page

wide : (b : Bool) (w : ℕ) → 9 ≤ cond b (9 + 9 + w + 9 + w) (9 + 9 + w) + 6
wide true w = omega arith
wide false w = omega arith

some_by : (b : Bool) (key : ℤ) → is_some (cond b (Some key) None) ≡ b
some_by true key = refl
some_by false key = refl

-- the first byte of a slot says whether it is used
pub used_byte : (kinds : List Kind) (n : ℕ) (page : List ℕ) → length page ≡ 4096 → n < slots_of_kinds kinds → is_some (key_on kinds n page) ≡ (field 1 (slot_start kinds n) page == 1)
used_byte kinds n page whole lt =
    let size = slot_size (kinds_width kinds) in
    let start = slot_start kinds n in
    let w = kinds_width kinds in
    let large = wide (has_previous w) w in
    let lies = lies_on_page size n lt in
    let here : start + 0 ≡ start = omega arith in
    let used : (slot_at w n page).used ≡ field 1 start page =
    field_in_piece 1 0 start size page (omega (arith, large)) (omega (arith, lies, whole)) ∙ ap (λ k. field 1 k page) here in
    some_by ((slot_at w n page).used == 1) (slot_at w n page).key ∙ ap (λ u. u == 1) used

module _ (kinds : List Kind) (counted : ℕ) (span : Span) (before after : List ℕ) (was : length before ≡ 4096) (is : length after ≡ 4096) (same : SaysSameOutside span before after) where
  agree_outside : (n : ℕ) → n < slots_of_kinds kinds → LiesOutside kinds span n → Agree (slot_start kinds n) (slot_size (kinds_width kinds)) before after
  agree_outside n lt outside m k le fits =
      let lies = lies_on_page (slot_size (kinds_width kinds)) n lt in
      let on_page : k + m ≤ 4096 = omega (arith, fits, lies) in
      ⊎_elim (λ front. same m k on_page (inl (omega (arith, front, fits)))) (λ behind. same m k on_page (inr (omega (arith, behind, le)))) outside

  key_agrees : (n : ℕ) → n < slots_of_kinds kinds → Agree (slot_start kinds n) (slot_size (kinds_width kinds)) before after → key_on kinds n after ≡ key_on kinds n before
  key_agrees n lt agree =
      let size = slot_size (kinds_width kinds) in
      let start = slot_start kinds n in
      let w = kinds_width kinds in
      let large = wide (has_previous w) w in
      let lies = lies_on_page size n lt in
      let used : (slot_at w n after).used ≡ (slot_at w n before).used =
      field_in_piece 1 0 start size after (omega (arith, large)) (omega (arith, lies, is)) ∙ agree 1 (start + 0) (omega arith) (omega (arith, large)) ∙ sym (field_in_piece 1 0 start size before (omega (arith, large)) (omega (arith, lies, was))) in
      let number : field 8 1 (piece start size after) ≡ field 8 1 (piece start size before) =
      field_in_piece 8 1 start size after (omega (arith, large)) (omega (arith, lies, is)) ∙ agree 8 (start + 1) (omega arith) (omega (arith, large)) ∙ sym (field_in_piece 8 1 start size before (omega (arith, large)) (omega (arith, lies, was))) in
      λ i. cond (used i == 1) (Some (cast_signed w64 (number i))) None

  -- slots that lie outside of the changed bytes stay
  pub all_stay : SlotsPass kinds counted (slots_of_kinds kinds) before → SlotsStay kinds counted span before after
  all_stay pass n lt outside =
      let agree = agree_outside n lt outside in (
        slot_same kinds (slot_start kinds n) before after agree counted ∙ pass n lt,
        key_agrees n lt agree ∙ sym (ap (λ k. cond (k == 0) None (key_on kinds n before)) was),
      )

-- no slot of a page lies outside of its bytes
pub none_outside : (kinds : List Kind) (counted : ℕ) (span : Span) (before after : List ℕ) → span.from ≡ 0 → span.to ≡ 4096 → SlotsStay kinds counted span before after
none_outside kinds counted span before after from to n lt outside =
    let w = kinds_width kinds in
    let large = wide (has_previous w) w in
    let lies = lies_on_page (slot_size w) n lt in
    ⊎_elim (λ front. absurd (omega (arith, front, from, large))) (λ behind. absurd (omega (arith, behind, to, lies, large))) outside
