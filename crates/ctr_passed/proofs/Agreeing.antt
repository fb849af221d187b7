-- A check of bytes that say the same numbers has the same outcome.
use Rattle.std.proofs.Common.{◌≡◌, ℕ, zero, suc, ◌+◌, ◌-◌, ◌*◌, ◌≤◌, eqb, Bool, true, false, cond, List, [], ◌∷◌, Result, Ok, Err, refl, sym, ◌∙◌, ap, subst, arith}
use Rattle.std.specs.Prelude.{⊤}
use Rattle.std.proofs.lemmas.Bool.{eqb-true}
use Rattle.ctr_bytes.specs.Fields.{field}
use Rattle.ctr_bytes.specs.Following.{◌>>=◌}
use Rattle.ctr_types.specs.declared.value.Kind.{Kind}
use Rattle.ctr_types.specs.declared.value.Kind.TheVariants.{Int, Chars}
use Rattle.ctr_actions.specs.value_Payload.{field_width}
use Rattle.ctr_actions.specs.rec_BadRecord.{BadRecord}
use Rattle.ctr_actions.specs.rec_Damage.{expect, at_most}
use Rattle.ctr_actions.specs.page_Chain.{Chain}
use Rattle.ctr_actions.specs.page_Places.{has_previous, previous_at, pointer_at, slot_size, kept_pointer_at, kept_size, room_for}
use Rattle.ctr_actions.specs.page_Columns.{column_kind_at, kinds_width}
use Rattle.ctr_actions.specs.page_Damage.{chain_kind, chain_entry, chain_bucket, counted_check, header_check, place_check, pointer_check, text_check, texts_check, version_check, some_version_check, previous_check, used_slot_check, used_kept_check, slot_check, kept_check, from_1_check, firsts_check, column_check, columns_check, used_entry_check, entry_check}
use Rattle.ctr_actions.proofs.page_Holding.{most_ok}
use Rattle.ctr_passed.specs.Laid.{SayTheSame}

-- two checks, one after the other
both : (r s u v : Result ⊤ BadRecord) → r ≡ u → s ≡ v → (r >>= λ _. s) ≡ (u >>= λ _. v)
both r s u v first second = λ i. first i >>= λ _. second i

module _ (from size : ℕ) (old new : List ℕ) (same : SayTheSame from size old new) where
  counted_same : (counted at : ℕ) → from ≤ at → at + 4 ≤ from + size → counted_check counted at new ≡ counted_check counted at old
  unfolding counted_check
  counted_same counted at le fits = ap (at_most at (counted - 1)) (same 4 at le fits)

  place_same : (counted w at : ℕ) → from ≤ at → at + 6 ≤ from + size → place_check counted w at new ≡ place_check counted w at old
  unfolding place_check
  place_same counted w at le fits = both (counted_check counted at new) (at_most (at + 4) (room_for (kept_size w) - 1) (field 2 (at + 4) new)) (counted_check counted at old) (at_most (at + 4) (room_for (kept_size w) - 1) (field 2 (at + 4) old))
      (counted_same counted at le (omega (arith, fits))) (ap (at_most (at + 4) (room_for (kept_size w) - 1)) (same 2 (at + 4) (omega (arith, le)) (omega (arith, fits))))

  pointer_same : (counted w at : ℕ) → from ≤ at → at + 6 ≤ from + size → pointer_check counted w at new ≡ pointer_check counted w at old
  unfolding pointer_check
  pointer_same counted w at le fits = λ i. cond (eqb (same 4 at le (omega (arith, fits)) i) 0) (Ok tt) (place_same counted w at le fits i)

  text_same : (k : Kind) (at : ℕ) → from ≤ at → at + field_width k ≤ from + size → text_check k at new ≡ text_check k at old
  text_same Int at le fits = refl
  text_same (Chars most) at le fits = ap (at_most at most) (same 1 at le (omega (arith, fits)))

  texts_same : (kinds : List Kind) (at : ℕ) → from ≤ at → at + kinds_width kinds ≤ from + size → texts_check kinds at new ≡ texts_check kinds at old
  texts_same [] at le fits = refl
  texts_same (k ∷ ks) at le fits = both (text_check k at new) (texts_check ks (at + field_width k) new) (text_check k at old) (texts_check ks (at + field_width k) old)
      (text_same k at le (omega (arith, fits))) (texts_same ks (at + field_width k) (omega (arith, le)) (omega (arith, fits)))

  version_same : (kinds : List Kind) (at : ℕ) → from ≤ at → at + 9 + kinds_width kinds ≤ from + size → version_check kinds at new ≡ version_check kinds at old
  unfolding version_check
  version_same kinds at le fits = both (at_most (at + 8) 1 (field 1 (at + 8) new)) (texts_check kinds (at + 9) new) (at_most (at + 8) 1 (field 1 (at + 8) old)) (texts_check kinds (at + 9) old)
      (ap (at_most (at + 8) 1) (same 1 (at + 8) (omega (arith, le)) (omega (arith, fits)))) (texts_same kinds (at + 9) (omega (arith, le)) fits)

  some_same : (kinds : List Kind) (at : ℕ) → from ≤ at → at + 9 + kinds_width kinds ≤ from + size → some_version_check kinds at new ≡ some_version_check kinds at old
  unfolding some_version_check
  some_same kinds at le fits = λ i. cond (eqb (same 8 at le (omega (arith, fits)) i) 0) (Ok tt) (version_same kinds at le fits i)

-- ---- slots and version entries

module _ (kinds : List Kind) (start : ℕ) (old new : List ℕ) where
  abbrev w : ℕ
  w = kinds_width kinds

  module _ (same : SayTheSame start (slot_size w) old new) where
    head_fits : (b : Bool) → start + 9 + 9 + w ≤ start + (cond b (9 + 9 + w + 9 + w) (9 + 9 + w) + 6)
    head_fits true = omega arith
    head_fits false = omega arith

    previous_same : previous_check kinds start new ≡ previous_check kinds start old
    unfolding previous_check
    previous_same = by (has_previous w) refl
      where
        by : (b : Bool) → has_previous w ≡ b → cond b (some_version_check kinds (start + previous_at w) new) (Ok tt) ≡ cond b (some_version_check kinds (start + previous_at w) old) (Ok tt)
        by true is = some_same start (slot_size w) old new same kinds (start + previous_at w) (omega arith)
            (subst (λ b. start + (9 + 9 + w) + 9 + w ≤ start + (cond b (9 + 9 + w + 9 + w) (9 + 9 + w) + 6)) (sym is) (omega arith))
        by false is = refl

    used_slot_same : (counted : ℕ) → used_slot_check kinds counted start new ≡ used_slot_check kinds counted start old
    unfolding used_slot_check
    used_slot_same counted = both (pointer_check counted w (start + pointer_at w) new) _ (pointer_check counted w (start + pointer_at w) old) _
        (pointer_same start (slot_size w) old new same counted w (start + pointer_at w) (omega arith) (omega arith))
        (both (version_check kinds (start + 9) new) (previous_check kinds start new) (version_check kinds (start + 9) old) (previous_check kinds start old)
        (version_same start (slot_size w) old new same kinds (start + 9) (omega arith) (head_fits (has_previous w))) previous_same)

    pub slot_same : (counted : ℕ) → slot_check kinds counted start new ≡ slot_check kinds counted start old
    unfolding slot_check
    slot_same counted =
        let first = same 1 start (omega arith) (omega arith) in
        λ i. cond (eqb (first i) 1) (used_slot_same counted i) (at_most start 1 (first i))

  module _ (same : SayTheSame start (kept_size w) old new) where
    used_kept_same : (counted : ℕ) → used_kept_check kinds counted start new ≡ used_kept_check kinds counted start old
    unfolding used_kept_check
    used_kept_same counted = both (pointer_check counted w (start + kept_pointer_at w) new) (version_check kinds (start + 9) new) (pointer_check counted w (start + kept_pointer_at w) old) (version_check kinds (start + 9) old)
        (pointer_same start (kept_size w) old new same counted w (start + kept_pointer_at w) (omega arith) (omega arith))
        (version_same start (kept_size w) old new same kinds (start + 9) (omega arith) (omega arith))

    pub kept_same : (counted : ℕ) → kept_check kinds counted start new ≡ kept_check kinds counted start old
    unfolding kept_check
    kept_same counted =
        let first = same 1 start (omega arith) (omega arith) in
        λ i. cond (eqb (first i) 1) (used_kept_same counted i) (at_most start 1 (first i))

-- ---- the header

pub header_same : (chain : Chain) (counted : ℕ) (old new : List ℕ) → SayTheSame 0 16 old new → header_check chain counted new ≡ header_check chain counted old
unfolding header_check
header_same chain counted old new same =
    both (expect 0 (chain_kind chain) (field 1 0 new)) _ (expect 0 (chain_kind chain) (field 1 0 old)) _ (ap (expect 0 (chain_kind chain)) (same 1 0 (omega arith) (omega arith)))
    (both (expect 1 (chain_entry chain) (field 1 1 new)) _ (expect 1 (chain_entry chain) (field 1 1 old)) _ (ap (expect 1 (chain_entry chain)) (same 1 1 (omega arith) (omega arith)))
    (both (expect 2 (chain_bucket chain) (field 1 2 new)) (counted_check counted 4 new) (expect 2 (chain_bucket chain) (field 1 2 old)) (counted_check counted 4 old) (ap (expect 2 (chain_bucket chain)) (same 1 2 (omega arith) (omega arith)))
    (counted_same 0 16 old new same counted 4 (omega arith) (omega arith))))

-- ---- entries of the catalog: one that passes has eight columns at most

module _ (from size : ℕ) (old new : List ℕ) (same : SayTheSame from size old new) where
  pub firsts_same : (n counted at : ℕ) → from ≤ at → at + 4 * n ≤ from + size → firsts_check n counted at new ≡ firsts_check n counted at old
  firsts_same zero counted at le fits = refl
  firsts_same (suc n) counted at le fits = both (counted_check counted at new) (firsts_check n counted (at + 4) new) (counted_check counted at old) (firsts_check n counted (at + 4) old)
      (counted_same from size old new same counted at le (omega (arith, fits))) (firsts_same n counted (at + 4) (omega (arith, le)) (omega (arith, fits)))

  from_1_same : (most at : ℕ) → from ≤ at → at + 1 ≤ from + size → from_1_check most at new ≡ from_1_check most at old
  unfolding from_1_check
  from_1_same most at le fits = let one = same 1 at le fits in λ i. cond (eqb (one i) 0) (Err (record { at = at; want = 1; got = 0 })) (at_most at most (one i))

  column_same : (most at : ℕ) → from ≤ at → at + 18 ≤ from + size → column_check most at new ≡ column_check most at old
  unfolding column_check
  column_same most at le fits = both (from_1_check 16 at new) (at_most (column_kind_at at) most (field 1 (column_kind_at at) new)) (from_1_check 16 at old) (at_most (column_kind_at at) most (field 1 (column_kind_at at) old))
      (from_1_same 16 at le (omega (arith, fits))) (ap (at_most (column_kind_at at) most) (same 1 (column_kind_at at) (omega (arith, le)) (omega (arith, fits))))

  columns_same : (n at : ℕ) → from ≤ at → at + 18 * n ≤ from + size → columns_check n at new ≡ columns_check n at old
  columns_same zero at le fits = refl
  columns_same (suc n) at le fits = both (column_check 64 at new) (columns_check n (at + 18) new) (column_check 64 at old) (columns_check n (at + 18) old)
      (column_same 64 at le (omega (arith, fits))) (columns_same n (at + 18) (omega (arith, le)) (omega (arith, fits)))

-- the checks of an entry from its name on, but for its first pages
abbrev pub name_on_check : ℕ → List ℕ → Result ⊤ BadRecord
name_on_check start page =
    from_1_check 16 (start + 17) page >>= λ _.
    from_1_check 8 (start + 34) page >>= λ _.
    column_check 0 (start + 34 + 1) page >>= λ _.
    columns_check (field 1 (start + 34) page - 1) (start + 34 + 1 + 18) page

module _ (start : ℕ) (old new : List ℕ) (same : SayTheSame (start + 17) 162 old new) where
  -- the second check has the same outcome where the first one passes
  both_if : (r s u v : Result ⊤ BadRecord) → r ≡ u → (u ≡ Ok tt → s ≡ v) → (r >>= λ _. s) ≡ (u >>= λ _. v)
  both_if r s u v first second = (λ i. first i >>= λ _. s) ∙ by u second
    where
      by : (u : Result ⊤ BadRecord) → (u ≡ Ok tt → s ≡ v) → (u >>= λ _. s) ≡ (u >>= λ _. v)
      by (Ok x) second = second refl
      by (Err e) second = refl

  few : (n at : ℕ) → (cond (eqb n 0) (Err (record { at = at; want = 1; got = 0 })) (at_most at 8 n)) ≡ Ok tt → n ≤ 8
  few n at = by (eqb n 0) refl
    where
      by : (b : Bool) → eqb n 0 ≡ b → (cond b (Err (record { at = at; want = 1; got = 0 })) (at_most at 8 n)) ≡ Ok tt → n ≤ 8
      by true is e = let z = eqb-true n 0 is in omega (arith, z)
      by false is e = most_ok at 8 n e

  number_few : from_1_check 8 (start + 34) old ≡ Ok tt → field 1 (start + 34) old ≤ 8
  unfolding from_1_check
  number_few e = few (field 1 (start + 34) old) (start + 34) e

  columns_here : field 1 (start + 34) old ≤ 8 → columns_check (field 1 (start + 34) new - 1) (start + 34 + 1 + 18) new ≡ columns_check (field 1 (start + 34) old - 1) (start + 34 + 1 + 18) old
  columns_here le = ap (λ n. columns_check (n - 1) (start + 34 + 1 + 18) new) (same 1 (start + 34) (omega arith) (omega arith))
      ∙ columns_same (start + 17) 162 old new same (field 1 (start + 34) old - 1) (start + 34 + 1 + 18) (omega arith) (within (field 1 (start + 34) old) le)
    where
      within : (n : ℕ) → n ≤ 8 → start + 34 + 1 + 18 + 18 * (n - 1) ≤ start + 17 + 162
      within n le = omega (arith, le)

  pub name_on_same : name_on_check start new ≡ name_on_check start old
  name_on_same =
      both (from_1_check 16 (start + 17) new) _ (from_1_check 16 (start + 17) old) _ (from_1_same (start + 17) 162 old new same 16 (start + 17) (omega arith) (omega arith))
      (both_if (from_1_check 8 (start + 34) new) _ (from_1_check 8 (start + 34) old) _ (from_1_same (start + 17) 162 old new same 8 (start + 34) (omega arith) (omega arith))
      (λ passes. both (column_check 0 (start + 34 + 1) new) _ (column_check 0 (start + 34 + 1) old) _ (column_same (start + 17) 162 old new same 0 (start + 34 + 1) (omega arith) (omega arith)) (columns_here (number_few passes))))

module _ (start : ℕ) (old new : List ℕ) (same : SayTheSame start 256 old new) where
  used_entry_same : (counted : ℕ) → used_entry_check counted start new ≡ used_entry_check counted start old
  unfolding used_entry_check
  used_entry_same counted =
      both (firsts_check 9 counted (start + 179) new) _ (firsts_check 9 counted (start + 179) old) _ (firsts_same start 256 old new same 9 counted (start + 179) (omega arith) (omega arith))
      (both (at_most start 2 (field 1 start new)) _ (at_most start 2 (field 1 start old)) _ (ap (at_most start 2) (same 1 start (omega arith) (omega arith)))
      (name_on_same start old new (λ n k ge le. same n k (omega (arith, ge)) (omega (arith, le)))))

  pub entry_same : (counted : ℕ) → entry_check counted start new ≡ entry_check counted start old
  unfolding entry_check
  entry_same counted = let first = same 1 start (omega arith) (omega arith) in λ i. cond (eqb (first i) 0) (Ok tt) (used_entry_same counted i)
