-- An entry of the catalog that passes its check passes it with what a record lays in it.
use Rattle.std.proofs.Common.{◌≡◌, ◌≢◌, ◌⊎◌, ⊎_elim, inl, inr, ℕ, zero, suc, ◌+◌, ◌-◌, ◌*◌, ◌/◌, ◌%◌, ◌^◌, ◌<◌, ◌≤◌, cond, List, [], ◌∷◌, length, Result, Ok, Err, refl, sym, ◌∙◌, ap, subst, arith}
use Rattle.std.specs.Prelude.{⊤}
use Rattle.std.proofs.lemmas.Bool.{eq-eqb, ne_eqb, lt-ltb, le-ltb, cases_lt, cases_eq}
use Rattle.ctr_bytes.specs.Fields.{spelled, field}
use Rattle.ctr_bytes.specs.Following.{◌>>=◌}
use Rattle.ctr_bytes.proofs.FieldLaws.{length-spelled, got_byte}
use Rattle.ctr_actions.specs.rec_BadRecord.{BadRecord}
use Rattle.ctr_actions.specs.rec_Record.{Record}
use Rattle.ctr_actions.specs.rec_Damage.{wrong, at_most}
use Rattle.ctr_actions.specs.ctr_redo.States.{State, step}
use Rattle.ctr_actions.specs.page_Damage.{counted_check, firsts_check, used_entry_check, entry_check}
use Rattle.ctr_actions.specs.page_Reading.{piece, put_over}
use Rattle.ctr_actions.specs.area_Chains.{pages_bound}
use Rattle.ctr_actions.specs.area_Checked.{Passes}
use Rattle.ctr_actions.proofs.area_Bytes.{field_before, byte_here, byte_in_piece}
use Rattle.ctr_actions.proofs.area_InEntry.{field_put, drop_put, field_behind}
use Rattle.ctr_actions.specs.ctr_record_effects.Standing.{IsDatabaseState}
use Rattle.ctr_actions.specs.ctr_record_effects.States.{pages_in, area_in, IsWholePage}
use Rattle.ctr_actions.specs.ctr_record_effects.Changing.{laid_in_entry, Lays}
use Rattle.ctr_actions.proofs.record_effects_Laid.{bytes_laid}
use Rattle.ctr_passed.specs.Laid.{EntryPasses}
use Rattle.ctr_passed.proofs.Agreeing.{name_on_check, name_on_same, firsts_same}
use Rattle.ctr_passed.proofs.Apart.{before_put, behind_put, page_there}

-- ---- checks that pass

pub both_pass : (r s : Result ⊤ BadRecord) → r ≡ Ok tt → s ≡ Ok tt → (r >>= λ _. s) ≡ Ok tt
both_pass r s first second = (λ i. first i >>= λ _. s) ∙ second

both_passed : (r s : Result ⊤ BadRecord) → (r >>= λ _. s) ≡ Ok tt → (r ≡ Ok tt) × (s ≡ Ok tt)
both_passed (Ok x) s e = (refl, e)
both_passed (Err d) s e = absurd cc

pub most_passes : (at bound got : ℕ) → got ≤ bound → at_most at bound got ≡ Ok tt
unfolding at_most
most_passes at bound got le = ap (λ b. cond b (Err (wrong at bound got)) (Ok tt)) (le-ltb bound got le)

-- ---- the first pages: each is one of before, or counted

firsts_pass : (n counted at : ℕ) (old new : List ℕ) → firsts_check n counted at old ≡ Ok tt
    → ((j : ℕ) → j < n → (field 4 (at + 4 * j) new ≡ field 4 (at + 4 * j) old) ⊎ (field 4 (at + 4 * j) new ≤ counted - 1)) → firsts_check n counted at new ≡ Ok tt
unfolding counted_check
firsts_pass zero counted at old new e each = refl
firsts_pass (suc n) counted at old new e each =
    let was = both_passed (counted_check counted at old) (firsts_check n counted (at + 4) old) e in
    let here : at + 4 * 0 ≡ at = omega arith in
    both_pass (counted_check counted at new) (firsts_check n counted (at + 4) new)
    (⊎_elim (λ same. ap (at_most at (counted - 1)) (subst (λ k. field 4 k new ≡ field 4 k old) here same) ∙ was.0)
    (λ le. most_passes at (counted - 1) (field 4 at new) (subst (λ k. field 4 k new ≤ counted - 1) here le)) (each 0 (omega arith)))
    (firsts_pass n counted (at + 4) old new was.1 (λ j lt.
    subst (λ k. (field 4 k new ≡ field 4 k old) ⊎ (field 4 k new ≤ counted - 1)) (let next : at + 4 * suc j ≡ at + 4 + 4 * j = omega arith in next) (each (suc j) (omega (arith, lt)))))

-- ---- an entry in parts

pub record EntryParts (counted start : ℕ) (page : List ℕ) : Type 0 where
  pub firsts : firsts_check 9 counted (start + 179) page ≡ Ok tt
  pub state : at_most start 2 (field 1 start page) ≡ Ok tt
  pub rest : name_on_check start page ≡ Ok tt

entry_parts : (counted start : ℕ) (page : List ℕ) → entry_check counted start page ≡ Ok tt → field 1 start page ≢ 0 → EntryParts counted start page
unfolding entry_check used_entry_check
entry_parts counted start page e used =
    let checked : used_entry_check counted start page ≡ Ok tt =
    ap (λ b. cond b (Ok tt) (used_entry_check counted start page)) (sym (ne_eqb (field 1 start page) 0 used)) ∙ e in
    let one = both_passed (firsts_check 9 counted (start + 179) page) (at_most start 2 (field 1 start page) >>= λ _. name_on_check start page) checked in
    let two = both_passed (at_most start 2 (field 1 start page)) (name_on_check start page) one.1 in
    record { firsts = one.0; state = two.0; rest = two.1 }

pub free_passes : (counted start : ℕ) (page : List ℕ) → field 1 start page ≡ 0 → entry_check counted start page ≡ Ok tt
unfolding entry_check
free_passes counted start page free = ap (λ b. cond b (Ok tt) (used_entry_check counted start page)) (eq-eqb (field 1 start page) 0 free)

pub parts_pass : (counted start : ℕ) (page : List ℕ) → EntryParts counted start page → entry_check counted start page ≡ Ok tt
unfolding entry_check used_entry_check
parts_pass counted start page parts = ⊎_elim (λ is. free_passes counted start page is)
    (λ isnt. ap (λ b. cond b (Ok tt) (used_entry_check counted start page)) (ne_eqb (field 1 start page) 0 isnt)
    ∙ both_pass (firsts_check 9 counted (start + 179) page) (at_most start 2 (field 1 start page) >>= λ _. name_on_check start page) parts.firsts
    (both_pass (at_most start 2 (field 1 start page)) (name_on_check start page) parts.state parts.rest))
    (cases_eq (field 1 start page) 0)

-- ---- bytes in it

module _ (counted start : ℕ) (old : List ℕ) (whole : start + 256 ≤ length old) (passes : entry_check counted start old ≡ Ok tt) where
  -- a transaction that drops it, or none
  pub dropper_passes : (x : ℕ) → entry_check counted start (put_over (start + 9) (spelled 8 x) old) ≡ Ok tt
  dropper_passes x = ⊎_elim (λ free. free_passes counted start new (state ∙ free))
      (λ used. let was = entry_parts counted start old passes used in parts_pass counted start new (record {
        firsts = firsts_same (start + 179) 36 old new (behind (start + 179) 36 (omega (arith, length-spelled 8 x))) 9 counted (start + 179) (omega arith) (omega arith) ∙ was.firsts;
        state = ap (at_most start 2) state ∙ was.state;
        rest = name_on_same start old new (behind (start + 17) 162 (omega (arith, length-spelled 8 x))) ∙ was.rest;
      }))
      (cases_eq (field 1 start old) 0)
    where
      new : List ℕ
      new = put_over (start + 9) (spelled 8 x) old

      state : field 1 start new ≡ field 1 start old
      state = field_before start 1 (start + 9) (spelled 8 x) old (omega arith) (omega (arith, whole))

      behind : (from size : ℕ) → start + 9 + length (spelled 8 x) ≤ from → (n k : ℕ) → from ≤ k → k + n ≤ from + size → field n k new ≡ field n k old
      behind = behind_put (start + 9) (spelled 8 x) old (omega (arith, whole))

  -- another state of one that isn't free, or a free one
  pub state_passes : (n : ℕ) → n ≤ 2 → (n ≢ 0 → field 1 start old ≢ 0) → entry_check counted start (put_over (start + 0) (n ∷ []) old) ≡ Ok tt
  state_passes n few used = ⊎_elim (λ none. free_passes counted start new (state ∙ none))
      (λ some. let was = entry_parts counted start old passes (used some) in parts_pass counted start new (record {
        firsts = firsts_same (start + 179) 36 old new (behind (start + 179) 36 (omega arith)) 9 counted (start + 179) (omega arith) (omega arith) ∙ was.firsts;
        state = most_passes start 2 (field 1 start new) (subst (λ m. m ≤ 2) (sym state) few);
        rest = name_on_same start old new (behind (start + 17) 162 (omega arith)) ∙ was.rest;
      }))
      (cases_eq n 0)
    where
      new : List ℕ
      new = put_over (start + 0) (n ∷ []) old

      here : start + 0 ≡ start
      here = omega arith

      state : field 1 start new ≡ n
      state = ap (λ k. field 1 k new) (sym here) ∙ sym (got_byte (start + 0) new) ∙ byte_here (start + 0) n old (omega (arith, whole))

      behind : (from size : ℕ) → start + 0 + 1 ≤ from → (n k : ℕ) → from ≤ k → k + n ≤ from + size → field n k new ≡ field n k old
      behind = behind_put (start + 0) (n ∷ []) old (omega (arith, whole))

  -- a first page that is counted
  pub first_passes : (k p : ℕ) → k < 9 → p < 256 ^ 4 → p ≤ counted - 1 → entry_check counted start (put_over (start + (179 + 4 * k)) (spelled 4 p) old) ≡ Ok tt
  first_passes k p few small inside = ⊎_elim (λ free. free_passes counted start new (state ∙ free))
      (λ used. let was = entry_parts counted start old passes used in parts_pass counted start new (record {
        firsts = firsts_pass 9 counted (start + 179) old new was.firsts each;
        state = ap (at_most start 2) state ∙ was.state;
        rest = name_on_same start old new (before_put (start + (179 + 4 * k)) (spelled 4 p) old fits (start + 17) 162 (omega arith)) ∙ was.rest;
      }))
      (cases_eq (field 1 start old) 0)
    where
      new : List ℕ
      new = put_over (start + (179 + 4 * k)) (spelled 4 p) old

      fits : start + (179 + 4 * k) ≤ length old
      fits = omega (arith, whole, few)

      state : field 1 start new ≡ field 1 start old
      state = field_before start 1 (start + (179 + 4 * k)) (spelled 4 p) old (omega arith) fits

      here : (j : ℕ) → j ≡ k → field 4 (start + 179 + 4 * j) new ≤ counted - 1
      here j is = subst (λ m. m ≤ counted - 1) (sym (ap (λ m. field 4 m new) (let e : start + 179 + 4 * j ≡ start + (179 + 4 * k) = omega (arith, is) in e) ∙ field_put 4 (start + (179 + 4 * k)) p old small fits)) inside

      before : (j : ℕ) → j < k → field 4 (start + 179 + 4 * j) new ≡ field 4 (start + 179 + 4 * j) old
      before j lt = field_before (start + 179 + 4 * j) 4 (start + (179 + 4 * k)) (spelled 4 p) old (omega (arith, lt)) fits

      after : (j : ℕ) → k < j → field 4 (start + 179 + 4 * j) new ≡ field 4 (start + 179 + 4 * j) old
      after j lt =
          let end = start + (179 + 4 * k) + 4 in
          field_behind end new old (drop_put end (start + (179 + 4 * k)) (spelled 4 p) old (omega (arith, length-spelled 4 p)) fits) 4 (start + 179 + 4 * j) (omega (arith, lt))

      each : (j : ℕ) → j < 9 → (field 4 (start + 179 + 4 * j) new ≡ field 4 (start + 179 + 4 * j) old) ⊎ (field 4 (start + 179 + 4 * j) new ≤ counted - 1)
      each j lt = ⊎_elim (λ less. inl (before j less))
          (λ ge. ⊎_elim (λ more. inl (after j more)) (λ le. inr (here j (omega (arith, ge, le)))) (cases_lt k j))
          (cases_lt j k)

-- ---- in a state

-- the page of the entry behind a record that is laid in it
pub entry_put : (s : State) (r : Record) (e at : ℕ) (bytes : List ℕ) → Lays r (laid_in_entry e at bytes) → IsWholePage (1 + e / 16) s
    → pages_in (step r s) (1 + e / 16) ≡ put_over (256 * (e % 16) + at) bytes (pages_in s (1 + e / 16))
entry_put s r e at bytes lays whole =
    ap (λ (f : ℕ → List ℕ). f (1 + e / 16)) (bytes_laid s r (1 + e / 16) (256 * (e % 16) + at) bytes lays whole)
    ∙ page_there (1 + e / 16) (put_over (256 * (e % 16) + at) bytes (pages_in s (1 + e / 16))) (pages_in s)

-- the first byte of an entry is its state
pub state_there : (s : State) (e : ℕ) → e < 32 → ((area_in s).title e).state ≡ field 1 (256 * (e % 16)) (pages_in s (1 + e / 16))
state_there s e few =
    let page = pages_in s (1 + e / 16) in
    ap (λ b. field 1 0 (cond b (piece (256 * (e % 16)) 256 page) [])) (lt-ltb e 32 few)
    ∙ sym (got_byte 0 (piece (256 * (e % 16)) 256 page)) ∙ byte_in_piece (256 * (e % 16)) 256 page (omega arith) ∙ got_byte (256 * (e % 16)) page

module _ (s : State) (r : Record) (e : ℕ) (sound : IsDatabaseState s) (few : e < 32) (whole : IsWholePage (1 + e / 16) s) where
  -- as it is behind what is laid in it
  as_laid : (at : ℕ) (bytes : List ℕ) → Lays r (laid_in_entry e at bytes) → Passes (entry_check s.counted (256 * (e % 16)) (put_over (256 * (e % 16) + at) bytes (pages_in s (1 + e / 16)))) → EntryPasses s.counted (pages_in (step r s)) e
  as_laid at bytes lays passes = subst (λ (bs : List ℕ). Passes (entry_check s.counted (256 * (e % 16)) bs)) (sym (entry_put s r e at bytes lays whole)) passes

  inside : 256 * (e % 16) + 256 ≤ length (pages_in s (1 + e / 16))
  inside = omega (arith, whole)

  pub dropper_laid : (x : ℕ) → Lays r (laid_in_entry e 9 (spelled 8 x)) → EntryPasses s.counted (pages_in (step r s)) e
  dropper_laid x lays = as_laid 9 (spelled 8 x) lays (dropper_passes s.counted (256 * (e % 16)) (pages_in s (1 + e / 16)) inside (sound.passed.entries e few) x)

  pub state_laid : (n : ℕ) → n ≤ 2 → (n ≢ 0 → ((area_in s).title e).state ≢ 0) → Lays r (laid_in_entry e 0 (n ∷ [])) → EntryPasses s.counted (pages_in (step r s)) e
  state_laid n least used lays = as_laid 0 (n ∷ []) lays (state_passes s.counted (256 * (e % 16)) (pages_in s (1 + e / 16)) inside (sound.passed.entries e few) n least
      (λ some none. used some (state_there s e few ∙ none)))

  -- a page that is counted has a number of four bytes
  pub four_bytes : (p : ℕ) → p < s.counted → p < 256 ^ 4
  unfolding pages_bound
  four_bytes p lt = let most = sound.few in omega (arith, lt, most)

  pub first_laid : (k p : ℕ) → k < 9 → p < s.counted → Lays r (laid_in_entry e (179 + 4 * k) (spelled 4 p)) → EntryPasses s.counted (pages_in (step r s)) e
  first_laid k p nine lt lays = as_laid (179 + 4 * k) (spelled 4 p) lays (first_passes s.counted (256 * (e % 16)) (pages_in s (1 + e / 16)) inside (sound.passed.entries e few) k p nine (four_bytes p lt) (omega (arith, lt)))
