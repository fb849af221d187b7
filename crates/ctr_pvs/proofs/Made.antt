-- What passes its check is well made.
use Rattle.std.proofs.Common.{◌≡◌, inl, inr, ℕ, ◌+◌, ◌-◌, ◌/◌, ◌<◌, ◌≤◌, ℤ, Bool, true, cond, List, length, Option, Some, None, Result, Ok, Err, refl, sym, ◌∙◌, ap, subst, arith}
use Rattle.std.specs.Prelude.{IfOk, IfSome, ◌==◌}
use Rattle.std.proofs.Math.Nat.{le-div_iff_mul-le}
use Rattle.std.proofs.lemmas.Bool.{eq-eqb, eqb-true, ne_eqb, cases_eq}
use Rattle.ctr_passed.proofs.versions_Keys.{known}
use Rattle.ctr_types.specs.declared.value.Column.{Column}
use Rattle.ctr_types.specs.declared.value.Kind.{Kind}
use Rattle.ctr_bytes.specs.Fields.{field}
use Rattle.ctr_bytes.specs.Following.{◌>>=◌}
use Rattle.ctr_bytes.proofs.FieldLaws.{AreBytes}
use Rattle.ctr_page.specs.ctr_value.Payload.{IsKeyed}
use Rattle.ctr_rec.specs.declared.decoding.BadRecord.{BadRecord}
use Rattle.ctr_rec.specs.Damage.{at_most}
use Rattle.ctr_page.specs.declared.rows.Version.{Version}
use Rattle.ctr_page.specs.Places.{has_previous, previous_at, pointer_at, kept_pointer_at, slot_size, kept_size, room_for}
use Rattle.ctr_page.specs.Reading.{piece, place_in, version_in, if_there, previous_in, slot_at, older_at}
use Rattle.ctr_page.specs.Columns.{kinds_of, kinds_width, slot_start, kept_start}
use Rattle.ctr_page.specs.Damage.{counted_check, place_check, pointer_check, texts_check, version_check, some_version_check, previous_check, used_slot_check, used_kept_check, slot_check, kept_check}
use Rattle.ctr_page.specs.Making.{IsSlot, IsEntry}
use Rattle.ctr_page.specs.Readable.{HoldsRow}
use Rattle.ctr_page.proofs.Holding.{most_ok, slot_rows, older_row}
use Rattle.ctr_walk.specs.Damage.{found_on}
use Rattle.ctr_walk.proofs.Entries.{both_ok, field_there}
use Rattle.ctr_passed.specs.Logged.{LeadsInside, IsVersionOf, IsSlotOf, IsOlderOf}

-- a version entry fits on a page
room_some : (w : ℕ) → w ≤ 2048 → 0 < room_for (kept_size w)
room_some w narrow =
    let fits : 1 ≤ 4080 / kept_size w = (le-div_iff_mul-le {k = kept_size w} {x = 1} {y = 4080} (omega arith)).1 (omega (arith, narrow)) in
    omega (arith, fits)

-- what holds of what is found on a page holds of what is found for a search
pub found_still : {T : Type 0} (p : ℕ) (P : T → Type 0) (r : Result T BadRecord) → IfOk r P → IfOk (found_on p r) P
found_still p P (Ok x) holds = holds
found_still p P (Err bad) holds = tt

-- of a version that may be there two things hold
if_both : {A : Type 0} (P Q R : A → Type 0) (o : Option A) → ((x : A) → P x → Q x → R x) → IfSome o P → IfSome o Q → IfSome o R
if_both P Q R (Some x) both p q = both x p q
if_both P Q R None both p q = tt

module _ (ks : List Kind) (counted start size : ℕ) (page : List ℕ) (inside : start + size ≤ length page) where
  abbrev w : ℕ
  w = kinds_width ks

  abbrev tail : List ℕ
  tail = piece start size page

  here : (n k : ℕ) → k + n ≤ size → field n (start + k) page ≡ field n k tail
  here n k fits = sym (field_there n k start size page fits inside)

  first_here : 1 ≤ size → field 1 start page ≡ field 1 0 tail
  first_here fits = ap (λ j. field 1 j page) (let z : start ≡ start + 0 = omega arith in z) ∙ here 1 0 fits

  dead_small : (k : ℕ) → k + 9 ≤ size → version_check ks (start + k) page ≡ Ok tt → (version_in w k tail).tombstone ≤ 1
  unfolding version_check
  dead_small k fits e =
      let first = (both_ok (at_most (start + k + 8) 1 (field 1 (start + k + 8) page)) (texts_check ks (start + k + 9) page) e).0 in
      let same : field 1 (start + k + 8) page ≡ field 1 (k + 8) tail = ap (λ j. field 1 j page) (let z : start + k + 8 ≡ start + (k + 8) = omega arith in z) ∙ here 1 (k + 8) (omega (arith, fits)) in
      subst (λ n. n ≤ 1) same (most_ok (start + k + 8) 1 (field 1 (start + k + 8) page) first)

  some_small : (k : ℕ) → k + 9 ≤ size → some_version_check ks (start + k) page ≡ Ok tt → IfSome (if_there (version_in w k tail)) (λ v. v.tombstone ≤ 1)
  unfolding some_version_check
  some_small k fits e =
      let v = version_in w k tail in
      known (v.xid == 0)
      (λ none. subst (λ b. IfSome (cond b None (Some v)) (λ x. x.tombstone ≤ 1)) (sym none) tt)
      (λ some. subst (λ b. IfSome (cond b None (Some v)) (λ x. x.tombstone ≤ 1)) (sym some)
      (dead_small k fits (ap (λ b. cond b (Ok tt) (version_check ks (start + k) page)) (sym (ap (λ x. x == 0) (here 8 k (omega (arith, fits))) ∙ some)) ∙ e)))

  pointer_leads : (k : ℕ) → k + 6 ≤ size → 0 < counted → w ≤ 2048 → pointer_check counted w (start + k) page ≡ Ok tt → LeadsInside counted w (place_in k tail)
  unfolding pointer_check place_check counted_check
  pointer_leads k fits some narrow e = λ there.
      let page_is = here 4 k (omega (arith, fits)) in
      let slot_is : field 2 (start + k + 4) page ≡ field 2 (k + 4) tail = ap (λ j. field 2 j page) (let z : start + k + 4 ≡ start + (k + 4) = omega arith in z) ∙ here 2 (k + 4) (omega (arith, fits)) in
      let checked : place_check counted w (start + k) page ≡ Ok tt =
      ap (λ b. cond b (Ok tt) (place_check counted w (start + k) page)) (sym (ne_eqb (field 4 (start + k) page) 0 (λ none. there (sym page_is ∙ none)))) ∙ e in
      let both = both_ok (at_most (start + k) (counted - 1) (field 4 (start + k) page)) (at_most (start + k + 4) (room_for (kept_size w) - 1) (field 2 (start + k + 4) page)) checked in
      let low = most_ok (start + k) (counted - 1) (field 4 (start + k) page) both.0 in
      let slot = most_ok (start + k + 4) (room_for (kept_size w) - 1) (field 2 (start + k + 4) page) both.1 in
      (subst (λ n. n < counted) page_is (omega (arith, low, some)), subst (λ n. n < room_for (kept_size w)) slot_is (omega (arith, slot, room_some w narrow)))

module _ (cs : List Column) (keyed : IsKeyed cs) (counted n : ℕ) (some : 0 < counted) (narrow : kinds_width (kinds_of cs) ≤ 2048) (page : List ℕ) (below : AreBytes page) where
  abbrev kinds : List Kind
  kinds = kinds_of cs

  abbrev wide : ℕ
  wide = kinds_width kinds

  -- the head has its room, and so has the pointer
  head_room : 24 + wide ≤ slot_size wide
  head_room = known (has_previous wide)
      (λ is. omega (arith, ap (λ b. cond b (previous_at wide + 9 + wide) (previous_at wide) + 6) is)) (λ isnt. omega (arith, ap (λ b. cond b (previous_at wide + 9 + wide) (previous_at wide) + 6) isnt))

  pointer_room : pointer_at wide + 6 ≤ slot_size wide
  pointer_room = omega arith

  pub slot_made : slot_start kinds n + slot_size wide ≤ length page → IsSlot wide (slot_at wide n page) → slot_check kinds counted (slot_start kinds n) page ≡ Ok tt → IsSlotOf counted cs (slot_at wide n page)
  unfolding slot_check used_slot_check previous_check
  slot_made inside is e = record {
    is = is;
    state = elim (cases_eq (field 1 (slot_start kinds n) page) 1) [
      | inl one ↦ subst (λ k. k ≤ 1) first (omega (arith, one))
      | inr other ↦ subst (λ k. k ≤ 1) first (most_ok (slot_start kinds n) 1 (field 1 (slot_start kinds n) page) (ap (λ b. cond b (used_slot_check kinds counted (slot_start kinds n) page) (at_most (slot_start kinds n) 1 (field 1 (slot_start kinds n) page))) (sym (ne_eqb (field 1 (slot_start kinds n) page) 1 other)) ∙ e))
    ];
    rows = λ used.
        let two = parts used in
        let last = both_ok (version_check kinds ((slot_start kinds n) + 9) page) (previous_check kinds (slot_start kinds n) page) two.1 in
        let rows = slot_rows page below counted n kinds inside cs keyed refl e used in (
          (dead_small kinds counted (slot_start kinds n) (slot_size wide) page inside 9 (omega (arith, head_room)) last.0, rows.0),
          if_both (λ (v : Version). v.tombstone ≤ 1) (λ v. HoldsRow cs (slot_at wide n page).key v) (λ v. IsVersionOf cs (slot_at wide n page).key v) (slot_at wide n page).previous (λ v dead row. (dead, row)) (previous_small last.1) rows.1,
        );
    leads = λ used. pointer_leads kinds counted (slot_start kinds n) (slot_size wide) page inside (pointer_at wide) pointer_room some narrow (parts used).0;
  }
    where
      first : field 1 (slot_start kinds n) page ≡ field 1 0 (piece (slot_start kinds n) (slot_size wide) page)
      first = first_here kinds counted (slot_start kinds n) (slot_size wide) page inside (omega (arith, head_room))

      parts : (slot_at wide n page).used ≡ 1 → (pointer_check counted wide ((slot_start kinds n) + pointer_at wide) page ≡ Ok tt) × ((version_check kinds ((slot_start kinds n) + 9) page >>= λ _. previous_check kinds (slot_start kinds n) page) ≡ Ok tt)
      parts used = both_ok (pointer_check counted wide ((slot_start kinds n) + pointer_at wide) page) (version_check kinds ((slot_start kinds n) + 9) page >>= λ _. previous_check kinds (slot_start kinds n) page)
          (ap (λ b. cond b (used_slot_check kinds counted (slot_start kinds n) page) (at_most (slot_start kinds n) 1 (field 1 (slot_start kinds n) page))) (sym (eq-eqb (field 1 (slot_start kinds n) page) 1 (first ∙ used))) ∙ e)

      previous_small : previous_check kinds (slot_start kinds n) page ≡ Ok tt → IfSome (slot_at wide n page).previous (λ v. v.tombstone ≤ 1)
      previous_small checked =
          let v = version_in wide (previous_at wide) (piece (slot_start kinds n) (slot_size wide) page) in
          known (has_previous wide)
          (λ yes. subst (λ b. IfSome (cond b (if_there v) None) (λ x. x.tombstone ≤ 1)) (sym yes)
          (some_small kinds counted (slot_start kinds n) (slot_size wide) page inside (previous_at wide) (omega (arith, ap (λ b. cond b (previous_at wide + 9 + wide) (previous_at wide) + 6) yes))
          (ap (λ b. cond b (some_version_check kinds ((slot_start kinds n) + previous_at wide) page) (Ok tt)) (sym yes) ∙ checked)))
          (λ no. subst (λ b. IfSome (cond b (if_there v) None) (λ x. x.tombstone ≤ 1)) (sym no) tt)

  pub older_made : kept_start kinds n + kept_size wide ≤ length page → IsEntry wide (older_at wide n page) → kept_check kinds counted (kept_start kinds n) page ≡ Ok tt → IsOlderOf counted cs (older_at wide n page)
  unfolding kept_check used_kept_check
  older_made inside is e = record {
    is = is;
    state = elim (cases_eq (field 1 (kept_start kinds n) page) 1) [
      | inl one ↦ subst (λ k. k ≤ 1) first (omega (arith, one))
      | inr other ↦ subst (λ k. k ≤ 1) first (most_ok (kept_start kinds n) 1 (field 1 (kept_start kinds n) page) (ap (λ b. cond b (used_kept_check kinds counted (kept_start kinds n) page) (at_most (kept_start kinds n) 1 (field 1 (kept_start kinds n) page))) (sym (ne_eqb (field 1 (kept_start kinds n) page) 1 other)) ∙ e))
    ];
    row = λ used. (dead_small kinds counted (kept_start kinds n) (kept_size wide) page inside 9 (omega arith) (parts used).1, older_row page below counted n kinds inside cs keyed refl e used);
    leads = λ used. pointer_leads kinds counted (kept_start kinds n) (kept_size wide) page inside (kept_pointer_at wide) (omega arith) some narrow (parts used).0;
  }
    where
      first : field 1 (kept_start kinds n) page ≡ field 1 0 (piece (kept_start kinds n) (kept_size wide) page)
      first = first_here kinds counted (kept_start kinds n) (kept_size wide) page inside (omega arith)

      parts : (older_at wide n page).used ≡ 1 → (pointer_check counted wide ((kept_start kinds n) + kept_pointer_at wide) page ≡ Ok tt) × (version_check kinds ((kept_start kinds n) + 9) page ≡ Ok tt)
      parts used = both_ok (pointer_check counted wide ((kept_start kinds n) + kept_pointer_at wide) page) (version_check kinds ((kept_start kinds n) + 9) page)
          (ap (λ b. cond b (used_kept_check kinds counted (kept_start kinds n) page) (at_most (kept_start kinds n) 1 (field 1 (kept_start kinds n) page))) (sym (eq-eqb (field 1 (kept_start kinds n) page) 1 (first ∙ used))) ∙ e)
