-- A slot or a version entry is written in the bytes: in the area this one place changes, and nothing
-- else.
use Rattle.std.proofs.Common.{◌≡◌, ⊎_elim, ℕ, ◌+◌, ◌*◌, ◌/◌, ◌%◌, ◌<◌, ◌≤◌, true, false, cond, List, [], length, drop, refl, sym, ◌∙◌, ap, subst, arith}
use Rattle.std.specs.Prelude.{◌==◌, nat_lt}
use Rattle.std.proofs.lemmas.Bool.{false≢true, eq-eqb, eqb-true, ne_eqb, cases_lt, cases_eq}
use Rattle.std.proofs.lemmas.Nat.{div_below}
use Rattle.ctr_page.specs.types_Column.{Column}
use Rattle.ctr_versions.proofs.Keys.{known}
use Rattle.ctr_meta.specs.ctr_bytes.Fields.{field}
use Rattle.ctr_page.specs.ctr_value.Payload.{width}
use Rattle.ctr_page.specs.declared.header.Header.{Header}
use Rattle.ctr_page.specs.declared.rows.Place.{Place}
use Rattle.ctr_page.specs.Places.{slot_size, kept_size, room_for, start_of}
use Rattle.ctr_page.specs.Reading.{piece, put_over, header_in, slot_in, older_in}
use Rattle.ctr_page.specs.Columns.{entry_in, columns_in}
use Rattle.ctr_area.specs.Areas.{same_place, free_slot, free_older, Slot, Older}
use Rattle.ctr_area.specs.Reading.{is_taken, entry_bytes, title_of, firsts_of, slot_said, older_said, no_header, header_on, columns_on, width_on, size_on, area_of}
use Rattle.ctr_area.specs.Changes.{with_slot, with_older, with_page}
use Rattle.ctr_area.proofs.Bytes.{piece_here, piece_before, piece_after, field_before}
use Rattle.ctr_area.proofs.Places.{same_place_is, same_place_itself, apart_rows, below}

pub catalog_page : (e : ℕ) → e < 32 → 1 + e / 16 < 3
catalog_page e lt = omega (arith, div_below e 16 2 (omega arith) (omega (arith, lt)))

-- a page of versions is none of rows
pub one_of_two : (k : ℕ) → k ≡ 2 → (k == 1) ≡ false
one_of_two k is = ne_eqb k 1 (λ one. omega (arith, one, is))

module _ (pages : ℕ → List ℕ) (at : Place) (new : List ℕ) (third : 3 ≤ at.page) (long : length new ≡ size_on pages at.page) (fits : start_of (size_on pages at.page) at.slot ≤ length (pages at.page)) where
  abbrev place : ℕ
  place = start_of (size_on pages at.page) at.slot

  abbrev after : ℕ → List ℕ
  after = with_page at.page (put_over place new (pages at.page)) pages

  page_here : after at.page ≡ put_over place new (pages at.page)
  page_here = ap (λ b. cond b (put_over place new (pages at.page)) (pages at.page)) (eq-eqb at.page at.page refl)

  page_apart : (q : ℕ) → (q ≡ at.page → ⊥) → after q ≡ pages q
  page_apart q apart = ap (λ b. cond b (put_over place new (pages at.page)) (pages q)) (ne_eqb q at.page apart)

  -- what the first bytes of a page say
  same_field : (k n : ℕ) → k + n ≤ 16 → (q : ℕ) → field n k (after q) ≡ field n k (pages q)
  same_field k n le q = ⊎_elim
      (λ is. subst (λ q. field n k (after q) ≡ field n k (pages q)) (sym is) (ap (field n k) page_here ∙ field_before k n place new (pages at.page) (omega (arith, le)) fits))
      (λ apart. ap (field n k) (page_apart q apart)) (cases_eq q at.page)

  same_bytes : (q : ℕ) → header_in (after q) ≡ header_in (pages q)
  same_bytes q = λ i. record {
    kind = same_field 0 1 (omega arith) q i;
    entry = same_field 1 1 (omega arith) q i;
    bucket = same_field 2 1 (omega arith) q i;
    next = same_field 4 4 (omega arith) q i;
  }

  same_header : (q : ℕ) → header_on after q ≡ header_on pages q
  same_header q = ap (cond (nat_lt q 3) no_header) (same_bytes q)

  same_entry : (e : ℕ) → entry_bytes after e ≡ entry_bytes pages e
  same_entry e = known (nat_lt e 32)
      (λ lt. ap (λ bytes. cond (nat_lt e 32) (piece (256 * (e % 16)) 256 bytes) []) (page_apart (1 + e / 16) (λ is. omega (arith, catalog_page e (below e 32 lt), third, is))))
      (λ ge. ap (λ b. cond b (piece (256 * (e % 16)) 256 (after (1 + e / 16))) []) ge ∙ sym (ap (λ b. cond b (piece (256 * (e % 16)) 256 (pages (1 + e / 16))) []) ge))

  same_columns : (q : ℕ) → columns_on after q ≡ columns_on pages q
  same_columns q = ap columns_in (same_entry (header_on after q).entry ∙ ap (λ (h : Header). entry_bytes pages h.entry) (same_header q))

  same_width : (q : ℕ) → width_on after q ≡ width_on pages q
  same_width q = ap (λ (cs : List Column). width (drop 1 cs)) (same_columns q)

  same_size : (q : ℕ) → size_on after q ≡ size_on pages q
  same_size q = λ i. cond ((same_header q i).kind == 1) (slot_size (same_width q i)) (kept_size (same_width q i))

  -- another place on the page
  same_row : (n : ℕ) → (n ≡ at.slot → ⊥) → piece (start_of (size_on pages at.page) n) (size_on pages at.page) (put_over place new (pages at.page)) ≡ piece (start_of (size_on pages at.page) n) (size_on pages at.page) (pages at.page)
  same_row n apart = ⊎_elim
      (λ lt. piece_before (start_of (size_on pages at.page) n) (size_on pages at.page) place new (pages at.page) (apart_rows n at.slot (size_on pages at.page) lt) fits)
      (λ le. piece_after (start_of (size_on pages at.page) n) (size_on pages at.page) place new (pages at.page)
      (subst (λ l. place + l ≤ start_of (size_on pages at.page) n) (sym long) (apart_rows at.slot n (size_on pages at.page) (⊎_elim (λ lt. lt) (λ ge. absurd (apart (omega (arith, le, ge)))) (cases_lt at.slot n)))) fits)
      (cases_lt n at.slot)

  row_there : piece place (size_on pages at.page) (after at.page) ≡ new
  row_there = ap (piece place (size_on pages at.page)) page_here ∙ piece_here place (size_on pages at.page) new (pages at.page) long fits

  -- what stands at another place, by the size of what stands on its page
  row_elsewhere : (q : Place) → same_place q at ≡ false → piece (start_of (size_on pages q.page) q.slot) (size_on pages q.page) (after q.page) ≡ piece (start_of (size_on pages q.page) q.slot) (size_on pages q.page) (pages q.page)
  row_elsewhere q apart = ⊎_elim
      (λ is. same_here q.page q.slot is (λ n. false≢true (sym apart ∙ same_both q.page q.slot is n)))
      (λ isnt. ap (piece (start_of (size_on pages q.page) q.slot) (size_on pages q.page)) (page_apart q.page isnt)) (cases_eq q.page at.page)
    where
      same_both : (p n : ℕ) → p ≡ at.page → n ≡ at.slot → same_place (record { page = p; slot = n }) at ≡ true
      same_both p n a b = (λ i. same_place (record { page = a i; slot = b i }) at) ∙ same_place_itself at

      same_here : (p n : ℕ) → p ≡ at.page → (n ≡ at.slot → ⊥) → piece (start_of (size_on pages p) n) (size_on pages p) (after p) ≡ piece (start_of (size_on pages p) n) (size_on pages p) (pages p)
      same_here p n is isnt = subst (λ p. piece (start_of (size_on pages p) n) (size_on pages p) (after p) ≡ piece (start_of (size_on pages p) n) (size_on pages p) (pages p)) (sym is)
          (ap (piece (start_of (size_on pages at.page) n) (size_on pages at.page)) page_here ∙ same_row n isnt)

  -- the size of what stands on a page of rows, and on another
  size_rows : (p : ℕ) → ((header_on pages p).kind == 1) ≡ true → size_on pages p ≡ slot_size (width_on pages p)
  size_rows p is = ap (λ b. cond b (slot_size (width_on pages p)) (kept_size (width_on pages p))) is

  size_others : (p : ℕ) → ((header_on pages p).kind == 1) ≡ false → size_on pages p ≡ kept_size (width_on pages p)
  size_others p is = ap (λ b. cond b (slot_size (width_on pages p)) (kept_size (width_on pages p))) is

  -- the slot of the bytes at a place, read by the old columns
  abbrev slot_by : Place → List ℕ → Slot
  slot_by q bytes = slot_said (columns_on pages q.page) (slot_in (width_on pages q.page) bytes)

  abbrev older_by : Place → List ℕ → Older
  older_by q bytes = older_said (columns_on pages q.page) (older_in (width_on pages q.page) bytes)

  slot_read : (q : Place) → (area_of after).slot q ≡ cond ((header_on pages q.page).kind == 1) (slot_by q (piece (start_of (slot_size (width_on pages q.page)) q.slot) (slot_size (width_on pages q.page)) (after q.page))) free_slot
  slot_read q = λ i. cond ((same_header q.page i).kind == 1)
      (slot_said (same_columns q.page i) (slot_in (same_width q.page i) (piece (start_of (slot_size (same_width q.page i)) q.slot) (slot_size (same_width q.page i)) (after q.page)))) free_slot

  older_read : (q : Place) → (area_of after).older q ≡ cond ((header_on pages q.page).kind == 2) (older_by q (piece (start_of (kept_size (width_on pages q.page)) q.slot) (kept_size (width_on pages q.page)) (after q.page))) free_older
  older_read q = λ i. cond ((same_header q.page i).kind == 2)
      (older_said (same_columns q.page i) (older_in (same_width q.page i) (piece (start_of (kept_size (same_width q.page i)) q.slot) (kept_size (same_width q.page i)) (after q.page)))) free_older

  -- on another page no slot is read, and no version entry
  slot_unread : (q : Place) → ((header_on pages q.page).kind == 1) ≡ false → (area_of after).slot q ≡ (area_of pages).slot q
  slot_unread q isnt = slot_read q
      ∙ ap (λ b. cond b (slot_by q (piece (start_of (slot_size (width_on pages q.page)) q.slot) (slot_size (width_on pages q.page)) (after q.page))) free_slot) isnt
      ∙ sym (ap (λ b. cond b (slot_by q (piece (start_of (slot_size (width_on pages q.page)) q.slot) (slot_size (width_on pages q.page)) (pages q.page))) free_slot) isnt)

  older_unread : (q : Place) → ((header_on pages q.page).kind == 2) ≡ false → (area_of after).older q ≡ (area_of pages).older q
  older_unread q isnt = older_read q
      ∙ ap (λ b. cond b (older_by q (piece (start_of (kept_size (width_on pages q.page)) q.slot) (kept_size (width_on pages q.page)) (after q.page))) free_older) isnt
      ∙ sym (ap (λ b. cond b (older_by q (piece (start_of (kept_size (width_on pages q.page)) q.slot) (kept_size (width_on pages q.page)) (pages q.page))) free_older) isnt)

  slot_apart : (q : Place) → same_place q at ≡ false → (area_of after).slot q ≡ (area_of pages).slot q
  slot_apart q apart = known ((header_on pages q.page).kind == 1)
      (λ is. slot_read q ∙ ap (λ bytes. cond ((header_on pages q.page).kind == 1) (slot_by q bytes) free_slot)
      (subst (λ s. piece (start_of s q.slot) s (after q.page) ≡ piece (start_of s q.slot) s (pages q.page)) (size_rows q.page is) (row_elsewhere q apart)))
      (slot_unread q)

  no_rows : (p : ℕ) → ((header_on pages p).kind == 2) ≡ true → ((header_on pages p).kind == 1) ≡ false
  no_rows p is = ne_eqb (header_on pages p).kind 1 (λ one. omega (arith, one, eqb-true (header_on pages p).kind 2 is))

  older_apart : (q : Place) → same_place q at ≡ false → (area_of after).older q ≡ (area_of pages).older q
  older_apart q apart = known ((header_on pages q.page).kind == 2)
      (λ is. older_read q ∙ ap (λ bytes. cond ((header_on pages q.page).kind == 2) (older_by q bytes) free_older)
      (subst (λ s. piece (start_of s q.slot) s (after q.page) ≡ piece (start_of s q.slot) s (pages q.page)) (size_others q.page (no_rows q.page is)) (row_elsewhere q apart)))
      (older_unread q)

  by_place : {A : Type 0} (q : Place) (x : A) (f old : Place → A) → f at ≡ x → (same_place q at ≡ false → f q ≡ old q) → f q ≡ cond (same_place q at) x (old q)
  by_place q x f old there elsewhere = known (same_place q at)
      (λ is. ap f (same_place_is q at is) ∙ there ∙ sym (ap (λ b. cond b x (old q)) is))
      (λ isnt. elsewhere isnt ∙ sym (ap (λ b. cond b x (old q)) isnt))

  same_at : {A : Type 0} (q : Place) (f old : Place → A) → f at ≡ old at → (same_place q at ≡ false → f q ≡ old q) → f q ≡ old q
  same_at q f old there elsewhere = known (same_place q at) (λ is. subst (λ p. f p ≡ old p) (sym (same_place_is q at is)) there) elsewhere

  -- the area, where only the slots and the version entries are others
  with_places : (slots : Place → Slot) (older : Place → Older) → ((q : Place) → (area_of after).slot q ≡ slots q) → ((q : Place) → (area_of after).older q ≡ older q) → area_of after ≡ record (area_of pages) { slot = slots; older = older }
  with_places slots older same_slots same_older = λ i. record {
    title = λ e. title_of (entry_in (same_entry e i));
    firsts = λ e. firsts_of (entry_in (same_entry e i));
    taken = λ p. is_taken p (page_apart 0 (λ is. omega (arith, third, is)) i);
    header = λ q. same_header q i;
    room = λ q. room_for (same_size q i);
    slot = λ q. same_slots q i;
    older = λ q. same_older q i;
  }

  -- on a page of rows
  pub slot_written : (header_on pages at.page).kind ≡ 1 → area_of after ≡ with_slot at (slot_said (columns_on pages at.page) (slot_in (width_on pages at.page) new)) (area_of pages)
  slot_written rows = with_places (λ q. cond (same_place q at) (slot_by at new) ((area_of pages).slot q)) (area_of pages).older
      (λ q. by_place q (slot_by at new) (area_of after).slot (area_of pages).slot there (slot_apart q))
      (λ q. same_at q (area_of after).older (area_of pages).older (older_unread at two) (older_apart q))
    where
      one : ((header_on pages at.page).kind == 1) ≡ true
      one = eq-eqb (header_on pages at.page).kind 1 rows

      two : ((header_on pages at.page).kind == 2) ≡ false
      two = ne_eqb (header_on pages at.page).kind 2 (λ is. omega (arith, is, rows))

      there : (area_of after).slot at ≡ slot_by at new
      there = slot_read at
          ∙ ap (λ b. cond b (slot_by at (piece (start_of (slot_size (width_on pages at.page)) at.slot) (slot_size (width_on pages at.page)) (after at.page))) free_slot) one
          ∙ ap (slot_by at) (subst (λ s. piece (start_of s at.slot) s (after at.page) ≡ new) (size_rows at.page one) row_there)

  -- on a page of versions
  pub older_written : (header_on pages at.page).kind ≡ 2 → area_of after ≡ with_older at (older_said (columns_on pages at.page) (older_in (width_on pages at.page) new)) (area_of pages)
  older_written versions = with_places (area_of pages).slot (λ q. cond (same_place q at) (older_by at new) ((area_of pages).older q))
      (λ q. same_at q (area_of after).slot (area_of pages).slot (slot_unread at one) (slot_apart q))
      (λ q. by_place q (older_by at new) (area_of after).older (area_of pages).older there (older_apart q))
    where
      one : ((header_on pages at.page).kind == 1) ≡ false
      one = ne_eqb (header_on pages at.page).kind 1 (λ is. omega (arith, is, versions))

      two : ((header_on pages at.page).kind == 2) ≡ true
      two = eq-eqb (header_on pages at.page).kind 2 versions

      there : (area_of after).older at ≡ older_by at new
      there = older_read at
          ∙ ap (λ b. cond b (older_by at (piece (start_of (kept_size (width_on pages at.page)) at.slot) (kept_size (width_on pages at.page)) (after at.page))) free_older) two
          ∙ ap (older_by at) (subst (λ s. piece (start_of s at.slot) s (after at.page) ≡ new) (size_others at.page one) row_there)
