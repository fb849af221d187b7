-- A page that is cleared and has a header: nothing stands on it, and nothing else changes.
use Rattle.std.proofs.Common.{◌≡◌, ℕ, ◌+◌, ◌*◌, ◌/◌, ◌%◌, ◌<◌, ◌≤◌, true, cond, List, [], ◌++◌, length, drop, replicate, refl, sym, ◌∙◌, ap, arith}
use Rattle.std.specs.Prelude.{◌==◌, nat_lt}
use Rattle.std.proofs.lemmas.Bool.{eqb-true, eqb-false, eq-eqb, ne_eqb, le-ltb}
use Rattle.ctr_page.specs.types_Column.{Column}
use Rattle.ctr_versions.proofs.Keys.{known}
use Rattle.std.specs.Option.{option_map}
use Rattle.ctr_meta.specs.ctr_bytes.Fields.{spelled, field}
use Rattle.ctr_page.proofs.bytes_FieldLaws.{length-spelled, got_byte}
use Rattle.ctr_page.specs.ctr_value.Payload.{width}
use Rattle.ctr_page.specs.declared.header.Header.{Header}
use Rattle.ctr_page.specs.declared.rows.Place.{Place}
use Rattle.ctr_page.specs.declared.rows.RowSlot.{RowSlot}
use Rattle.ctr_page.specs.declared.rows.VersionEntry.{VersionEntry}
use Rattle.ctr_page.specs.Places.{slot_size, kept_size, room_for, start_of}
use Rattle.ctr_page.specs.Reading.{piece, put_over, header_in, slot_in, older_in}
use Rattle.ctr_page.specs.Making.{header_bytes, IsHeader}
use Rattle.ctr_page.specs.Columns.{entry_in, columns_in}
use Rattle.ctr_page.proofs.Back.{header_back, length-more}
use Rattle.ctr_area.specs.Areas.{Slot, Older, free_slot, free_older}
use Rattle.ctr_area.specs.Reading.{is_taken, entry_bytes, title_of, firsts_of, version_said, slot_said, older_said, no_header, header_on, columns_on, width_on, size_of_kind, size_on, area_of}
use Rattle.ctr_area.specs.Changes.{room_by, with_blank, with_header}
use Rattle.ctr_area.proofs.Bytes.{zero_at, byte_in_piece, byte_after}
use Rattle.ctr_area.proofs.Behind.{same_header, same_size, same_slot, same_older}
use Rattle.ctr_area.proofs.Places.{below}
use Rattle.ctr_area.proofs.Written.{catalog_page}

length-header : (h : Header) → length (header_bytes h) ≡ 16
length-header h =
    let a = spelled 1 h.kind in
    let b = a ++ spelled 1 h.entry in
    let c = b ++ spelled 1 h.bucket in
    let d = c ++ spelled 1 0 in
    omega (
      arith,
      length-spelled 1 h.kind,
      length-more 1 h.entry a,
      length-more 1 h.bucket b,
      length-more 1 0 c,
      length-more 4 h.next d,
      length-more 8 0 (d ++ spelled 4 h.next),
    )

-- a slot or a version entry that isn't used is a free one
unused_slot : (cs : List Column) (s : RowSlot) → s.used ≡ 0 → slot_said cs s ≡ free_slot
unused_slot cs s none = ap (λ (n : ℕ). cond (n == 1) used free_slot) none
  where
    used : Slot
    used = record { used = true; key = s.key; head = version_said cs s.key s.head; previous = option_map (version_said cs s.key) s.previous; pointer = s.older }

unused_older : (cs : List Column) (e : VersionEntry) → e.used ≡ 0 → older_said cs e ≡ free_older
unused_older cs e none = ap (λ (n : ℕ). cond (n == 1) used free_older) none
  where
    used : Older
    used = record { used = true; key = e.key; version = version_said cs e.key e.version; pointer = e.older }

module _ (pages : ℕ → List ℕ) (p : ℕ) (h : Header) (third : 3 ≤ p) (fits : IsHeader h) where
  abbrev after : ℕ → List ℕ
  after = with_header p h pages

  abbrev blank : List ℕ
  blank = put_over 0 (header_bytes h) (replicate 4096 0)

  page_here : after p ≡ blank
  page_here = ap (λ b. cond b blank (pages p)) (eq-eqb p p refl)

  page_apart : (q : ℕ) → (q ≡ p → ⊥) → after q ≡ pages q
  page_apart q apart = ap (λ b. cond b blank (pages q)) (ne_eqb q p apart)

  same_entry : (e : ℕ) → entry_bytes after e ≡ entry_bytes pages e
  same_entry e = known (nat_lt e 32)
      (λ lt. ap (λ bytes. cond (nat_lt e 32) (piece (256 * (e % 16)) 256 bytes) []) (page_apart (1 + e / 16) (λ is. omega (arith, catalog_page e (below e 32 lt), third, is))))
      (λ ge. ap (λ b. cond b (piece (256 * (e % 16)) 256 (after (1 + e / 16))) []) ge ∙ sym (ap (λ b. cond b (piece (256 * (e % 16)) 256 (pages (1 + e / 16))) []) ge))

  same_columns_in : (e : ℕ) → columns_in (entry_bytes after e) ≡ columns_in (entry_bytes pages e)
  same_columns_in e = ap columns_in (same_entry e)

  by_page : {A : Type 0} (q : ℕ) (x now old : A) → (q ≡ p → now ≡ x) → ((q ≡ p → ⊥) → now ≡ old) → now ≡ cond (q == p) x old
  by_page q x now old there elsewhere = known (q == p)
      (λ is. there (eqb-true q p is) ∙ sym (ap (λ b. cond b x old) is))
      (λ isnt. elsewhere (eqb-false q p isnt) ∙ sym (ap (λ b. cond b x old) isnt))

  header_here : header_on after p ≡ h
  header_here =
      ap (λ b. cond b no_header (header_in (after p))) (le-ltb p 3 third) ∙ ap header_in page_here ∙ header_back h blank fits (drop (0 + length (header_bytes h)) (replicate 4096 0), refl)

  header_after : (q : ℕ) → header_on after q ≡ cond (q == p) h (header_on pages q)
  header_after q = by_page q h (header_on after q) (header_on pages q)
      (λ is. ap (header_on after) is ∙ header_here) (λ apart. same_header pages after q (λ ge. page_apart q apart))

  size_here : size_on after p ≡ size_of_kind (h.kind == 1) (width (drop 1 (columns_in (entry_bytes pages h.entry))))
  size_here = (λ i. size_of_kind ((header_here i).kind == 1) (width (drop 1 (columns_in (same_entry (header_here i).entry i)))))

  room_after : (q : ℕ) → room_for (size_on after q) ≡ cond (q == p) (room_by (area_of pages) h) (room_for (size_on pages q))
  room_after q = by_page q (room_by (area_of pages) h) (room_for (size_on after q)) (room_for (size_on pages q))
      (λ is. ap (λ k. room_for (size_on after k)) is ∙ ap room_for size_here)
      (λ apart. ap room_for (same_size pages after q (λ ge. page_apart q apart) (same_columns_in (header_on pages q).entry)))

  -- behind the header all bytes are zeros
  zero_used : (start size : ℕ) → 16 ≤ start → 0 < size → field 1 0 (piece start size blank) ≡ 0
  zero_used start size behind some =
      sym (got_byte 0 (piece start size blank)) ∙ byte_in_piece start size blank some
      ∙ byte_after start 0 (header_bytes h) (replicate 4096 0) (omega (arith, length-header h, behind)) (omega arith) ∙ zero_at 4096 start

  -- what is read of a place on the page, where it stands on pages of a kind and none is in use
  read_here : {A : Type 0} (kind size : ℕ) (said : List ℕ → A) (free : A) (q : Place) → q.page ≡ p → 0 < size → ((bytes : List ℕ) → field 1 0 bytes ≡ 0 → said bytes ≡ free)
      → cond ((header_on after q.page).kind == kind) (said (piece (start_of size q.slot) size (after q.page))) free ≡ free
  read_here kind size said free q is some unused = known ((header_on after q.page).kind == kind)
      (λ here. ap (λ b. cond b (said (piece (start_of size q.slot) size (after q.page))) free) here
      ∙ unused (piece (start_of size q.slot) size (after q.page)) (ap (λ bytes. field 1 0 (piece (start_of size q.slot) size bytes)) (ap after is ∙ page_here) ∙ zero_used (start_of size q.slot) size (omega arith) some))
      (λ others. ap (λ b. cond b (said (piece (start_of size q.slot) size (after q.page))) free) others)

  slot_here : (q : Place) → q.page ≡ p → (area_of after).slot q ≡ free_slot
  slot_here q is =
      let said : List ℕ → Slot = λ bytes. slot_said (columns_on after q.page) (slot_in (width_on after q.page) bytes) in
      read_here 1 (slot_size (width_on after q.page)) said free_slot q is (omega arith) (λ bytes zero. unused_slot (columns_on after q.page) (slot_in (width_on after q.page) bytes) zero)

  older_here : (q : Place) → q.page ≡ p → (area_of after).older q ≡ free_older
  older_here q is =
      let said : List ℕ → Older = λ bytes. older_said (columns_on after q.page) (older_in (width_on after q.page) bytes) in
      read_here 2 (kept_size (width_on after q.page)) said free_older q is (omega arith) (λ bytes zero. unused_older (columns_on after q.page) (older_in (width_on after q.page) bytes) zero)

  pub page_cleared : area_of after ≡ with_blank p h (area_of pages)
  page_cleared = λ i. record {
    title = λ e. title_of (entry_in (same_entry e i));
    firsts = λ e. firsts_of (entry_in (same_entry e i));
    taken = λ q. is_taken q (page_apart 0 (λ is. omega (arith, third, is)) i);
    header = λ q. header_after q i;
    room = λ q. room_after q i;
    slot = λ at. by_page at.page free_slot ((area_of after).slot at) ((area_of pages).slot at)
        (slot_here at) (λ apart. same_slot pages after at.page (λ ge. page_apart at.page apart) (same_columns_in (header_on pages at.page).entry) at.slot) i;
    older = λ at. by_page at.page free_older ((area_of after).older at) ((area_of pages).older at)
        (older_here at) (λ apart. same_older pages after at.page (λ ge. page_apart at.page apart) (same_columns_in (header_on pages at.page).entry) at.slot) i;
  }
