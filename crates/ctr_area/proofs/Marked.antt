-- A byte of page 0 in which one bit is set or cleared: one page is allocated, or free, and nothing else
-- changes.
use Rattle.std.proofs.Common.{◌≡◌, ⊎_elim, ℕ, ◌+◌, ◌*◌, ◌/◌, ◌%◌, ◌<◌, Bool, false, cond, List, [], ◌∷◌, length, slice_index, sym, ◌∙◌, ap, arith}
use Rattle.std.specs.Prelude.{◌==◌, nat_lt}
use Rattle.std.proofs.lemmas.Bool.{eqb-true, eqb-false, eq-eqb, ne_eqb, ltb-false, cases_eq}
use Rattle.ctr_versions.proofs.Keys.{known}
use Rattle.ctr_page.specs.Places.{room_for}
use Rattle.ctr_page.specs.Reading.{piece, put_over}
use Rattle.ctr_page.specs.Columns.{entry_in, columns_in}
use Rattle.ctr_area.specs.Reading.{has_bit, is_taken, entry_bytes, title_of, firsts_of, header_on, area_of}
use Rattle.ctr_area.specs.Changes.{with_taken, IsBitSet, with_byte_of}
use Rattle.ctr_area.proofs.Bytes.{byte_here, byte_apart}
use Rattle.ctr_area.proofs.Behind.{same_header, same_size, same_slot, same_older}

module _ (pages : ℕ → List ℕ) (p byte : ℕ) (taken : Bool) (inside : p / 8 < length (pages 0)) (set : IsBitSet (p % 8) taken (slice_index (pages 0) (p / 8)) byte) where
  abbrev after : ℕ → List ℕ
  after = with_byte_of p byte pages

  page_apart : (q : ℕ) → (q ≡ 0 → ⊥) → after q ≡ pages q
  page_apart q apart = ap (λ b. cond b (put_over (p / 8) (byte ∷ []) (pages 0)) (pages q)) (ne_eqb q 0 apart)

  page_behind : (q : ℕ) → nat_lt q 3 ≡ false → after q ≡ pages q
  page_behind q ge = page_apart q (λ is. omega (arith, is, ltb-false q 3 ge))

  same_entry : (e : ℕ) → entry_bytes after e ≡ entry_bytes pages e
  same_entry e = ap (λ bytes. cond (nat_lt e 32) (piece (256 * (e % 16)) 256 bytes) []) (page_apart (1 + e / 16) (λ is. omega (arith, is)))

  same_columns_in : (e : ℕ) → columns_in (entry_bytes after e) ≡ columns_in (entry_bytes pages e)
  same_columns_in e = ap columns_in (same_entry e)

  -- a page whose bit is in the same byte
  in_byte : (q : ℕ) → q / 8 ≡ p / 8 → is_taken q (after 0) ≡ cond (q == p) taken (is_taken q (pages 0))
  in_byte q is =
      ap (λ k. has_bit (q % 8) (slice_index (after 0) k)) is ∙ ap (has_bit (q % 8)) (byte_here (p / 8) byte (pages 0) (omega (arith, inside)))
      ∙ set (q % 8) (omega arith) ∙ known (q == p)
      (λ same. ap (λ b. cond b taken (has_bit (q % 8) (slice_index (pages 0) (p / 8)))) (eq-eqb (q % 8) (p % 8) (ap (λ n. n % 8) (eqb-true q p same)))
      ∙ sym (ap (λ b. cond b taken (is_taken q (pages 0))) same))
      (λ isnt. ap (λ b. cond b taken (has_bit (q % 8) (slice_index (pages 0) (p / 8)))) (ne_eqb (q % 8) (p % 8) (λ m. eqb-false q p isnt (omega (arith, is, m))))
      ∙ ap (λ k. has_bit (q % 8) (slice_index (pages 0) k)) (sym is) ∙ sym (ap (λ b. cond b taken (is_taken q (pages 0))) isnt))

  pub taken_after : (q : ℕ) → is_taken q (after 0) ≡ cond (q == p) taken (is_taken q (pages 0))
  taken_after q = ⊎_elim (in_byte q)
      (λ isnt. ap (has_bit (q % 8)) (byte_apart (q / 8) (p / 8) byte (pages 0) isnt (omega (arith, inside)))
      ∙ sym (ap (λ b. cond b taken (is_taken q (pages 0))) (ne_eqb q p (λ same. isnt (ap (λ n. n / 8) same)))))
      (cases_eq (q / 8) (p / 8))

  pub bit_written : area_of after ≡ with_taken p taken (area_of pages)
  bit_written = λ i. record {
    title = λ e. title_of (entry_in (same_entry e i));
    firsts = λ e. firsts_of (entry_in (same_entry e i));
    taken = λ q. taken_after q i;
    header = λ q. same_header pages after q (page_behind q) i;
    room = λ q. room_for (same_size pages after q (page_behind q) (same_columns_in (header_on pages q).entry) i);
    slot = λ q. same_slot pages after q.page (page_behind q.page) (same_columns_in (header_on pages q.page).entry) q.slot i;
    older = λ q. same_older pages after q.page (page_behind q.page) (same_columns_in (header_on pages q.page).entry) q.slot i;
  }
