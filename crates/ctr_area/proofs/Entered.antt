-- An entry of the catalog is written over: in the area its title and its first pages change. Where the
-- columns are the same, nothing else does.
use Rattle.std.proofs.Common.{◌≡◌, ⊎_elim, ℕ, ◌+◌, ◌*◌, ◌/◌, ◌%◌, ◌<◌, ◌≤◌, false, cond, List, [], length, refl, sym, ◌∙◌, ap, subst, arith}
use Rattle.std.specs.Prelude.{◌==◌, nat_lt}
use Rattle.std.proofs.lemmas.Bool.{eqb-true, eqb-false, eq-eqb, ne_eqb, lt-ltb, ltb-false, cases_lt, cases_eq}
use Rattle.ctr_versions.proofs.Keys.{known}
use Rattle.ctr_page.specs.Places.{room_for}
use Rattle.ctr_page.specs.Reading.{piece, put_over}
use Rattle.ctr_page.specs.Columns.{entry_in, columns_in}
use Rattle.ctr_area.specs.Reading.{is_taken, entry_bytes, title_of, firsts_of, header_on, area_of}
use Rattle.ctr_area.specs.Changes.{with_title, with_firsts, with_entry, ChangesEntry}
use Rattle.ctr_area.proofs.Bytes.{piece_here, piece_before, piece_after}
use Rattle.ctr_area.proofs.Behind.{same_header, same_size, same_slot, same_older}
use Rattle.ctr_area.proofs.Written.{catalog_page}

module _ (pages : ℕ → List ℕ) (e : ℕ) (new : List ℕ) (few : e < 32) (long : length new ≡ 256) (fits : 256 * (e % 16) ≤ length (pages (1 + e / 16))) where
  abbrev place : ℕ
  place = 256 * (e % 16)

  abbrev home : ℕ
  home = 1 + e / 16

  abbrev after : ℕ → List ℕ
  after = with_entry e new pages

  page_here : after home ≡ put_over place new (pages home)
  page_here = ap (λ b. cond b (put_over place new (pages home)) (pages home)) (eq-eqb home home refl)

  page_apart : (q : ℕ) → (q ≡ home → ⊥) → after q ≡ pages q
  page_apart q apart = ap (λ b. cond b (put_over place new (pages home)) (pages q)) (ne_eqb q home apart)

  -- a page behind those of the catalog
  page_behind : (q : ℕ) → nat_lt q 3 ≡ false → after q ≡ pages q
  page_behind q ge = page_apart q (λ is. omega (arith, is, ltb-false q 3 ge, catalog_page e few))

  entry_here : entry_bytes after e ≡ new
  entry_here = ap (λ b. cond b (piece place 256 (after home)) []) (lt-ltb e 32 few) ∙ ap (piece place 256) page_here ∙ piece_here place 256 new (pages home) long fits

  -- another entry of the same page
  piece_beside : (m : ℕ) → (m ≡ e % 16 → ⊥) → piece (256 * m) 256 (put_over place new (pages home)) ≡ piece (256 * m) 256 (pages home)
  piece_beside m apart = ⊎_elim
      (λ lt. piece_before (256 * m) 256 place new (pages home) (omega (arith, lt)) fits)
      (λ le. piece_after (256 * m) 256 place new (pages home) (behind le) fits)
      (cases_lt m (e % 16))
    where
      behind : e % 16 ≤ m → place + length new ≤ 256 * m
      behind le = ⊎_elim (λ lt. omega (arith, long, lt)) (λ ge. absurd (apart (omega (arith, le, ge)))) (cases_lt (e % 16) m)

  piece_apart : (f : ℕ) → (f ≡ e → ⊥) → piece (256 * (f % 16)) 256 (after (1 + f / 16)) ≡ piece (256 * (f % 16)) 256 (pages (1 + f / 16))
  piece_apart f apart = ⊎_elim
      (λ is. subst (λ h. piece (256 * (f % 16)) 256 (after h) ≡ piece (256 * (f % 16)) 256 (pages h)) (sym is)
      (ap (piece (256 * (f % 16)) 256) page_here ∙ piece_beside (f % 16) (λ m. apart (omega (arith, is, m)))))
      (λ isnt. ap (piece (256 * (f % 16)) 256) (page_apart (1 + f / 16) isnt)) (cases_eq (1 + f / 16) home)

  entry_apart : (f : ℕ) → (f ≡ e → ⊥) → entry_bytes after f ≡ entry_bytes pages f
  entry_apart f apart = ap (λ bytes. cond (nat_lt f 32) bytes []) (piece_apart f apart)

  by_number : {A : Type 0} (f : ℕ) (x : A) (g old : ℕ → A) → g e ≡ x → ((f ≡ e → ⊥) → g f ≡ old f) → g f ≡ cond (f == e) x (old f)
  by_number f x g old there elsewhere = known (f == e)
      (λ is. ap g (eqb-true f e is) ∙ there ∙ sym (ap (λ b. cond b x (old f)) is))
      (λ isnt. elsewhere (eqb-false f e isnt) ∙ sym (ap (λ b. cond b x (old f)) isnt))

  -- the entries of before, but for this one
  titles_after : (f : ℕ) → (area_of after).title f ≡ (with_title e (title_of (entry_in new)) (area_of pages)).title f
  titles_after f = by_number f (title_of (entry_in new)) (area_of after).title (area_of pages).title (ap (λ bytes. title_of (entry_in bytes)) entry_here) (λ apart. ap (λ bytes. title_of (entry_in bytes)) (entry_apart f apart))

  firsts_after : (f : ℕ) → (area_of after).firsts f ≡ (with_firsts e (firsts_of (entry_in new)) (area_of pages)).firsts f
  firsts_after f = by_number f (firsts_of (entry_in new)) (area_of after).firsts (area_of pages).firsts (ap (λ bytes. firsts_of (entry_in bytes)) entry_here) (λ apart. ap (λ bytes. firsts_of (entry_in bytes)) (entry_apart f apart))

  taken_after : (p : ℕ) → (area_of after).taken p ≡ (area_of pages).taken p
  taken_after p = ap (is_taken p) (page_apart 0 (λ is. omega (arith, is)))

  -- by one with other columns: what stands on the pages of other entries stays
  pub entry_made : ChangesEntry e (title_of (entry_in new)) (firsts_of (entry_in new)) (area_of pages) (area_of after)
  entry_made = record {
    titles = titles_after;
    firsts = firsts_after;
    taken = taken_after;
    headers = λ p. same_header pages after p (page_behind p);
    rooms = λ p other. ap room_for (same_size pages after p (page_behind p) (ap columns_in (entry_apart (header_on pages p).entry other)));
    slots = λ at other. same_slot pages after at.page (page_behind at.page) (ap columns_in (entry_apart (header_on pages at.page).entry other)) at.slot;
    older = λ at other. same_older pages after at.page (page_behind at.page) (ap columns_in (entry_apart (header_on pages at.page).entry other)) at.slot;
  }

  -- by one with the same columns
  module _ (same : columns_in new ≡ columns_in (entry_bytes pages e)) where
    same_in_entry : (f : ℕ) → columns_in (entry_bytes after f) ≡ columns_in (entry_bytes pages f)
    same_in_entry f = ⊎_elim
        (λ is. subst (λ k. columns_in (entry_bytes after k) ≡ columns_in (entry_bytes pages k)) (sym is) (ap columns_in entry_here ∙ same))
        (λ apart. ap columns_in (entry_apart f apart)) (cases_eq f e)

    pub entry_written : area_of after ≡ with_firsts e (firsts_of (entry_in new)) (with_title e (title_of (entry_in new)) (area_of pages))
    entry_written = λ i. record {
      title = λ f. titles_after f i;
      firsts = λ f. firsts_after f i;
      taken = λ p. taken_after p i;
      header = λ q. same_header pages after q (page_behind q) i;
      room = λ q. room_for (same_size pages after q (page_behind q) (same_in_entry (header_on pages q).entry) i);
      slot = λ q. same_slot pages after q.page (page_behind q.page) (same_in_entry (header_on pages q.page).entry) q.slot i;
      older = λ q. same_older pages after q.page (page_behind q.page) (same_in_entry (header_on pages q.page).entry) q.slot i;
    }
