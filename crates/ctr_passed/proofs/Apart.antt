-- Bytes that are put over those of a page, and what they leave: other pages, and what they don't meet on their own.
use Rattle.std.proofs.Common.{◌≡◌, ◌≢◌, ⊎_elim, ℕ, zero, suc, ◌+◌, ◌*◌, ◌/◌, ◌%◌, ◌<◌, ◌≤◌, false, cond, List, [], ◌∷◌, length, refl, sym, ◌∙◌, ap, subst, arith}
use Rattle.std.proofs.lemmas.Bool.{eq-eqb, ne_eqb, cases_lt, cases_eq}
use Rattle.ctr_bytes.specs.Fields.{field}
use Rattle.ctr_actions.specs.rec_Record.{Record}
use Rattle.ctr_actions.specs.ctr_redo.Overlaid.{touches, changed_by}
use Rattle.ctr_actions.specs.ctr_redo.States.{State, pages_after, step, page_at}
use Rattle.ctr_actions.specs.page_Place.{Place}
use Rattle.ctr_actions.specs.page_Places.{start_of}
use Rattle.ctr_actions.specs.page_Reading.{put_over}
use Rattle.ctr_actions.specs.area_Changes.{with_page, with_in_entry}
use Rattle.ctr_actions.proofs.area_Bytes.{field_before}
use Rattle.ctr_actions.proofs.area_InEntry.{drop_put, field_behind}
use Rattle.ctr_actions.proofs.area_Places.{apart_rows}
use Rattle.ctr_actions.proofs.area_Written.{catalog_page}
use Rattle.ctr_actions.specs.ctr_record_effects.States.{pages_in, IsWholePage}
use Rattle.ctr_actions.specs.ctr_record_effects.Changing.{laid_in_entry, Lays}
use Rattle.ctr_actions.proofs.record_effects_Laid.{bytes_laid}
use Rattle.ctr_passed.specs.Laid.{SayTheSame, LiesOnMap, LiesOnOnePage, LiesInEntry, LiesAtPlace}
use Rattle.ctr_passed.specs.Logged.{LaysAtPlace}

-- ---- on their own page

module _ (at : ℕ) (bytes old : List ℕ) (fits : at ≤ length old) where
  pub before_put : (from size : ℕ) → from + size ≤ at → SayTheSame from size old (put_over at bytes old)
  before_put from size before = λ n k ge le. field_before k n at bytes old (omega (arith, before, le)) fits

  pub behind_put : (from size : ℕ) → at + length bytes ≤ from → SayTheSame from size old (put_over at bytes old)
  behind_put from size behind = λ n k ge le. field_behind (at + length bytes) (put_over at bytes old) old (drop_put (at + length bytes) at bytes old (omega arith) fits) n k (omega (arith, behind, ge))

-- ---- pages with another one

pub page_there : (p : ℕ) (bytes : List ℕ) (pages : ℕ → List ℕ) → with_page p bytes pages p ≡ bytes
page_there p bytes pages = ap (λ b. cond b bytes (pages p)) (eq-eqb p p refl)

pub page_elsewhere : (p : ℕ) (bytes : List ℕ) (pages : ℕ → List ℕ) → LiesOnOnePage p pages (with_page p bytes pages)
page_elsewhere p bytes pages = λ q apart. ap (λ b. cond b bytes (pages q)) (ne_eqb q p apart)

pub on_map : (bytes : List ℕ) (pages : ℕ → List ℕ) → LiesOnMap pages (with_page 0 bytes pages)
on_map bytes pages = λ q some. page_elsewhere 0 bytes pages q (λ is. omega (arith, some, is))

-- ---- in an entry of the catalog

module _ (e at : ℕ) (bytes : List ℕ) (pages : ℕ → List ℕ) (few : e < 32) (inside : at + length bytes ≤ 256) (whole : 256 * (e % 16) + 256 ≤ length (pages (1 + e / 16))) where
  abbrev home : ℕ
  home = 1 + e / 16

  abbrev put : List ℕ
  put = put_over (256 * (e % 16) + at) bytes (pages home)

  other_row : (f : ℕ) → f ≢ e → 1 + f / 16 ≡ home → SayTheSame (256 * (f % 16)) 256 (pages home) put
  other_row f isnt same = ⊎_elim
      (λ lt. before_put (256 * (e % 16) + at) bytes (pages home) (omega (arith, inside, whole)) (256 * (f % 16)) 256 (omega (arith, lt)))
      (λ ge. behind_put (256 * (e % 16) + at) bytes (pages home) (omega (arith, inside, whole)) (256 * (f % 16)) 256 (beyond (apart ge)))
      (cases_lt (f % 16) (e % 16))
    where
      apart : e % 16 ≤ f % 16 → e % 16 < f % 16
      apart ge = ⊎_elim (λ lt. lt) (λ le. absurd (isnt (omega (arith, ge, le, same)))) (cases_lt (e % 16) (f % 16))

      beyond : e % 16 < f % 16 → 256 * (e % 16) + at + length bytes ≤ 256 * (f % 16)
      beyond lt = omega (arith, lt, inside)

  pub in_entry : LiesInEntry e pages (with_in_entry e at bytes pages)
  in_entry = record {
    pages = λ q ge. page_elsewhere home put pages q (λ is. omega (arith, ge, is, catalog_page e few));
    others = λ f lt isnt. ⊎_elim
        (λ same. subst (λ (p : ℕ). SayTheSame (256 * (f % 16)) 256 (pages p) (with_in_entry e at bytes pages p)) (sym same)
        (subst (λ (bs : List ℕ). SayTheSame (256 * (f % 16)) 256 (pages home) bs) (sym (page_there home put pages)) (other_row f isnt same)))
        (λ off n k ge le. ap (field n k) (page_elsewhere home put pages (1 + f / 16) off))
        (cases_eq (1 + f / 16) home);
  }

-- a record that is laid in an entry
pub entry_lies : (s : State) (r : Record) (e at : ℕ) (bytes : List ℕ) → Lays r (laid_in_entry e at bytes) → IsWholePage (1 + e / 16) s → e < 32 → at + length bytes ≤ 256 → LiesInEntry e (pages_in s) (pages_in (step r s))
entry_lies s r e at bytes lays whole few inside =
    subst (LiesInEntry e (pages_in s)) (sym (bytes_laid s r (1 + e / 16) (256 * (e % 16) + at) bytes lays whole))
    (in_entry e at bytes (pages_in s) few inside (omega (arith, whole)))

-- ---- at a place

module _ (at : Place) (size : ℕ) (bytes : List ℕ) (pages : ℕ → List ℕ) (short : length bytes ≤ size) (fits : start_of size at.slot ≤ length (pages at.page)) where
  abbrev laid : List ℕ
  laid = put_over (start_of size at.slot) bytes (pages at.page)

  other_place : (n : ℕ) → n ≢ at.slot → SayTheSame (start_of size n) size (pages at.page) laid
  other_place n isnt = ⊎_elim
      (λ lt. before_put (start_of size at.slot) bytes (pages at.page) fits (start_of size n) size (apart_rows n at.slot size lt))
      (λ ge. behind_put (start_of size at.slot) bytes (pages at.page) fits (start_of size n) size
      (omega (arith, short, apart_rows at.slot n size (⊎_elim (λ lt. lt) (λ le. absurd (isnt (omega (arith, ge, le)))) (cases_lt at.slot n)))))
      (cases_lt n at.slot)

  pub at_place : LiesAtPlace at size pages (with_page at.page laid pages)
  at_place = record {
    pages = page_elsewhere at.page laid pages;
    header = subst (λ (bs : List ℕ). SayTheSame 0 16 (pages at.page) bs) (sym (page_there at.page laid pages)) (before_put (start_of size at.slot) bytes (pages at.page) fits 0 16 (omega arith));
    others = λ n isnt. subst (λ (bs : List ℕ). SayTheSame (start_of size n) size (pages at.page) bs) (sym (page_there at.page laid pages)) (other_place n isnt);
  }

-- a record that is laid over what stands at a place
pub place_lies : (s : State) (r : Record) (at : Place) (size : ℕ) (bytes : List ℕ) → LaysAtPlace r at size bytes s → LiesAtPlace at size (pages_in s) (pages_in (step r s))
place_lies s r at size bytes laid =
    let inside = laid.inside in
    subst (LiesAtPlace at size (pages_in s)) (sym (bytes_laid s r at.page (start_of size at.slot) bytes laid.lays laid.whole))
    (at_place at size bytes (pages_in s) laid.short (omega (arith, laid.whole, inside)))

-- ---- a page stays behind a record that isn't on it

after_apart : (k q : ℕ) (r : Record) (ps : List (List ℕ)) → touches r (k + q) ≡ false → page_at q (pages_after k r ps) ≡ page_at q ps
after_apart k q r [] off = refl
after_apart k zero r (b ∷ bs) off =
    let same : k + 0 ≡ k = omega arith in
    ap (λ (c : _). cond c (changed_by r b) b) (ap (touches r) (sym same) ∙ off)
after_apart k (suc q) r (b ∷ bs) off =
    let same : k + suc q ≡ k + 1 + q = omega arith in
    after_apart (k + 1) q r bs (ap (touches r) (sym same) ∙ off)

pub page_apart : (s : State) (r : Record) (p : ℕ) → touches r p ≡ false → pages_in (step r s) p ≡ pages_in s p
page_apart s r p off = let same : 0 + p ≡ p = omega arith in after_apart 0 p r s.pages (ap (touches r) same ∙ off)
