-- What stands behind the catalog is read by its own bytes, and by the columns of the catalog: where both
-- are as before, all is as before.
use Rattle.std.proofs.Common.{◌≡◌, ℕ, true, false, cond, List, drop, sym, ◌∙◌, ap}
use Rattle.std.specs.Prelude.{◌==◌, nat_lt}
use Rattle.ctr_page.specs.types_Column.{Column}
use Rattle.ctr_versions.proofs.Keys.{known}
use Rattle.ctr_page.specs.ctr_value.Payload.{width}
use Rattle.ctr_page.specs.declared.header.Header.{Header}
use Rattle.ctr_page.specs.declared.rows.Place.{Place}
use Rattle.ctr_page.specs.Places.{slot_size, kept_size, start_of}
use Rattle.ctr_page.specs.Reading.{piece, header_in, slot_in, older_in, slot_at, older_at}
use Rattle.ctr_page.specs.Columns.{columns_in}
use Rattle.ctr_area.specs.Areas.{free_slot, free_older}
use Rattle.ctr_area.specs.Reading.{entry_bytes, slot_said, older_said, no_header, header_on, columns_on, width_on, size_of_kind, size_on, area_of}

-- on the pages 0, 1 and 2 there is no slot and no version entry
pub no_slot : (pages : ℕ → List ℕ) (q : Place) → nat_lt q.page 3 ≡ true → (area_of pages).slot q ≡ free_slot
no_slot pages q low = ap (λ b. cond ((cond b no_header (header_in (pages q.page))).kind == 1) (slot_said (columns_on pages q.page) (slot_at (width_on pages q.page) q.slot (pages q.page))) free_slot) low

pub no_older : (pages : ℕ → List ℕ) (q : Place) → nat_lt q.page 3 ≡ true → (area_of pages).older q ≡ free_older
no_older pages q low = ap (λ b. cond ((cond b no_header (header_in (pages q.page))).kind == 2) (older_said (columns_on pages q.page) (older_at (width_on pages q.page) q.slot (pages q.page))) free_older) low

-- a page whose bytes are those of before, unless it is one of these
module _ (old new : ℕ → List ℕ) (q : ℕ) (behind : nat_lt q 3 ≡ false → new q ≡ old q) where
  pub same_header : header_on new q ≡ header_on old q
  same_header = known (nat_lt q 3)
      (λ lt. ap (λ b. cond b no_header (header_in (new q))) lt ∙ sym (ap (λ b. cond b no_header (header_in (old q))) lt))
      (λ ge. ap (λ bytes. cond (nat_lt q 3) no_header (header_in bytes)) (behind ge))

  -- and whose table has the columns of before
  module _ (columns : columns_in (entry_bytes new (header_on old q).entry) ≡ columns_in (entry_bytes old (header_on old q).entry)) where
    pub same_columns : columns_on new q ≡ columns_on old q
    same_columns = ap (λ (h : Header). columns_in (entry_bytes new h.entry)) same_header ∙ columns

    pub same_width : width_on new q ≡ width_on old q
    same_width = ap (λ (cs : List Column). width (drop 1 cs)) same_columns

    pub same_size : size_on new q ≡ size_on old q
    same_size = λ i. size_of_kind ((same_header i).kind == 1) (same_width i)

    pub same_slot : (n : ℕ) → (area_of new).slot (record { page = q; slot = n }) ≡ (area_of old).slot (record { page = q; slot = n })
    same_slot n = known (nat_lt q 3)
        (λ low. no_slot new (record { page = q; slot = n }) low ∙ sym (no_slot old (record { page = q; slot = n }) low))
        (λ ge. λ i. cond ((same_header i).kind == 1)
        (slot_said (same_columns i) (slot_in (same_width i) (piece (start_of (slot_size (same_width i)) n) (slot_size (same_width i)) (behind ge i)))) free_slot)

    pub same_older : (n : ℕ) → (area_of new).older (record { page = q; slot = n }) ≡ (area_of old).older (record { page = q; slot = n })
    same_older n = known (nat_lt q 3)
        (λ low. no_older new (record { page = q; slot = n }) low ∙ sym (no_older old (record { page = q; slot = n }) low))
        (λ ge. λ i. cond ((same_header i).kind == 2)
        (older_said (same_columns i) (older_in (same_width i) (piece (start_of (kept_size (same_width i)) n) (kept_size (same_width i)) (behind ge i)))) free_older)
