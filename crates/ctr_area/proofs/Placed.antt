-- A slot or a version entry, as it is made, over its place.
use Rattle.std.proofs.Common.{◌≡◌, ℕ, List, cond, sym, ◌∙◌, ap, arith}
use Rattle.std.proofs.lemmas.Bool.{eq-eqb}
use Rattle.ctr_page.proofs.ctr_rec.Laws.{begins_whole}
use Rattle.ctr_page.specs.declared.rows.Place.{Place}
use Rattle.ctr_page.specs.declared.rows.RowSlot.{RowSlot}
use Rattle.ctr_page.specs.declared.rows.VersionEntry.{VersionEntry}
use Rattle.ctr_page.specs.Places.{slot_size, kept_size}
use Rattle.ctr_page.specs.Making.{slot_bytes, kept_bytes, IsSlot, IsEntry}
use Rattle.ctr_page.proofs.Back.{slot_back, kept_back, length-slot, length-kept}
use Rattle.ctr_area.specs.Reading.{slot_said, older_said, header_on, columns_on, width_on, size_on, area_of}
use Rattle.ctr_area.specs.Changes.{with_slot, with_older, with_bytes_at, IsPlaceOf}
use Rattle.ctr_area.proofs.Written.{slot_written, older_written, one_of_two}

pub slot_placed : (pages : ℕ → List ℕ) (at : Place) (s : RowSlot) → IsPlaceOf 1 pages at → IsSlot (width_on pages at.page) s
    → area_of (with_bytes_at at (slot_bytes (width_on pages at.page) s) pages) ≡ with_slot at (slot_said (columns_on pages at.page) s) (area_of pages)
slot_placed pages at s is fits =
    let w = width_on pages at.page in
    let new = slot_bytes w s in
    let size : size_on pages at.page ≡ slot_size w = ap (λ b. cond b (slot_size w) (kept_size w)) (eq-eqb (header_on pages at.page).kind 1 is.of_kind) in
    slot_written pages at new is.behind_catalog (length-slot w s fits ∙ sym size) (omega (arith, is.inside)) is.of_kind
    ∙ ap (λ (x : RowSlot). with_slot at (slot_said (columns_on pages at.page) x) (area_of pages)) (slot_back w s new fits (begins_whole new))

pub older_placed : (pages : ℕ → List ℕ) (at : Place) (e : VersionEntry) → IsPlaceOf 2 pages at → IsEntry (width_on pages at.page) e
    → area_of (with_bytes_at at (kept_bytes e) pages) ≡ with_older at (older_said (columns_on pages at.page) e) (area_of pages)
older_placed pages at e is fits =
    let w = width_on pages at.page in
    let new = kept_bytes e in
    let size : size_on pages at.page ≡ kept_size w = ap (λ b. cond b (slot_size w) (kept_size w)) (one_of_two (header_on pages at.page).kind is.of_kind) in
    older_written pages at new is.behind_catalog (length-kept w e fits ∙ sym size) (omega (arith, is.inside)) is.of_kind
    ∙ ap (λ (x : VersionEntry). with_older at (older_said (columns_on pages at.page) x) (area_of pages)) (kept_back w e new fits (begins_whole new))
