-- What stands at a place, laid over it by a record.
use Rattle.std.proofs.Common.{◌≡◌, cond, sym, ◌∙◌, ap, ℕ, List}
use Rattle.std.proofs.lemmas.Bool.{eq-eqb}
use Rattle.ctr_redo.specs.rec_Record.{Record}
use Rattle.ctr_redo.specs.States.{State, step}
use Rattle.ctr_area.specs.ctr_page.declared.rows.Place.{Place}
use Rattle.ctr_area.specs.ctr_page.Places.{slot_size, kept_size, start_of}
use Rattle.ctr_area.specs.Reading.{header_on, width_on, size_on}
use Rattle.ctr_area.specs.Changes.{with_bytes_at, with_page, IsPlaceOf}
use Rattle.ctr_area.proofs.Written.{one_of_two}
use Rattle.ctr_area.specs.ctr_page.Reading.{put_over}
use Rattle.ctr_record_effects.specs.States.{pages_in, IsWholePage}
use Rattle.ctr_record_effects.specs.Changing.{laid_on_place, Lays}
use Rattle.ctr_record_effects.proofs.Laid.{bytes_laid}

module _ (s : State) (r : Record) (at : Place) (bytes : List ℕ) (whole : IsWholePage at.page s) where
  abbrev size_here : ℕ
  size_here = size_on (pages_in s) at.page

  by_size : (size : ℕ) → size ≡ size_here → Lays r (laid_on_place at size bytes) → pages_in (step r s) ≡ with_bytes_at at bytes (pages_in s)
  by_size size same lays =
      bytes_laid s r at.page (start_of size at.slot) bytes lays whole
      ∙ ap (λ n. with_page at.page (put_over (start_of n at.slot) bytes (pages_in s at.page)) (pages_in s)) same

  pub slot_over : IsPlaceOf 1 (pages_in s) at → Lays r (laid_on_place at (slot_size (width_on (pages_in s) at.page)) bytes) → pages_in (step r s) ≡ with_bytes_at at bytes (pages_in s)
  slot_over is lays =
      let w = width_on (pages_in s) at.page in
      by_size (slot_size w) (sym (ap (λ b. cond b (slot_size w) (kept_size w)) (eq-eqb (header_on (pages_in s) at.page).kind 1 is.of_kind))) lays

  pub older_over : IsPlaceOf 2 (pages_in s) at → Lays r (laid_on_place at (kept_size (width_on (pages_in s) at.page)) bytes) → pages_in (step r s) ≡ with_bytes_at at bytes (pages_in s)
  older_over is lays =
      let w = width_on (pages_in s) at.page in
      by_size (kept_size w) (sym (ap (λ b. cond b (slot_size w) (kept_size w)) (one_of_two (header_on (pages_in s) at.page).kind is.of_kind))) lays
