-- A slot or a version entry that a record lays passes, read by the area that the record leaves: the columns of the table are
-- those of before.
use Rattle.std.proofs.Common.{◌≡◌, ℕ, ◌+◌, ◌*◌, ◌/◌, ◌%◌, ◌≤◌, cond, List, [], sym, ◌∙◌, ap, subst, arith}
use Rattle.std.specs.Prelude.{nat_lt}
use Rattle.ctr_actions.proofs.versions_Keys.{known}
use Rattle.ctr_types.specs.declared.value.Kind.{Kind}
use Rattle.ctr_actions.specs.rec_Record.{Record}
use Rattle.ctr_actions.specs.ctr_redo.States.{State, step}
use Rattle.ctr_actions.specs.page_Place.{Place}
use Rattle.ctr_actions.specs.page_RowSlot.{RowSlot}
use Rattle.ctr_actions.specs.page_VersionEntry.{VersionEntry}
use Rattle.ctr_actions.specs.page_Places.{start_of}
use Rattle.ctr_actions.specs.page_Reading.{piece, put_over}
use Rattle.ctr_actions.specs.page_Columns.{kinds_of, columns_in, slot_start, kept_start}
use Rattle.ctr_actions.specs.page_Damage.{slot_check, kept_check}
use Rattle.ctr_actions.specs.page_Making.{slot_bytes, kept_bytes}
use Rattle.ctr_actions.specs.area_Reading.{entry_bytes}
use Rattle.ctr_actions.specs.area_Checked.{Passes, kinds_at}
use Rattle.ctr_actions.proofs.area_Places.{below}
use Rattle.ctr_actions.proofs.area_Written.{catalog_page}
use Rattle.ctr_actions.specs.ctr_record_effects.States.{pages_in, area_in}
use Rattle.ctr_actions.proofs.record_effects_Laid.{bytes_laid}
use Rattle.ctr_passed.specs.Laid.{width_in, slot_size_in, older_size_in, SlotPassesIn, OlderPassesIn}
use Rattle.ctr_passed.specs.Logged.{LaysAtPlace, LaysSlot, LaysOlder}
use Rattle.ctr_passed.proofs.Apart.{place_lies, page_there}
use Rattle.ctr_passed.proofs.Slots.{slot_passes, older_passes}

module _ (s : State) (r : Record) (at : Place) (size : ℕ) (bytes : List ℕ) (laid : LaysAtPlace r at size bytes s) where
  there : pages_in (step r s) at.page ≡ put_over (start_of size at.slot) bytes (pages_in s at.page)
  there =
      ap (λ (f : ℕ → List ℕ). f at.page) (bytes_laid s r at.page (start_of size at.slot) bytes laid.lays laid.whole)
      ∙ page_there at.page (put_over (start_of size at.slot) bytes (pages_in s at.page)) (pages_in s)

  module _ (third : 3 ≤ at.page) where
    same_entry : (e : ℕ) → entry_bytes (pages_in (step r s)) e ≡ entry_bytes (pages_in s) e
    same_entry e = known (nat_lt e 32)
        (λ lt. ap (λ bs. cond (nat_lt e 32) (piece (256 * (e % 16)) 256 bs) []) ((place_lies s r at size bytes laid).pages (1 + e / 16) (λ is. omega (arith, catalog_page e (below e 32 lt), third, is))))
        (λ ge. ap (λ b. cond b (piece (256 * (e % 16)) 256 (pages_in (step r s) (1 + e / 16))) []) ge ∙ sym (ap (λ b. cond b (piece (256 * (e % 16)) 256 (pages_in s (1 + e / 16))) []) ge))

    same_kinds : (e : ℕ) → kinds_at (area_in (step r s)) e ≡ kinds_at (area_in s) e
    same_kinds e = ap (λ (bs : List ℕ). kinds_of (columns_in bs)) (same_entry e)

  fits : start_of size at.slot ≤ 4096
  fits = laid.inside

pub slot_laid_passes : (s : State) (r : Record) (e : ℕ) (at : Place) (slot : RowSlot) → LaysSlot r e at slot s → SlotPassesIn s.counted (area_in (step r s)) (pages_in (step r s)) e at
slot_laid_passes s r e at slot lays =
    let bytes = slot_bytes (width_in (area_in s) e) slot in
    let size = slot_size_in (area_in s) e in
    let inside = fits s r at size bytes lays.laid in
    subst (λ (ks : List Kind). Passes (slot_check ks s.counted (slot_start ks at.slot) (pages_in (step r s) at.page))) (sym (same_kinds s r at size bytes lays.laid lays.behind_catalog e))
    (subst (λ (bs : List ℕ). Passes (slot_check (kinds_at (area_in s) e) s.counted (slot_start (kinds_at (area_in s) e) at.slot) bs)) (sym (there s r at size bytes lays.laid))
    (slot_passes ((area_in s).title e).columns s.counted (start_of size at.slot) (pages_in s at.page) (omega (arith, inside, lays.laid.whole)) slot lays.made))

pub older_laid_passes : (s : State) (r : Record) (e : ℕ) (at : Place) (older : VersionEntry) → LaysOlder r e at older s → OlderPassesIn s.counted (area_in (step r s)) (pages_in (step r s)) e at
older_laid_passes s r e at older lays =
    let bytes = kept_bytes older in
    let size = older_size_in (area_in s) e in
    let inside = fits s r at size bytes lays.laid in
    subst (λ (ks : List Kind). Passes (kept_check ks s.counted (kept_start ks at.slot) (pages_in (step r s) at.page))) (sym (same_kinds s r at size bytes lays.laid lays.behind_catalog e))
    (subst (λ (bs : List ℕ). Passes (kept_check (kinds_at (area_in s) e) s.counted (kept_start (kinds_at (area_in s) e) at.slot) bs)) (sym (there s r at size bytes lays.laid))
    (older_passes ((area_in s).title e).columns s.counted (start_of size at.slot) (pages_in s at.page) (omega (arith, inside, lays.laid.whole)) older lays.made))
