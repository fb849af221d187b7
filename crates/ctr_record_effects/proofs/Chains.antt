-- A record that lays a page's number in an entry of the catalog: one of the entry's chains begins with it.
use Rattle.std.proofs.Common.{◌≡◌, ◌≢◌, ℕ, ◌+◌, ◌*◌, ◌/◌, ◌%◌, ◌^◌, ◌<◌, Some, ◌∙◌, ap, arith}
use Rattle.ctr_area.specs.ctr_bytes.Fields.{spelled}
use Rattle.ctr_redo.specs.rec_Record.{Record}
use Rattle.ctr_area.specs.ctr_page.Readable.{PartsHaveRoom}
use Rattle.ctr_redo.specs.Overlaid.{overlay_of}
use Rattle.ctr_redo.specs.States.{State, step}
use Rattle.ctr_area.specs.Reading.{entry_bytes, area_of}
use Rattle.ctr_area.specs.Changes.{with_firsts, with_bucket}
use Rattle.ctr_area.proofs.InEntry.{bucket_written, versions_written}
use Rattle.ctr_record_effects.specs.States.{area_in, pages_in, IsWholePage}
use Rattle.ctr_record_effects.specs.Changing.{laid_in_entry}
use Rattle.ctr_record_effects.proofs.Laid.{bytes_laid}

module _ (s : State) (r : Record) (e p : ℕ) (whole : IsWholePage (1 + e / 16) s) (few : e < 32) (small : p < 256 ^ 4) (used : ((area_in s).title e).state ≢ 0) (fit : PartsHaveRoom (entry_bytes (pages_in s) e)) where
  pub first_of_bucket : (b : ℕ) → b < 8 → overlay_of r ≡ Some (laid_in_entry e (179 + 4 * b) (spelled 4 p)) → area_in (step r s) ≡ with_firsts e (with_bucket b p ((area_in s).firsts e)) (area_in s)
  first_of_bucket b few_buckets lays =
      ap area_of (bytes_laid s r (1 + e / 16) (256 * (e % 16) + (179 + 4 * b)) (spelled 4 p) lays whole)
      ∙ bucket_written (pages_in s) e few (omega (arith, whole)) b p few_buckets small used fit

  pub first_of_versions : overlay_of r ≡ Some (laid_in_entry e 211 (spelled 4 p)) → area_in (step r s) ≡ with_firsts e (record ((area_in s).firsts e) { versions = p }) (area_in s)
  first_of_versions lays =
      ap area_of (bytes_laid s r (1 + e / 16) (256 * (e % 16) + 211) (spelled 4 p) lays whole)
      ∙ versions_written (pages_in s) e few (omega (arith, whole)) p small used fit
