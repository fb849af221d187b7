use Rattle.std.proofs.Common.{◌+◌, ◌*◌, ◌/◌, ◌%◌, refl, ◌∙◌, ap, arith}
use Rattle.ctr_area.specs.ctr_bytes.Fields.{spelled}
use Rattle.ctr_area.specs.Reading.{area_of}
use Rattle.ctr_area.proofs.InEntry.{dropper_written}
use Rattle.ctr_record_effects.specs.States.{pages_in}
use Rattle.ctr_record_effects.specs.Changing.{undrop_record}
use Rattle.ctr_record_effects.proofs.Laid.{bytes_laid}
use Rattle.ctr_record_effects.proofs.catalog.an_undrop_changes_its_title.Goals as goal

pub returns : goal.returns
returns c = λ s e whole few.
    ap area_of (bytes_laid s (undrop_record e) (1 + e / 16) (256 * (e % 16) + 9) (spelled 8 0) refl whole)
    ∙ dropper_written (pages_in s) e few (omega (arith, whole)) 0 (omega arith)
