use Rattle.std.proofs.Common.{◌+◌, ◌*◌, ◌/◌, ◌%◌, [], ◌∷◌, refl, ◌∙◌, ap, arith}
use Rattle.ctr_area.specs.Reading.{area_of}
use Rattle.ctr_area.proofs.InEntry.{state_written}
use Rattle.ctr_record_effects.specs.States.{pages_in}
use Rattle.ctr_record_effects.specs.Changing.{uncreate_record}
use Rattle.ctr_record_effects.proofs.Laid.{bytes_laid}
use Rattle.ctr_record_effects.proofs.catalog.an_uncreate_changes_its_title.Goals as goal

pub returns : goal.returns
returns c = λ s e whole few used.
    ap area_of (bytes_laid s (uncreate_record e) (1 + e / 16) (256 * (e % 16) + 0) (2 ∷ []) refl whole)
    ∙ state_written (pages_in s) e few (omega (arith, whole)) 2 (λ is. omega (arith, is)) used
