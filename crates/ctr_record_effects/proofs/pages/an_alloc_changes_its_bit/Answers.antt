use Rattle.std.proofs.Common.{◌/◌, true, [], ◌∷◌, refl, ◌∙◌, ap, arith}
use Rattle.ctr_area.specs.Reading.{area_of}
use Rattle.ctr_area.proofs.Marked.{bit_written}
use Rattle.ctr_record_effects.specs.States.{pages_in}
use Rattle.ctr_record_effects.specs.Changing.{alloc_record}
use Rattle.ctr_record_effects.proofs.Laid.{bytes_laid}
use Rattle.ctr_record_effects.proofs.pages.an_alloc_changes_its_bit.Goals as goal

pub returns : goal.returns
returns c = λ s x p byte whole few set.
    ap area_of (bytes_laid s (alloc_record x p byte) 0 (p / 8) (byte ∷ []) refl whole)
    ∙ bit_written (pages_in s) p byte true (omega (arith, whole, few)) set
