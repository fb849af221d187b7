use Rattle.std.proofs.Common.{refl, ◌∙◌, ap}
use Rattle.ctr_area.specs.ctr_page.Making.{header_bytes}
use Rattle.ctr_area.specs.Reading.{area_of}
use Rattle.ctr_area.proofs.Cleared.{page_cleared}
use Rattle.ctr_record_effects.specs.States.{pages_in}
use Rattle.ctr_record_effects.specs.Changing.{format_record}
use Rattle.ctr_record_effects.proofs.Laid.{clear_laid}
use Rattle.ctr_record_effects.proofs.pages.a_format_clears_its_page.Goals as goal

pub returns : goal.returns
returns c = λ s x p h whole third fits.
    ap area_of (clear_laid s (format_record x p h) p (header_bytes h) refl whole)
    ∙ page_cleared (pages_in s) p h third fits
