use Rattle.std.proofs.Common.{◌+◌, ◌*◌, ◌/◌, ◌%◌, refl, sym, subst, arith}
use Rattle.ctr_area.specs.ctr_page.Columns.{new_entry_bytes}
use Rattle.ctr_area.specs.Reading.{area_of}
use Rattle.ctr_area.specs.Changes.{new_title, empty_chains, ChangesEntry}
use Rattle.ctr_area.proofs.Made.{new_entry_made}
use Rattle.ctr_record_effects.specs.States.{pages_in, area_in}
use Rattle.ctr_record_effects.specs.Changing.{create_record}
use Rattle.ctr_record_effects.proofs.Laid.{bytes_laid}
use Rattle.ctr_record_effects.proofs.catalog.a_new_table_has_its_entry.Goals as goal

pub returns : goal.returns
returns c = λ s x e name columns whole few drawn short fits.
    subst (λ pages. ChangesEntry e (new_title x name columns) empty_chains (area_in s) (area_of pages))
    (sym (bytes_laid s (create_record x e name columns) (1 + e / 16) (256 * (e % 16)) (new_entry_bytes x name columns) refl whole))
    (new_entry_made x name columns drawn short fits (pages_in s) e few (omega (arith, whole)))
