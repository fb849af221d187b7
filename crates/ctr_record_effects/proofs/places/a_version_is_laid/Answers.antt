use Rattle.std.proofs.Common.{◌∙◌, ap}
use Rattle.ctr_area.specs.ctr_page.Making.{kept_bytes}
use Rattle.ctr_area.specs.Reading.{area_of}
use Rattle.ctr_area.proofs.Placed.{older_placed}
use Rattle.ctr_record_effects.specs.States.{pages_in}
use Rattle.ctr_record_effects.proofs.Placing.{older_over}
use Rattle.ctr_record_effects.proofs.places.a_version_is_laid.Goals as goal

pub returns : goal.returns
returns c = λ s r at older whole is fits lays.
    ap area_of (older_over s r at (kept_bytes older) whole is lays)
    ∙ older_placed (pages_in s) at older is fits
