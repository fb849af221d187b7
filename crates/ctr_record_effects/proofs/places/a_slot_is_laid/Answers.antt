use Rattle.std.proofs.Common.{◌∙◌, ap}
use Rattle.ctr_area.specs.ctr_page.Making.{slot_bytes}
use Rattle.ctr_area.specs.Reading.{width_on, area_of}
use Rattle.ctr_area.proofs.Placed.{slot_placed}
use Rattle.ctr_record_effects.specs.States.{pages_in}
use Rattle.ctr_record_effects.proofs.Placing.{slot_over}
use Rattle.ctr_record_effects.proofs.places.a_slot_is_laid.Goals as goal

pub returns : goal.returns
returns c = λ s r at slot whole is fits lays.
    ap area_of (slot_over s r at (slot_bytes (width_on (pages_in s) at.page) slot) whole is lays)
    ∙ slot_placed (pages_in s) at slot is fits
