use Rattle.std.proofs.Common.{◌∙◌, ap}
use Rattle.ctr_page.specs.Places.{slot_size}
use Rattle.ctr_page.specs.Reading.{slot_in}
use Rattle.ctr_page.proofs.Puts.{sliced}
use Rattle.ctr_page.proofs.rows.read_slot.Goals as goal

pub returns-clause-read : goal.returns-clause-read
returns-clause-read c =
    c.slot_in.ensures.read
    ∙ ap (slot_in c.args.w) (sliced c.args.slot c.start_of-start.result c.slot_size-size.result (slot_size c.args.w) c.args.page.now c.start_of-start.ensures c.slot_size-size.ensures.value)
