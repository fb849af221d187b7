use Rattle.std.proofs.Common.{◌≡◌, ◌∙◌, ap, arith}
use Rattle.ctr_page.specs.Columns.{kinds_width}
use Rattle.ctr_page.specs.Places.{slot_size}
use Rattle.ctr_walk.specs.Tables.{kinds_said}
use Rattle.ctr_pvs.specs.Reading.{lies_check}
use Rattle.ctr_pvs.proofs.Told.{lies_inside, lies_of_slot, slot_small}
use Rattle.ctr_pvs.proofs.slot.row_width_in.Goals as goal

pub returns-in-Ok-clause-said : goal.returns-in-Ok-clause-said
returns-in-Ok-clause-said c = (c.in-Ok.ensures.said.0, c.kinds_width.ensures.value ∙ ap kinds_width c.kinds.ensures.value)

pub returns-in-Ok-clause-fits : goal.returns-in-Ok-clause-fits
returns-in-Ok-clause-fits c =
    let t = c.args.table.now in
    let w = c.kinds_width.result in
    let wide : w ≡ kinds_width (kinds_said t) = c.kinds_width.ensures.value ∙ ap kinds_width c.kinds.ensures.value in
    let narrow = c.kinds_width.ensures.small in
    let few = c.kinds.ensures.few in
    let small = slot_small w (omega (arith, narrow, few)) in (
      omega (arith, narrow, few),
      lies_inside (slot_size w) c.args.number (omega arith) (omega (arith, small))
          (ap (λ v. lies_check (slot_size v) c.args.number) wide ∙ lies_of_slot c.args.counted t.entry (kinds_said t) c.args.number c.args.page.now c.in-Ok.ensures.said.0),
    )
