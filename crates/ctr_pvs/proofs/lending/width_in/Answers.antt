use Rattle.std.proofs.Common.{◌≡◌, ◌∙◌, ap, arith}
use Rattle.ctr_page.specs.Columns.{kinds_width}
use Rattle.ctr_page.specs.Places.{kept_size}
use Rattle.ctr_walk.specs.Tables.{kinds_said}
use Rattle.ctr_pvs.specs.Reading.{lies_check}
use Rattle.ctr_pvs.proofs.Told.{lies_inside, lies_of_entry}
use Rattle.ctr_pvs.proofs.lending.width_in.Goals as goal

pub returns-in-Ok-clause-said : goal.returns-in-Ok-clause-said
returns-in-Ok-clause-said c = (c.in-Ok.ensures.said.0, c.kinds_width.ensures.value ∙ ap kinds_width c.kinds.ensures.value)

pub returns-in-Ok-clause-fits : goal.returns-in-Ok-clause-fits
returns-in-Ok-clause-fits c =
    let t = c.args.table.now in
    let wide : c.kinds_width.result ≡ kinds_width (kinds_said t) = c.kinds_width.ensures.value ∙ ap kinds_width c.kinds.ensures.value in
    let small = c.kinds_width.ensures.small in
    let few = c.kinds.ensures.few in (
      omega (arith, small, few),
      lies_inside (kept_size c.kinds_width.result) c.args.number (omega arith) (omega (arith, small, few))
          (ap (λ v. lies_check (kept_size v) c.args.number) wide ∙ lies_of_entry c.args.counted t.entry (kinds_said t) c.args.number c.args.page.now c.in-Ok.ensures.said.0),
    )
