use Rattle.std.proofs.Common.{◌≡◌, ◌≤◌, ◌∙◌, ap, subst, arith}
use Rattle.ctr_page.specs.Columns.{kinds_width}
use Rattle.ctr_pvs.specs.walk_Tables.{kinds_said}
use Rattle.ctr_revert.proofs.Passed.{lies_of_row, row_inside, slot_said_by}
use Rattle.ctr_revert.proofs.revert.slot_on.Goals as goal

pub returns-clause-said : goal.returns-clause-said
returns-clause-said c =
    let t = c.args.table.now in
    let wide : c.kinds_width.result ≡ kinds_width (kinds_said t) = c.kinds_width.ensures.value ∙ ap kinds_width c.kinds.ensures.value in
    slot_said_by c.args.counted t c.args.place c.args.page.now c.in_ok-slot.slot c.kinds_width.result c.from_slot.result c.in_ok-slot.ensures.said c.in_ok-slot.ensures.fits wide c.from_slot.ensures

pub returns-clause-inside : goal.returns-clause-inside
returns-clause-inside c =
    let t = c.args.table.now in
    let wide : c.kinds_width.result ≡ kinds_width (kinds_said t) = c.kinds_width.ensures.value ∙ ap kinds_width c.kinds.ensures.value in
    let small = c.kinds_width.ensures.small in
    let few = c.kinds.ensures.few in
    row_inside (kinds_width (kinds_said t)) c.args.place.slot (subst (λ n. n ≤ 1792) wide (omega (arith, small, few)))
    (lies_of_row c.args.counted t.entry (kinds_said t) c.args.place.slot c.args.page.now c.in_ok-slot.ensures.said.0)
