use Rattle.std.proofs.Common.{◌∙◌, sym, ap}
use Rattle.ctr_page.specs.Places.{slot_size, start_of}
use Rattle.ctr_page.specs.Damage.{slot_check}
use Rattle.ctr_page.proofs.Holding.{slot_rows}
use Rattle.ctr_page.proofs.checks.check_slot.Goals as goal

pub returns-clause-checked : goal.returns-clause-checked
returns-clause-checked c =
    c.check_slot_at.ensures ∙ ap (λ s. slot_check c.args.kinds.now c.args.counted s c.args.page.now)
    (c.start_of.ensures ∙ ap (λ s. start_of s c.args.slot) (c.slot_size.ensures.value ∙ ap slot_size c.kinds_width.ensures.value))

pub returns-clause-rows : goal.returns-clause-rows
returns-clause-rows c = λ cs keyed are ok.
    slot_rows c.args.page.now (λ k. (c.type_inv.page k).fits) c.args.counted c.args.slot c.args.kinds.now c.requires.inside cs keyed are (sym (returns-clause-checked c) ∙ ok)
