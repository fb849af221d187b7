use Rattle.std.proofs.Common.{length, sym, ◌∙◌, ap, arith}
use Rattle.ctr_page.specs.Places.{slot_size}
use Rattle.ctr_pvs.proofs.Told.{slot_there}
use Rattle.ctr_chain.proofs.reading.row_again.Goals as goal

pub read_slot-requires-clause-inside : goal.read_slot-requires-clause-inside
read_slot-requires-clause-inside c =
    slot_there c.kinds_width.result c.slot_size.result (slot_size c.kinds_width-2.result) c.args.number (length c.args.page.now) (omega (arith, c.kinds_width.ensures.small, c.kinds-kinds.ensures.few))
    c.slot_size.ensures.value (ap slot_size (c.kinds_width.ensures.value ∙ sym c.kinds_width-2.ensures.value)) c.slot_size.ensures.some (sym c.check_lies.ensures ∙ c.in_ok-check_lies.was) c.requires.whole
