use Rattle.std.proofs.Common.{◌+◌, ◌≤◌, ◌<◌, sym, ◌∙◌, ap, subst}
use Rattle.ctr_page.specs.Places.{slot_size, room_for, start_of}
use Rattle.ctr_page.proofs.Searches.{lies_on_page}
use Rattle.ctr_reading.proofs.slots.used_key.Goals as goal

pub read_slot-slot-requires-clause-inside : goal.read_slot-slot-requires-clause-inside
read_slot-slot-requires-clause-inside c =
    let size = slot_size c.kinds_width-w.result in
    subst (λ long. start_of size c.args.number + size ≤ long) (sym c.requires.whole)
    (lies_on_page size c.args.number (subst (λ room. c.args.number < room) (c.room_for.ensures ∙ ap room_for c.slot_size.ensures.value) c.if-number-room_for.false))
