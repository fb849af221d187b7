use Rattle.std.proofs.Common.{length, replicate, sym, ◌∙◌, ap}
use Rattle.std.proofs.lemmas.List.{take-replicate}
use Rattle.ctr_page.specs.declared.rows.RowSlot.{RowSlot}
use Rattle.ctr_undamaged.specs.heap_Writing.{slot_width}
use Rattle.ctr_trim.proofs.slots.trimmed.Goals as goal

pub left-slot-requires : goal.left-slot-requires
left-slot-requires c = record { wide = take-replicate (length c.args.lent.now.head.payload.now) 2048 0 c.requires.width ∙ ap (λ (s : RowSlot). replicate (slot_width s) 0) (sym c.slot.ensures) }
