use Rattle.ctr_page.specs.Columns.{kinds_width}
use Rattle.ctr_page.specs.Searching.{PassesBy}
use Rattle.ctr_heap.specs.Slots.{checks_slot, seeks_slot}
use Rattle.ctr_heap.proofs.slots.search_slots.Given as goal

abbrev pub invariant-loop-slot : goal.invariant-loop-slot
invariant-loop-slot l =
    PassesBy (checks_slot l.kinds l.counted l.page) (seeks_slot (kinds_width l.kinds) l.sought l.page) 0 l.slot
