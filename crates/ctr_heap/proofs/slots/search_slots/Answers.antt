use Rattle.std.proofs.Common.{◌≡◌, ◌<◌, false, sym, ap, subst, ◌∙◌, arith}
use Rattle.ctr_page.specs.Columns.{kinds_width}
use Rattle.ctr_page.specs.Places.{slot_size, room_for}
use Rattle.ctr_page.proofs.Searches.{passes_one, lies_on_page}
use Rattle.ctr_heap.specs.Slots.{checks_slot, seeks_slot}
use Rattle.ctr_heap.proofs.slots.search_slots.Goals as goal

pub check_slot-requires-clause-inside : goal.check_slot-requires-clause-inside
check_slot-requires-clause-inside c =
    let rooms : c.room_for-count.result ≡ room_for (slot_size (kinds_width c.args.kinds.now)) = c.room_for-count.ensures ∙ ap room_for (c.slot_size.ensures.value ∙ ap slot_size c.kinds_width-w.ensures.value) in
    let on_page : c.loop-slot.slot < room_for (slot_size (kinds_width c.args.kinds.now)) = subst (λ r. c.loop-slot.slot < r) rooms (omega (arith, c.loop-slot-test.true)) in
    omega (arith, lies_on_page (slot_size (kinds_width c.args.kinds.now)) c.loop-slot.slot on_page, c.requires.whole)

pub is-requires-clause-inside : goal.is-requires-clause-inside
is-requires-clause-inside c =
    let rooms : c.room_for-count.result ≡ room_for (slot_size c.kinds_width-w.result) = c.room_for-count.ensures ∙ ap room_for c.slot_size.ensures.value in
    let on_page : c.loop-slot.slot < room_for (slot_size c.kinds_width-w.result) = subst (λ r. c.loop-slot.slot < r) rooms (omega (arith, c.loop-slot-test.true)) in
    omega (arith, lies_on_page (slot_size c.kinds_width-w.result) c.loop-slot.slot on_page, c.requires.whole)

pub loop-slot-preserved : goal.loop-slot-preserved
loop-slot-preserved c =
    let isnt : seeks_slot (kinds_width c.args.kinds.now) c.args.sought c.args.page.now c.loop-slot.slot ≡ false =
    ap (λ w. seeks_slot w c.args.sought c.args.page.now c.loop-slot.slot) (sym c.kinds_width-w.ensures.value) ∙ sym c.if-is.ensures in
    passes_one (checks_slot c.args.kinds.now c.args.counted c.args.page.now) (seeks_slot (kinds_width c.args.kinds.now) c.args.sought c.args.page.now) 0 c.loop-slot.slot c.loop-slot.invariant (sym c.in_ok-check_slot.ensures.checked) isnt
