use Rattle.std.proofs.Common.{◌≡◌, ◌<◌, ℕ, sym, ◌∙◌, ap, subst}
use Rattle.ctr_page.specs.Places.{slot_size, room_for}
use Rattle.ctr_page.specs.Columns.{kinds_width}
use Rattle.ctr_page.proofs.Searches.{lies_on_page}
use Rattle.ctr_directory.proofs.spare.is_full.Goals as goal

pub is_used-requires-clause-inside : goal.is_used-requires-clause-inside
is_used-requires-clause-inside c =
    let size = c.slot_size-size.result in
    let slot = c.loop-slot.slot in
    let sized : size ≡ slot_size (kinds_width c.args.kinds.now) = c.slot_size-size.ensures.value ∙ ap (λ (w : ℕ). slot_size w) c.kinds_width.ensures.value in
    lies_on_page size slot (subst (λ (k : ℕ). slot < k) (c.slots_on-count.ensures ∙ sym (ap (λ (s : ℕ). room_for s) sized)) c.loop-slot-test.true)
