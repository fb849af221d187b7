use Rattle.std.proofs.Common.{◌≡◌, ◌+◌, ◌*◌, ℕ, sym, ◌∙◌, ap}
use Rattle.std.specs.Prelude.{◌==◌}
use Rattle.ctr_bytes.specs.Fields.{field}
use Rattle.ctr_page.specs.Places.{slot_size, start_of}
use Rattle.ctr_heap.specs.declared.slots.SlotSought.{SlotSought}
use Rattle.ctr_heap.specs.Slots.{seeks_slot}
use Rattle.ctr_heap.proofs.Sought.{used_is}
use Rattle.ctr_heap.proofs.slots.SlotSought.is.Goals as goal

pub returns-in-Free : goal.returns-in-Free
returns-in-Free c =
    let w = c.args.w in
    let m = c.args.slot in
    let page = c.args.page.now in
    let there : 16 + m * c.slot_size.result ≡ start_of (slot_size w) m = ap (λ (s : ℕ). 16 + m * s) c.slot_size.ensures.value in
    ap (λ (b : ℕ). b == 0) (c.get_u8.ensures.got ∙ ap (λ (k : ℕ). field 1 k page) there ∙ sym (used_is w m page))
    ∙ ap (λ (sought : SlotSought). seeks_slot w sought page m) (sym c.in-Free.is)
