use Rattle.std.proofs.Common.{◌≡◌, ◌+◌, ◌≤◌, Ok, length, sym, ◌∙◌, ap, subst, arith}
use Rattle.ctr_page.specs.Places.{slot_size}
use Rattle.ctr_page.specs.Columns.{kinds_of, kinds_width, slot_start}
use Rattle.ctr_page.specs.Damage.{slot_check}
use Rattle.ctr_page.specs.Making.{IsSlot}
use Rattle.ctr_page.specs.Reading.{slot_at}
use Rattle.ctr_passed.specs.Logged.{IsSlotOf}
use Rattle.ctr_pvs.proofs.Made.{slot_made}
use Rattle.ctr_pvs.proofs.Told.{slot_there}
use Rattle.ctr_pvs.proofs.reading.row_in.Goals as goal

pub check_slot-requires-clause-inside : goal.check_slot-requires-clause-inside
check_slot-requires-clause-inside c =
    slot_there c.kinds_width.result c.slot_size.result (slot_size (kinds_width c.kinds-kinds.result.now)) c.args.number (length c.args.page.now) (omega (arith, c.kinds_width.ensures.small, c.kinds-kinds.ensures.few))
    c.slot_size.ensures.value (ap slot_size c.kinds_width.ensures.value) c.slot_size.ensures.some (sym c.check_lies.ensures ∙ c.in_ok-check_lies.was) c.requires.whole

pub read_slot-requires-clause-inside : goal.read_slot-requires-clause-inside
read_slot-requires-clause-inside c =
    slot_there c.kinds_width.result c.slot_size.result (slot_size c.kinds_width-2.result) c.args.number (length c.args.page.now) (omega (arith, c.kinds_width.ensures.small, c.kinds-kinds.ensures.few))
    c.slot_size.ensures.value (ap slot_size (c.kinds_width.ensures.value ∙ sym c.kinds_width-2.ensures.value)) c.slot_size.ensures.some (sym c.check_lies.ensures ∙ c.in_ok-check_lies.was) c.requires.whole

pub returns-clause-made : goal.returns-clause-made
returns-clause-made c = λ columns keyed are.
    let n = c.args.number in
    let page = c.args.page.now in
    let w = kinds_width (kinds_of columns) in
    let same : kinds_of columns ≡ c.kinds-kinds.result.now = are ∙ sym c.kinds-kinds.ensures.value in
    let wide : c.kinds_width-2.result ≡ w = c.kinds_width-2.ensures.value ∙ ap kinds_width (sym same) in
    let small = c.kinds_width-2.ensures.small in
    let few = c.kinds-kinds.ensures.few in
    let passes : slot_check (kinds_of columns) c.args.counted (slot_start (kinds_of columns) n) page ≡ Ok tt =
    subst (λ ks. slot_check ks c.args.counted (slot_start ks n) page ≡ Ok tt) (sym same) (sym c.check_slot.ensures.checked ∙ c.in_ok-check_slot.was) in
    let inside : slot_start (kinds_of columns) n + slot_size w ≤ length page =
    slot_there c.kinds_width.result c.slot_size.result (slot_size w) n (length page) (omega (arith, c.kinds_width.ensures.small, few)) c.slot_size.ensures.value (ap slot_size (c.kinds_width.ensures.value ∙ ap kinds_width (sym same)))
    c.slot_size.ensures.some (sym c.check_lies.ensures ∙ c.in_ok-check_lies.was) c.requires.whole in
    let is : IsSlot w (slot_at w n page) = subst (λ v. IsSlot v (slot_at v n page)) wide (subst (IsSlot c.kinds_width-2.result) c.read_slot.ensures.read c.read_slot.ensures.fits) in
    subst (IsSlotOf c.args.counted columns) (sym (c.read_slot.ensures.read ∙ ap (λ v. slot_at v n page) wide))
    (slot_made columns keyed c.args.counted n c.requires.some (omega (arith, wide, small, few)) page (λ k. (c.type_inv.page k).fits) inside is passes)
