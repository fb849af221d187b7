use Rattle.std.proofs.Common.{◌≡◌, ⊎_elim, ℕ, ◌<◌, length, arith, List, Err, refl, sym, ◌∙◌, ap, subst}
use Rattle.std.specs.Prelude.{IfOk, IfErr}
use Rattle.ctr_disk.specs.declared.fault.StoreFault.TheVariants.{Fault}
use Rattle.ctr_types.specs.declared.value.Column.{Column}
use Rattle.ctr_page.specs.declared.rows.RowSlot.{RowSlot}
use Rattle.ctr_area.specs.Reading.{slot_said, columns_on}
use Rattle.ctr_redo.specs.States.{State}
use Rattle.ctr_extend.specs.record_effects_States.{pages_in, area_in}
use Rattle.ctr_extend.proofs.walk_Joins.{answers_ok}
use Rattle.ctr_extend.specs.page_turns_Turns.{Reads}
use Rattle.ctr_extend.specs.passed_Logged.{IsSlotOf}
use Rattle.ctr_write.specs.Laying.{Wish}
use Rattle.ctr_write.specs.Copies.{slot_copied}
use Rattle.ctr_write.specs.Steps.{MayWriteOver, EndsOver}
use Rattle.ctr_write.proofs.Extended.{moves_behind}
use Rattle.ctr_write.proofs.Used.{head_is}
use Rattle.ctr_write.proofs.writing.write_over.Goals as goal

pub returns-in-Err-clause-turns : goal.returns-in-Err-clause-turns
returns-in-Err-clause-turns g c = c.a_turn_goes_on.ensures.unread g.O.Origin.first c.args.store.now c.read_row.new.store c.in-Err.fault (Err c.in-Err.fault) (Err c.in-Err.fault) c.in-Err.ensures.leaves refl refl

pub returns-then-slot-eq0-clause-turns : goal.returns-then-slot-eq0-clause-turns
returns-then-slot-eq0-clause-turns g c = Reads (c.misfit.ensures.leaves c.args.store.now (answers_ok g.O.Origin.first g.D.Disk c.in-Ok.copy tt c.args.store.now c.read_row.new.store c.in-Ok.ensures.leaves))

pub returns-clause-turns : goal.returns-clause-turns
returns-clause-turns g c = c.a_turn_goes_on.ensures.behind g.O.Origin.first c.args.store.now c.read_row.new.store c.write_read.new.store c.in-Ok.copy c.write_read.result c.in-Ok.ensures.leaves c.write_read.ensures.turns

pub returns-clause-numbers : goal.returns-clause-numbers
returns-clause-numbers g c = moves_behind c.args.store.now c.read_row.new.store c.write_read.new.store c.write_read.result c.in-Ok.ensures.leaves.keeps c.write_read.ensures.numbers

pub returns-clause-steps : goal.returns-clause-steps
returns-clause-steps g c = λ key told sound may of_key.
    let e = c.args.entry in
    let at = c.args.place in
    let kept = c.args.kept in
    let s = c.args.store.now.now in
    let t = c.write_read.new.store.now in
    let slot = c.slot-slot.result in
    let copied = slot_copied c.in-Ok.copy in
    let wish : Wish = record { x = c.args.x; entry = e; key = key; head = c.args.head.now } in
    let columns = ((area_in s).title e).columns in
    let on_page = columns_on (pages_in s) at.page in
    let same = (c.in-Ok.ensures.leaves.logs told sound).now in
    let cols = (c.a_place_of_a_table_fits.ensures.rows s e at may.lay.sound of_key.0.0).2 in
    let said = ap (λ (l : List Column). slot_said l slot) (sym cols) ∙ ap (λ (r : RowSlot). slot_said on_page r) c.slot-slot.ensures ∙ c.in-Ok.ensures.finds told sound in
    let made = subst (λ (r : RowSlot). IsSlotOf s.counted columns r) (sym c.slot-slot.ensures) (subst (λ (l : List Column). IsSlotOf s.counted l copied) cols (c.in-Ok.ensures.made told sound)) in
    let P : State → Type 0 = λ u. MayWriteOver wish at slot kept u → IfOk c.write_read.result (EndsOver wish at kept u t) in
    subst P same (c.write_read.ensures.steps key told sound)
    (record { lay = may.lay; there = may.there; no_page = may.no_page; of_key = of_key; said = said; made = made; copy = may.copy })

pub returns-in-Err-clause-refused : goal.returns-in-Err-clause-refused
returns-in-Err-clause-refused g c = λ key told sound may of_key. c.in-Err.ensures.refused c.args.entry told sound may.lay.sound of_key.0.0

pub returns-clause-refused : goal.returns-clause-refused
returns-clause-refused g c = λ key told sound may of_key.
    let e = c.args.entry in
    let at = c.args.place in
    let kept = c.args.kept in
    let s = c.args.store.now.now in
    let slot = c.slot-slot.result in
    let copied = slot_copied c.in-Ok.copy in
    let wish : Wish = record { x = c.args.x; entry = e; key = key; head = c.args.head.now } in
    let columns = ((area_in s).title e).columns in
    let on_page = columns_on (pages_in s) at.page in
    let same = (c.in-Ok.ensures.leaves.logs told sound).now in
    let cols = (c.a_place_of_a_table_fits.ensures.rows s e at may.lay.sound of_key.0.0).2 in
    let said = ap (λ (l : List Column). slot_said l slot) (sym cols) ∙ ap (λ (r : RowSlot). slot_said on_page r) c.slot-slot.ensures ∙ c.in-Ok.ensures.finds told sound in
    let made = subst (λ (r : RowSlot). IsSlotOf s.counted columns r) (sym c.slot-slot.ensures) (subst (λ (l : List Column). IsSlotOf s.counted l copied) cols (c.in-Ok.ensures.made told sound)) in
    subst (λ (u : State). MayWriteOver wish at slot kept u → IfErr c.write_read.result (λ e. e ≡ Fault)) same (c.write_read.ensures.refused key told sound)
    (record { lay = may.lay; there = may.there; no_page = may.no_page; of_key = of_key; said = said; made = made; copy = may.copy })

pub returns-then-slot-eq0-clause-refused : goal.returns-then-slot-eq0-clause-refused
returns-then-slot-eq0-clause-refused g c = λ key told sound may of_key.
    let e = c.args.entry in
    let at = c.args.place in
    let s = c.args.store.now.now in
    let slot = c.slot-slot.result in
    let copied = slot_copied c.in-Ok.copy in
    let columns = ((area_in s).title e).columns in
    let on_page = columns_on (pages_in s) at.page in
    let cols = (c.a_place_of_a_table_fits.ensures.rows s e at may.lay.sound of_key.0.0).2 in
    let said = ap (λ (l : List Column). slot_said l slot) (sym cols) ∙ ap (λ (r : RowSlot). slot_said on_page r) c.slot-slot.ensures ∙ c.in-Ok.ensures.finds told sound in
    let made = subst (λ (r : RowSlot). IsSlotOf s.counted columns r) (sym c.slot-slot.ensures) (subst (λ (l : List Column). IsSlotOf s.counted l copied) cols (c.in-Ok.ensures.made told sound)) in
    let some = subst (λ n. 0 < n) (sym (head_is columns slot ((area_in s).slot at) said of_key.0.1)) (may.lay.sound.sound.behind e at of_key.0).0 in
    let wide = c.a_slot_is_put_at_its_place.ensures.width s e slot made ∙ sym may.lay.head_is.0.2 in
    let same = ap (λ (l : List ℕ). length l) c.as_slice-wide.ensures ∙ wide ∙ sym (ap (λ (l : List ℕ). length l) c.as_slice-width.ensures) in
    ⊎_elim (λ none. absurd (omega (arith, none, some))) (λ both. absurd (both.1 same)) c.then-slot-eq0.either
