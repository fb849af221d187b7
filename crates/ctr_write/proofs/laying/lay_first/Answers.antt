use Rattle.std.proofs.Common.{◌≡◌, ℕ, ℤ, w64, List, length, sym, ◌∙◌, ap, subst}
use Rattle.std.proofs.lemmas.Bool.{false≢true}
use Rattle.std.specs.Prelude.{IfOk, IfErr}
use Rattle.std.proofs.lemmas.Int.{to_z-of_z}
use Rattle.ctr_disk.specs.declared.fault.StoreFault.TheVariants.{Fault}
use Rattle.ctr_page.specs.Places.{bucket_of}
use Rattle.ctr_extend.specs.passed_Laid.{width_in}
use Rattle.ctr_extend.specs.record_laws_Owed.{FirstVersion, IsRoomFor}
use Rattle.ctr_extend.specs.record_effects_States.{area_in}
use Rattle.ctr_write.specs.Laying.{Wish, MayLay, LaysHead}
use Rattle.ctr_extend.specs.page_turns_Turns.{Reads}
use Rattle.ctr_write.proofs.Narrow.{table_narrow}
use Rattle.ctr_write.proofs.Refusing.{slot_has_place}
use Rattle.ctr_write.proofs.laying.lay_first.Goals as goal

pub returns-then-not-slot_lies-clause-turns : goal.returns-then-not-slot_lies-clause-turns
returns-then-not-slot_lies-clause-turns g c = λ a one. Reads (c.misfit.ensures.leaves a one)

pub returns-clause-turns : goal.returns-clause-turns
returns-clause-turns g c = λ a one. c.a_turn_goes_on.ensures.behind g.O.Origin.first a c.args.store.now c.lay_new.new.store tt c.lay_new.result one c.lay_new.ensures.turns

pub returns-clause-steps : goal.returns-clause-steps
returns-clause-steps g c = λ e told sound.
    let s = c.args.store.now.now in
    let at = c.args.place in
    let by : ℤ → Wish = λ k. record { x = c.args.x; entry = e; key = k; head = c.args.head.now } in
    subst (λ (k : ℤ). MayLay (by k) s → IsRoomFor (area_in s) e k at → IfOk c.lay_new.result (λ w. LaysHead (by k) at FirstVersion s c.lay_new.new.store.now))
    (to_z-of_z w64 c.args.key c.ranges.key) (c.lay_new.ensures.steps e told sound)

pub returns-clause-refused : goal.returns-clause-refused
returns-clause-refused g c = λ e told sound.
    let s = c.args.store.now.now in
    let at = c.args.place in
    let by : ℤ → Wish = λ k. record { x = c.args.x; entry = e; key = k; head = c.args.head.now } in
    subst (λ (k : ℤ). MayLay (by k) s → IsRoomFor (area_in s) e k at → IfErr c.lay_new.result (λ f. f ≡ Fault))
    (to_z-of_z w64 c.args.key c.ranges.key) (c.lay_new.ensures.refused e told sound)

pub returns-then-not-slot_lies-clause-refused : goal.returns-then-not-slot_lies-clause-refused
returns-then-not-slot_lies-clause-refused g c = λ e told sound may room.
    let s = c.args.store.now.now in
    let at = c.args.place in
    let among = c.a_free_slot_is_the_tables.ensures (area_in s) e (bucket_of c.args.key) at (room.here, room.free) in
    let fits = c.a_place_of_a_table_fits.ensures.rows s e at may.sound among in
    let wide = ap (λ (l : List ℕ). length l) c.as_slice-width.ensures ∙ may.head_is.0.2 in
    let lies = slot_has_place at (length c.as_slice-width.result.now) (width_in (area_in s) e) wide (table_narrow s e at may.sound among) fits.5 in
    absurd (false≢true (sym c.if-not-slot_lies.true ∙ c.slot_lies.ensures.1 lies))
