use Rattle.std.proofs.Common.{◌≡◌, false, List, Result, subst}
use Rattle.std.specs.Prelude.{IfErr}
use Rattle.ctr_disk.specs.declared.fault.StoreFault.{StoreFault}
use Rattle.ctr_disk.specs.declared.fault.StoreFault.TheVariants.{Fault}
use Rattle.ctr_area.specs.Areas.{Slot}
use Rattle.ctr_area.specs.Reading.{slot_said}
use Rattle.ctr_types.specs.declared.value.Column.{Column}
use Rattle.ctr_record_effects.specs.States.{pages_in, area_in}
use Rattle.ctr_passed.specs.Logged.{IsSlotOf}
use Rattle.ctr_pvs.specs.Slots.{slot_lent}
use Rattle.ctr_walk.specs.Damage.{damage_told}
use Rattle.ctr_pvs.specs.declared.slot.LentSlot.{LentSlot}
use Rattle.ctr_totals.specs.Facts.{IsKnownSlot}
use Rattle.ctr_totals.proofs.Left.{reads_fault, slot_undamaged}
use Rattle.ctr_totals.proofs.looking.look_slot.Goals as goal

pub returns-in-Err-clause-leaves : goal.returns-in-Err-clause-leaves
returns-in-Err-clause-leaves g c = reads_fault g.O.Origin.first g.D.Disk c.args.store.now c.row.follows.lender-at-none LentSlot _ c.in-Err.fault c.row.result c.in-Err.is c.row.follows.holds-at-none.leaves

pub returns-in-Err-clause-refused : goal.returns-in-Err-clause-refused
returns-in-Err-clause-refused g c = λ e told sound database in_.
    let s = c.args.store.now.now in
    let at = c.args.place in
    subst (λ (r : Result LentSlot StoreFault). IfErr r (λ f. f ≡ Fault)) c.in-Err.is
    (slot_undamaged (damage_told g.D.Disk c.row.follows.lender-at-none) s.counted (pages_in s) at (c.a_row_is_read_without_damage.ensures.whose s (λ x. false) e at database in_) c.row.result (c.row.follows.holds-at-none.ends told sound))

pub returns-in-Ok-clause-tells : goal.returns-in-Ok-clause-tells
returns-in-Ok-clause-tells g c = λ told sound columns.
    let s = c.args.store.now.now in
    let made = subst (λ (cs : List Column). IsSlotOf s.counted cs (slot_lent c.in-Ok.lent)) columns (c.in-Ok.ensures.made told sound) in
    let said = subst (λ (cs : List Column). slot_said cs (slot_lent c.in-Ok.lent) ≡ (area_in s).slot c.args.place) columns (c.in-Ok.ensures.finds told sound) in
    subst (λ (x : Slot). IsKnownSlot x c.slot_facts.result) said (c.slot_facts.ensures s.counted made)
