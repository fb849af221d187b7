use Rattle.std.proofs.Common.{ℕ, Option, Result, subst}
use Rattle.ctr_disk.specs.declared.fault.StoreFault.{StoreFault}
use Rattle.ctr_area.specs.Areas.{Slot}
use Rattle.ctr_pvs.specs.record_effects_States.{pages_in}
use Rattle.ctr_pvs.specs.walk_Damage.{damage_told, EndsTold}
use Rattle.ctr_pvs.specs.declared.slot.LentSlot.{LentSlot}
use Rattle.ctr_pvs.specs.Slots.{SlotSaidAt}
use Rattle.ctr_area.specs.Reading.{columns_on}
use Rattle.ctr_cursor.proofs.reading_Places.{slot_passes}
use Rattle.ctr_emptying.specs.Looking.{HeadSaid}
use Rattle.ctr_emptying.proofs.Reading.{reads_fault, slot_undamaged}
use Rattle.ctr_emptying.proofs.heads.head_at.Goals as goal

pub returns-in-Err-clause-leaves : goal.returns-in-Err-clause-leaves
returns-in-Err-clause-leaves g c = reads_fault g.O.Origin.first g.D.Disk c.args.store.now c.row.follows.lender-at-none LentSlot (Option ℕ) c.in-Err.fault c.row.result c.in-Err.is c.row.follows.holds-at-none.leaves

pub returns-in-Err-clause-refused : goal.returns-in-Err-clause-refused
returns-in-Err-clause-refused g c = λ e told sound database in_.
    let s = c.args.store.now.now in
    let damage = damage_told g.D.Disk c.row.follows.lender-at-none in
    slot_undamaged damage s.counted (pages_in s) c.args.place c.in-Err.fault (slot_passes s e c.args.place database in_)
    (subst (λ (r : Result LentSlot StoreFault). EndsTold damage (SlotSaidAt s.counted (pages_in s) c.args.place) r) c.in-Err.is (c.row.follows.holds-at-none.ends told sound))

pub returns-in-Ok-clause-tells : goal.returns-in-Ok-clause-tells
returns-in-Ok-clause-tells g c = λ told sound.
    subst (λ (slot : Slot). HeadSaid slot c.head_of.result) (c.in-Ok.ensures.finds told sound) (c.head_of.ensures (columns_on (pages_in c.args.store.now.now) c.args.place.page))
