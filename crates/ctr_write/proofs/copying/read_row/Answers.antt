use Rattle.std.specs.Prelude.{false}
use Rattle.ctr_extend.specs.record_effects_States.{pages_in}
use Rattle.ctr_extend.specs.walk_Damage.{damage_told}
use Rattle.ctr_extend.specs.pvs_Slots.{SlotSaidAt}
use Rattle.ctr_extend.specs.pvs_LentSlot.{LentSlot}
use Rattle.ctr_write.proofs.Reading.{reads_fault}
use Rattle.ctr_write.proofs.Refusing.{by_disk, fault_by_disk, slot_undamaged}
use Rattle.ctr_write.proofs.copying.read_row.Goals as goal

pub returns-in-Err-clause-leaves : goal.returns-in-Err-clause-leaves
returns-in-Err-clause-leaves g c = reads_fault g.O.Origin.first g.D.Disk c.args.store.now c.row.follows.lender-at-none LentSlot _ c.in-Err.fault c.row.result c.in-Err.is c.row.follows.holds-at-none.leaves

pub returns-in-Err-clause-refused : goal.returns-in-Err-clause-refused
returns-in-Err-clause-refused g c = λ e told sound database in_.
    let s = c.args.store.now.now in
    let at = c.args.place in
    let none = slot_undamaged (λ x. false) s.counted (pages_in s) at (c.a_row_is_read_without_damage.ensures.whose s (λ x. false) e at database in_) in
    fault_by_disk c.in-Err.fault c.row.result c.in-Err.is
    (by_disk (SlotSaidAt s.counted (pages_in s) at) (damage_told g.D.Disk c.row.follows.lender-at-none) c.row.result none (c.row.follows.holds-at-none.ends told sound))
