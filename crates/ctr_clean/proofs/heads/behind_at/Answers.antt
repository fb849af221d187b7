use Rattle.std.proofs.Common.{false, Result, sym, subst}
use Rattle.ctr_page.specs.declared.rows.Place.{Place}
use Rattle.ctr_disk.specs.declared.fault.StoreFault.{StoreFault}
use Rattle.ctr_area.specs.Reading.{columns_on}
use Rattle.ctr_record_effects.specs.States.{pages_in, area_in}
use Rattle.ctr_pvs.specs.walk_Damage.{damage_told, EndsTold}
use Rattle.ctr_pvs.specs.declared.slot.LentSlot.{LentSlot}
use Rattle.ctr_pvs.specs.Slots.{slot_lent, SlotSaidAt}
use Rattle.ctr_dead.proofs.trim_Reading.{reads_fault, by_disk}
use Rattle.ctr_clean.specs.Heads.{LeadsFrom}
use Rattle.ctr_clean.proofs.Looking.{slot_undamaged}
use Rattle.ctr_clean.proofs.Headless.{leads_from}
use Rattle.ctr_clean.proofs.heads.behind_at.Goals as goal

pub returns-in-Err-clause-leaves : goal.returns-in-Err-clause-leaves
returns-in-Err-clause-leaves g c = reads_fault g.O.Origin.first g.D.Disk c.args.store.now c.row.follows.lender-at-none LentSlot Place c.in-Err.fault c.row.result c.in-Err.is c.row.follows.holds-at-none.leaves

pub returns-in-Err-clause-refused : goal.returns-in-Err-clause-refused
returns-in-Err-clause-refused g c = λ e told sound database in_.
    let s = c.args.store.now.now in
    let at = c.args.place in
    let Ends : Result LentSlot _ → Type 0 = SlotSaidAt s.counted (pages_in s) at in
    by_disk Ends (damage_told g.D.Disk c.row.follows.lender-at-none) c.in-Err.fault
    (slot_undamaged (λ x. false) s.counted (pages_in s) at (c.a_row_is_read_without_damage.ensures.whose s (λ x. false) e at database in_))
    (subst (λ (r : Result LentSlot StoreFault). EndsTold (damage_told g.D.Disk c.row.follows.lender-at-none) Ends r) c.in-Err.is (c.row.follows.holds-at-none.ends told sound))

pub returns-in-Ok-clause-leads : goal.returns-in-Ok-clause-leads
returns-in-Ok-clause-leads g c = λ told sound.
    let s = c.args.store.now.now in
    let at = c.args.place in
    let cs = columns_on (pages_in s) at.page in
    let l = c.in-Ok.lent in
    subst (LeadsFrom cs ((area_in s).slot at)) (sym c.leads_to.ensures)
    (leads_from s.counted _ cs (slot_lent l) ((area_in s).slot at) (c.in-Ok.ensures.finds told sound) (c.in-Ok.ensures.made told sound) c.in-Ok.ensures.fits c.in-Ok.ensures.lies.0)
