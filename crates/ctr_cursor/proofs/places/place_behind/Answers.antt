use Rattle.std.proofs.Common.{Err, Ok, sym, subst}
use Rattle.ctr_walk.specs.redo_States.{State}
use Rattle.ctr_walk.specs.record_effects_States.{area_in}
use Rattle.ctr_walk.specs.record_effects_Standing.{IsDatabaseState}
use Rattle.ctr_walk.specs.Damage.{damage_told}
use Rattle.ctr_walk.proofs.Damages.{reads_err}
use Rattle.ctr_reading.proofs.Told.{reads_behind, told_ok}
use Rattle.ctr_cursor.specs.Standing.{IsInChain}
use Rattle.ctr_cursor.proofs.OnPages.{next_undamaged}
use Rattle.ctr_cursor.proofs.places.place_behind.Goals as goal

pub returns-in-Err-clause-leaves : goal.returns-in-Err-clause-leaves
returns-in-Err-clause-leaves g c = reads_err g.O.Origin.first g.D.Disk _ _ c.in-Err.fault c.args.store.now c.room_on.new.store c.in-Err.ensures.leaves

pub returns-in-Err-next_page-clause-refused : goal.returns-in-Err-next_page-clause-refused
returns-in-Err-next_page-clause-refused g c = λ told sound database on.
    let same = (c.in-Ok.ensures.leaves.logs told sound).now in
    let t = c.room_on.new.store.now in
    next_undamaged t (subst IsDatabaseState (sym same) database) (damage_told g.D.Disk c.next_page.new.store) c.args.chain c.args.place.page
    (subst (λ (u : State). IsInChain c.args.chain c.args.place.page (area_in u)) (sym same) on) (Err c.in-Err-next_page.fault) (c.in-Err-next_page.ensures.ends told sound)

pub returns-in-Err-next_page-clause-leaves : goal.returns-in-Err-next_page-clause-leaves
returns-in-Err-next_page-clause-leaves g c = reads_err g.O.Origin.first g.D.Disk _ _ c.in-Err-next_page.fault c.args.store.now c.next_page.new.store
    (reads_behind g.O.Origin.first g.D.Disk c.in-Ok.room (Err c.in-Err-next_page.fault) c.args.store.now c.room_on.new.store c.next_page.new.store c.in-Ok.ensures.leaves c.in-Err-next_page.ensures.leaves)

pub returns-in-Ok-next_page-clause-leaves : goal.returns-in-Ok-next_page-clause-leaves
returns-in-Ok-next_page-clause-leaves g c = told_ok g.O.Origin.first g.D.Disk c.in-Ok-next_page.next c.first_on.result c.args.store.now c.next_page.new.store
    (reads_behind g.O.Origin.first g.D.Disk c.in-Ok.room (Ok c.in-Ok-next_page.next) c.args.store.now c.room_on.new.store c.next_page.new.store c.in-Ok.ensures.leaves c.in-Ok-next_page.ensures.leaves)
