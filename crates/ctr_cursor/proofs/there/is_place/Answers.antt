use Rattle.std.proofs.Common.{Err, Ok, sym, subst}
use Rattle.ctr_walk.specs.redo_States.{State}
use Rattle.ctr_walk.specs.record_effects_States.{area_in}
use Rattle.ctr_walk.specs.record_effects_Standing.{IsDatabaseState}
use Rattle.ctr_walk.proofs.Damages.{reads_err}
use Rattle.ctr_reading.proofs.Told.{reads_behind, told_ok}
use Rattle.ctr_cursor.specs.Standing.{IsInChain}
use Rattle.ctr_cursor.proofs.there.is_place.Goals as goal

pub returns-in-Err-room_on-clause-refused : goal.returns-in-Err-room_on-clause-refused
returns-in-Err-room_on-clause-refused g c = λ told sound database.
    let same = (c.in-Ok-true.ensures.leaves.logs told sound).now in
    let on = c.in-Ok-true.ensures.yes told sound database c.in-Ok-true.field-0-test in
    c.in-Err-room_on.ensures.refused told sound (subst IsDatabaseState (sym same) database) (subst (λ (u : State). IsInChain c.args.chain c.args.place.page (area_in u)) (sym same) on)

pub returns-in-Err-room_on-clause-leaves : goal.returns-in-Err-room_on-clause-leaves
returns-in-Err-room_on-clause-leaves g c = reads_err g.O.Origin.first g.D.Disk _ _ c.in-Err-room_on.fault c.args.store.now c.room_on.new.store
    (reads_behind g.O.Origin.first g.D.Disk c.in-Ok-true.field-0 (Err c.in-Err-room_on.fault) c.args.store.now c.is_in_chain.new.store c.room_on.new.store c.in-Ok-true.ensures.leaves c.in-Err-room_on.ensures.leaves)

pub returns-in-Ok-clause-leaves : goal.returns-in-Ok-clause-leaves
returns-in-Ok-clause-leaves g c = told_ok g.O.Origin.first g.D.Disk c.in-Ok.room _ c.args.store.now c.room_on.new.store
    (reads_behind g.O.Origin.first g.D.Disk c.in-Ok-true.field-0 (Ok c.in-Ok.room) c.args.store.now c.is_in_chain.new.store c.room_on.new.store c.in-Ok-true.ensures.leaves c.in-Ok.ensures.leaves)
