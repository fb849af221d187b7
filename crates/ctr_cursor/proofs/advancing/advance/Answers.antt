use Rattle.ctr_walk.proofs.Damages.{reads_err}
use Rattle.ctr_reading.proofs.Told.{reads_behind}
use Rattle.ctr_cursor.proofs.advancing.advance.Goals as goal

pub returns-in-Err-clause-leaves : goal.returns-in-Err-clause-leaves
returns-in-Err-clause-leaves g c = reads_err g.O.Origin.first g.D.Disk _ _ c.in-Err.fault c.args.store.now c.place_behind.new.store c.in-Err.ensures.leaves

pub returns-in-Ok-None-clause-leaves : goal.returns-in-Ok-None-clause-leaves
returns-in-Ok-None-clause-leaves g c = reads_behind g.O.Origin.first g.D.Disk c.in-Ok-None.field-0 c.slots_from-in-Ok-None.result c.args.store.now c.place_behind.new.store c.slots_from-in-Ok-None.new.store c.in-Ok-None.ensures.leaves c.slots_from-in-Ok-None.ensures.leaves

pub returns-in-Err-place_behind-clause-leaves : goal.returns-in-Err-place_behind-clause-leaves
returns-in-Err-place_behind-clause-leaves g c = reads_err g.O.Origin.first g.D.Disk _ _ c.in-Err-place_behind.fault c.args.store.now c.place_behind-in-Kept.new.store c.in-Err-place_behind.ensures.leaves
