use Rattle.ctr_walk.proofs.Damages.{reads_err}
use Rattle.ctr_pass.proofs.going.place_for.Goals as goal

pub returns-in-Err-clause-leaves : goal.returns-in-Err-clause-leaves
returns-in-Err-clause-leaves g c = reads_err g.O.Origin.first g.D.Disk _ _ c.in-Err.fault c.args.store.now c.is_there.new.store c.in-Err.ensures.leaves
