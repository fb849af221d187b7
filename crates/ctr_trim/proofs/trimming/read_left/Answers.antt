use Rattle.ctr_pvs.specs.declared.slot.LentSlot.{LentSlot}
use Rattle.ctr_trim.proofs.Reading.{reads_fault}
use Rattle.ctr_trim.proofs.trimming.read_left.Goals as goal

pub returns-in-Err-clause-leaves : goal.returns-in-Err-clause-leaves
returns-in-Err-clause-leaves g c = reads_fault g.O.Origin.first g.D.Disk c.args.store.now c.row.follows.lender-at-none LentSlot _ c.in-Err.fault c.row.result c.in-Err.is c.row.follows.holds-at-none.leaves
