use Rattle.ctr_pvs.specs.declared.lending.LentVersion.{LentVersion}
use Rattle.ctr_trim.proofs.Reading.{reads_fault}
use Rattle.ctr_trim.proofs.cutting.read_cut.Goals as goal

pub returns-in-Err-clause-leaves : goal.returns-in-Err-clause-leaves
returns-in-Err-clause-leaves g c = reads_fault g.O.Origin.first g.D.Disk c.args.store.now c.version.follows.lender-at-none LentVersion _ c.in-Err.fault c.version.result c.in-Err.is c.version.follows.holds-at-none.leaves
