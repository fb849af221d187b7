use Rattle.std.proofs.Common.{Bool}
use Rattle.ctr_dead.proofs.trim_Reading.{reads_fault}
use Rattle.ctr_clean.specs.declared.choosing.SlotFacts.{SlotFacts}
use Rattle.ctr_clean.proofs.cutting.behind_slot.Goals as goal

pub returns-in-Err-clause-leaves : goal.returns-in-Err-clause-leaves
returns-in-Err-clause-leaves g c = reads_fault g.O.Origin.first g.D.Disk c.args.store.now c.look_at.new.store SlotFacts Bool c.in-Err.fault c.look_at.result c.in-Err.is c.look_at.ensures.leaves
