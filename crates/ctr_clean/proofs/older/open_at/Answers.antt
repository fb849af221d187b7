use Rattle.ctr_dead.proofs.trim_Reading.{reads_fault}
use Rattle.ctr_clean.specs.declared.older.OlderFacts.{OlderFacts}
use Rattle.ctr_clean.specs.declared.older.OpenKey.{OpenKey}
use Rattle.ctr_clean.proofs.older.open_at.Goals as goal

pub returns-in-Err-clause-leaves : goal.returns-in-Err-clause-leaves
returns-in-Err-clause-leaves g c = reads_fault g.O.Origin.first g.D.Disk c.args.store.now c.look_older.new.store OlderFacts OpenKey c.in-Err.fault c.look_older.result c.in-Err.is c.look_older.ensures.leaves
