use Rattle.std.proofs.Common.{Bool}
use Rattle.ctr_titles.specs.declared.reading.TitleRead.{TitleRead}
use Rattle.ctr_dead.proofs.trim_Reading.{reads_fault}
use Rattle.ctr_clean.proofs.tables.dies_at.Goals as goal

pub returns-in-Err-clause-leaves : goal.returns-in-Err-clause-leaves
returns-in-Err-clause-leaves g c = reads_fault g.O.Origin.first g.D.Disk c.args.store.now c.title_at.new.store TitleRead Bool c.in-Err.fault c.title_at.result c.in-Err.is c.title_at.ensures.leaves
