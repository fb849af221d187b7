use Rattle.ctr_model.specs.declared.tape.Survey.{Survey}
use Rattle.ctr_reading.proofs.Told.{told_err}
use Rattle.ctr_survey.specs.declared.counting.Counts.{Counts}
use Rattle.ctr_survey.proofs.surveying.counted.Goals as goal

pub returns-in-Err-clause-leaves : goal.returns-in-Err-clause-leaves
returns-in-Err-clause-leaves g c = told_err g.O.Origin.first g.D.Disk Counts Survey c.in-Err.refusal c.args.store.now c.count.new.store c.in-Err.ensures.leaves
