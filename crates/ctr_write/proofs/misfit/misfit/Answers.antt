use Rattle.std.proofs.Common.{Err}
use Rattle.ctr_extend.proofs.walk_Joins.{answers_ok}
use Rattle.ctr_write.proofs.Steps.{none_ok}
use Rattle.ctr_write.proofs.misfit.misfit.Goals as goal

pub returns-clause-fails : goal.returns-clause-fails
returns-clause-fails g c = none_ok c.tell.result c.tell.ensures.told.0 c.tell.ensures.told.1

pub returns-clause-leaves : goal.returns-clause-leaves
returns-clause-leaves g c = λ a one. c.tell.ensures.leaves a (answers_ok g.O.Origin.first g.D.Disk tt (Err _) a c.args.store.now one)
