use Rattle.ctr_stops.proofs.Turns.{enough, survives_the_call, survives_the_growth}
use Rattle.ctr_stops.proofs.stops.a_call_that_ends_leaves_a_prefix.Goals as goal

pub returns-clause-call : goal.returns-clause-call
returns-clause-call g c = λ course es a b keeps. survives_the_call g.D.Disk g.met.D.Disk.earlier course es a b keeps

pub returns-clause-growth : goal.returns-clause-growth
returns-clause-growth g c = λ course es a b keeps. survives_the_growth g.D.Disk g.met.D.Disk.earlier course es a b keeps

pub returns-clause-end : goal.returns-clause-end
returns-clause-end g c = λ course es a b keeps. enough g.D.Disk g.met.D.Disk.earlier course es a b keeps
