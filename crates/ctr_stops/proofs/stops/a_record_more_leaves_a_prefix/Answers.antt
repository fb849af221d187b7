use Rattle.ctr_stops.proofs.Turns.{kept_logged, kept_noted}
use Rattle.ctr_stops.proofs.stops.a_record_more_leaves_a_prefix.Goals as goal

pub returns-clause-logged : goal.returns-clause-logged
returns-clause-logged g c = λ course es entries more r a b keeps. kept_logged g.D.Disk g.met.D.Disk.earlier course es a b keeps r more entries

pub returns-clause-none : goal.returns-clause-none
returns-clause-none g c = λ course es entries a b keeps. kept_noted g.D.Disk g.met.D.Disk.earlier course es a b keeps entries
