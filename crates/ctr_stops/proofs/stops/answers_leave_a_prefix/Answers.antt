use Rattle.ctr_stops.proofs.Turns.{kept_answered}
use Rattle.ctr_stops.proofs.stops.answers_leave_a_prefix.Goals as goal

pub returns : goal.returns
returns g c = λ course es entries a b keeps. kept_answered g.D.Disk g.met.D.Disk.earlier course es a b keeps entries
