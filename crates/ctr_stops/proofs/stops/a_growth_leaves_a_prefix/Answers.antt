use Rattle.ctr_stops.proofs.Turns.{kept_grown}
use Rattle.ctr_stops.proofs.stops.a_growth_leaves_a_prefix.Goals as goal

pub returns : goal.returns
returns g c = λ course es a b keeps. kept_grown g.D.Disk g.met.D.Disk.earlier course es a b keeps
