use Rattle.ctr_walk.proofs.Damages.{reading_counted}
use Rattle.ctr_walk.proofs.damage.a_fault_of_reading_is_counted.Goals as goal

pub returns : goal.returns
returns g c = λ first a b result. reading_counted first g.D.Disk a b result
