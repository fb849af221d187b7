use Rattle.ctr_stops.proofs.Together.{world_opened}
use Rattle.ctr_stops.proofs.world.a_world_begins.Goals as goal

pub returns : goal.returns
returns g c = λ lines image s disk v. world_opened g.D.Disk g.met.D.Disk.earlier lines image s disk v
