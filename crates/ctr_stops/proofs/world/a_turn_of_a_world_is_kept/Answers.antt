use Rattle.ctr_stops.proofs.Together.{world_logged, world_noted}
use Rattle.ctr_stops.proofs.world.a_turn_of_a_world_is_kept.Goals as goal

pub returns-clause-logged : goal.returns-clause-logged
returns-clause-logged g c = λ start opened a b w v entries r world. world_logged g.D.Disk g.met.D.Disk.earlier c.states_grow.ensures start opened a b w world v entries r

pub returns-clause-none : goal.returns-clause-none
returns-clause-none g c = λ start opened a b w v entries world. world_noted g.D.Disk g.met.D.Disk.earlier c.states_grow.ensures start opened a b w world v entries
