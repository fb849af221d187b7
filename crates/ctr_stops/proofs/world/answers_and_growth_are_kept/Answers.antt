use Rattle.ctr_stops.proofs.Together.{world_answered, world_grown}
use Rattle.ctr_stops.proofs.world.answers_and_growth_are_kept.Goals as goal

pub returns-clause-answers : goal.returns-clause-answers
returns-clause-answers g c = λ start opened a b w n world. world_answered g.D.Disk g.met.D.Disk.earlier c.states_grow.ensures start opened a b w world n

pub returns-clause-growth : goal.returns-clause-growth
returns-clause-growth g c = λ start opened a b w world. world_grown g.D.Disk g.met.D.Disk.earlier c.states_grow.ensures start opened a b w world c.a_sound_state_stays_sound.ensures.growth
