use Rattle.ctr_session_world.specs.kept_Turns.{state_now}
use Rattle.ctr_session_world.specs.World.{names_in}
use Rattle.ctr_looks.proofs.grants.room_shows_the_same.Goals as goal

pub returns : goal.returns
returns g c = λ run opened a b h s statement made next mid room. c.key_locks_show.ensures.room (names_in a.now) s h.locks mid.locks (state_now run next.mind) room.locks next.world.locks
