use Rattle.ctr_types.specs.declared.tape.Reply.TheVariants as reply
use Rattle.ctr_types.specs.declared.tape.Refusal.TheVariants as refusal
use Rattle.ctr_session_world.specs.kept_Turns.{state_now}
use Rattle.ctr_session_world.proofs.Resting.{refused_as, tables_roomy}
use Rattle.ctr_session_world.proofs.Standing.{comes}
use Rattle.ctr_looks.proofs.Unrefused.{in_turn, wants}
use Rattle.ctr_looks.proofs.grants.a_look_that_wants_memory_is_told.Goals as goal

pub returns : goal.returns
returns g c = λ run opened a b h s statement next x look first free mid room rested.
    let state = state_now run next.mind in
    let come = comes g.D.Disk run opened a b h s statement 0 next x (reply.Refused refusal.OutOfMemory) (first state s) (in_turn state s x look) (wants g.D.Disk run opened a b h s statement next x look free.seat free.free) in
    refused_as g.D.Disk run opened a b h s statement 0 next mid room.run (c.room_shows_the_same.ensures run opened a b h s statement 0 next mid room) (tables_roomy g.D.Disk run opened a b h s statement 0 next mid room.locks)
    x refusal.OutOfMemory rested
    (c.a_refusal_is_told.ensures.inside run opened a b next.mind s (record { keeps = next.world.keeps; seat = free.seat; e = next.e; at_end = next.at_end }) x refusal.OutOfMemory come rested)
