use Rattle.ctr_told.specs.stops_World.{course_of}
use Rattle.ctr_session_world.proofs.Left.{left_by}
use Rattle.ctr_session_world.proofs.ending.a_turn_that_ends_leaves_a_prefix.Goals as goal

pub returns : goal.returns
returns g c = λ run opened a b w world. left_by g.D.Disk run opened a b w world (λ m. c.a_call_that_ends_leaves_a_prefix.ensures.call (course_of run opened w) w.tape m b)
    (λ m. c.a_call_that_ends_leaves_a_prefix.ensures.growth (course_of run opened w) w.tape m b) (λ m. c.pages_that_are_read_keep_a_world.ensures run opened a m w world)
