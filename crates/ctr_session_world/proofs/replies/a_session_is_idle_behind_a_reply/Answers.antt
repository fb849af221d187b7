use Rattle.ctr_session_world.proofs.Answered.{idle_behind, idle_rolled}
use Rattle.ctr_session_world.proofs.replies.a_session_is_idle_behind_a_reply.Goals as goal

pub returns-clause-idle : goal.returns-clause-idle
returns-clause-idle g c = λ run opened a b h s statement made next now x r told. idle_behind g.D.Disk run opened a b h s statement made next now x r told c.replies_tell.ensures

pub returns-clause-rolled : goal.returns-clause-rolled
returns-clause-rolled g c = λ run opened a b h s statement made next now r told. idle_rolled g.D.Disk run opened a b h s statement made next now r told
