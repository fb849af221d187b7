use Rattle.ctr_exec.proofs.Beginning.{begins}
use Rattle.ctr_exec.proofs.laws.a_script_begins_in_a_world.Goals as goal

pub returns : goal.returns
returns g c = λ run opened v h keeps fresh lines stuck. begins g.D.Disk run opened v h keeps fresh lines stuck
