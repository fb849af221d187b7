use Rattle.ctr_redo.proofs.Generations.{state_checkpoint}
use Rattle.ctr_redo.proofs.laws.a_checkpoint_is_no_step.Goals as goal

pub returns : goal.returns
returns c next lists s same = state_checkpoint next lists s same
