use Rattle.std.proofs.Common.{take}
use Rattle.ctr_redo.proofs.StateLaws.{state_push, state_more}
use Rattle.ctr_redo.proofs.laws.records_are_steps.Goals as goal

pub returns-clause-one : goal.returns-clause-one
returns-clause-one c r i below = state_push r i below

pub returns-clause-prefix : goal.returns-clause-prefix
returns-clause-prefix c k rs i below = state_more (take k rs) i below
