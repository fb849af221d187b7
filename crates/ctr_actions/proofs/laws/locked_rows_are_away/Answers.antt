use Rattle.ctr_actions.proofs.Slots.{rows_apart, slots_apart, copies_apart}
use Rattle.ctr_actions.proofs.laws.locked_rows_are_away.Goals as goal

pub returns-clause-written : goal.returns-clause-written
returns-clause-written c = rows_apart

pub returns-clause-slots : goal.returns-clause-slots
returns-clause-slots c = slots_apart

pub returns-clause-copies : goal.returns-clause-copies
returns-clause-copies c = λ s x e f at q r version bounds sound owed spare other. copies_apart s e f at q r version sound owed spare other
