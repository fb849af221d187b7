use Rattle.ctr_names.proofs.Search.{found_undropped, unseen}
use Rattle.ctr_names.proofs.finding.a_held_name_can_be_made_or_dropped.Goals as goal

pub returns-clause-drop : goal.returns-clause-drop
returns-clause-drop c = λ counted low tables area xids state look f sound bounds names looks alone quiet found.
    found_undropped counted low tables area xids state look sound bounds names looks alone quiet f found.0 found.1 found.2

pub returns-clause-create : goal.returns-clause-create
returns-clause-create c = λ counted low tables area xids state look f sound bounds names looks open_ alone quiet none lt alive is.
    unseen counted low tables area xids state look sound bounds names looks open_ alone quiet none f lt alive is
