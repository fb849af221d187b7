use Rattle.ctr_paged.proofs.Moved.{moved}
use Rattle.ctr_paged.proofs.laws.an_action_is_shown.Goals as goal

pub returns : goal.returns
returns c = λ low x a site old new shown owed bounds moves. moved low site old shown x a new owed bounds moves
