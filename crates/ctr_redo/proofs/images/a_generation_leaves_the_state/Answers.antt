use Rattle.ctr_redo.proofs.BeginLaws.{folds_begun}
use Rattle.ctr_redo.proofs.images.a_generation_leaves_the_state.Goals as goal

pub returns : goal.returns
returns c root checkpoint old new sound may keeps = folds_begun root checkpoint old new sound may keeps
