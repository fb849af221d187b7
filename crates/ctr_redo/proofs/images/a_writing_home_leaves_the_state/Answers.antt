use Rattle.ctr_redo.proofs.ImageLaws.{folds_written}
use Rattle.ctr_redo.proofs.images.a_writing_home_leaves_the_state.Goals as goal

pub returns : goal.returns
returns c root p v old new sound may which = folds_written root p v old new sound may which
