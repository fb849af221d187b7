use Rattle.ctr_redo.proofs.NewLaws.{folds_new}
use Rattle.ctr_redo.proofs.images.a_new_database_is_empty.Goals as goal

pub returns : goal.returns
returns c image is = folds_new image is
