use Rattle.ctr_redo.proofs.ImageLaws.{folds_flushed}
use Rattle.ctr_redo.proofs.images.a_flush_leaves_a_prefix.Goals as goal

pub returns : goal.returns
returns c root file waiting old new sound is keeps = folds_flushed root file waiting old new sound is keeps
