use Rattle.ctr_redo.proofs.GrowthLaws.{folds_counted}
use Rattle.ctr_redo.proofs.images.more_pages_can_be_counted.Goals as goal

pub returns : goal.returns
returns c root more old new sound can which = folds_counted root more old new sound can which
