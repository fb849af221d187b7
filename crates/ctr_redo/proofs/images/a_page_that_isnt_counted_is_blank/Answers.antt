use Rattle.ctr_redo.proofs.GrowthLaws.{page_blank}
use Rattle.ctr_redo.proofs.images.a_page_that_isnt_counted_is_blank.Goals as goal

pub returns : goal.returns
returns c root file waiting image p follows beyond inside = page_blank root waiting image p follows.fits beyond inside
