use Rattle.ctr_rec.proofs.Listed.{listed_members}
use Rattle.ctr_rec.proofs.lists.one_list.Goals as goal

pub returns : goal.returns
returns c next opens aborted items fit xids =
    let read = listed_members next opens aborted items fit in
    (read.opens_are, read.aborted_are, read.items_are xids)
