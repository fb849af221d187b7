use Rattle.ctr_meta.proofs.LastLaws.{all_last}
use Rattle.ctr_meta.proofs.room.xids_last.Goals as goal

pub returns : goal.returns
returns c = all_last
