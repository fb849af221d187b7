use Rattle.ctr_legal.proofs.Ready.{replies_tell}
use Rattle.ctr_legal.proofs.laws.replies_tell.Goals as goal

pub returns : goal.returns
returns c = replies_tell
