use Rattle.ctr_cleaner.proofs.Due.{unseen_due}
use Rattle.ctr_cleaner.proofs.laws.what_is_unseen_is_due.Goals as goal

pub returns : goal.returns
returns c = λ locks low x s database closed drawn its unseen. unseen_due s low database closed drawn locks x its unseen
