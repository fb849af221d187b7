use Rattle.ctr_kept.proofs.Beginning.{walk_begins}
use Rattle.ctr_kept.proofs.walks.a_walk_begins.Goals as goal

pub returns : goal.returns
returns c = λ lines moment site bounds few sound some. walk_begins lines moment site bounds few sound some
