use Rattle.std.proofs.Common.{sym}
use Rattle.ctr_rec.proofs.Laws.{put-none}
use Rattle.ctr_rec.proofs.encoding.put.Goals as goal

pub returns-in-Nothing-clause-put : goal.returns-in-Nothing-clause-put
returns-in-Nothing-clause-put c = rw c.in-Nothing.is (sym (put-none c.args.at c.args.number c.args.into.now))
