use Rattle.ctr_print.proofs.Joins.{both}
use Rattle.ctr_print.proofs.line.put_refused.Goals as goal

pub returns : goal.returns
returns g c = both (both c.put_head.ensures (both c.put.ensures c.put_refusal.ensures)) c.put-2.ensures
