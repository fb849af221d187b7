use Rattle.ctr_print.proofs.Joins.{both}
use Rattle.ctr_print.proofs.line.put_line.Goals as goal

pub returns : goal.returns
returns g c = both (both c.put_head.ensures c.put_pieces.ensures) c.put.ensures
