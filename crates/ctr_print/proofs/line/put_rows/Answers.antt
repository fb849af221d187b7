use Rattle.ctr_print.proofs.Joins.{both}
use Rattle.ctr_print.proofs.line.put_rows.Goals as goal

pub returns : goal.returns
returns g c = rw (← c.as_slice-rows.ensures) (both c.put_line.ensures c.put_each.ensures)
