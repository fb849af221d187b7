use Rattle.ctr_print.proofs.Joins.{both}
use Rattle.ctr_print.proofs.value.put_row.Goals as goal

pub returns : goal.returns
returns g c = rw (← c.as_slice.ensures) (both (both c.put.ensures c.put_values.ensures) c.put-2.ensures)
