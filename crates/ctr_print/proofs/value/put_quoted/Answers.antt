use Rattle.ctr_print.proofs.Joins.{both}
use Rattle.ctr_print.proofs.value.put_quoted.Goals as goal

pub returns : goal.returns
returns g c = both (both c.put.ensures c.put_each.ensures) c.put-2.ensures
