use Rattle.ctr_print.proofs.Joins.{both}
use Rattle.ctr_print.proofs.value.FollowingFormValue.put.Goals as goal

pub returns : goal.returns
returns g c = both c.put.ensures c.put_value.ensures
