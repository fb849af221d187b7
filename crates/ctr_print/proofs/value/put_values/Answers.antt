use Rattle.ctr_print.proofs.Joins.{both, put_as}
use Rattle.ctr_print.proofs.Lists.{values_text-cons}
use Rattle.ctr_print.proofs.value.put_values.Goals as goal

pub returns : goal.returns
returns g c =
    let all = both c.put_value.ensures c.put_each.ensures in
    rw c.in-Some.ensures.cases.0 (put_as (values_text-cons c.in-Some.first.now c.in-Some.others.now) all)
