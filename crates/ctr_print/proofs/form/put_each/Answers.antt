use Rattle.ctr_print.proofs.Joins.{both, put_as}
use Rattle.ctr_print.proofs.Lists.{flat_map-next}
use Rattle.ctr_print.proofs.form.put_each.Goals as goal

pub loop-item-preserved : goal.loop-item-preserved
loop-item-preserved g c = put_as (flat_map-next g.F.Form.text c.args.items.now c.loop-item.item-index c.item-item.result c.item-item.is c.loop-item-test.true) (both c.loop-item.invariant c.put.ensures)
