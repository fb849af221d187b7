use Rattle.ctr_pvs.proofs.walk_Joins.{pages_join}
use Rattle.ctr_clean.proofs.heads.look_both.Goals as goal

pub returns-in-Ok-clause-leaves : goal.returns-in-Ok-clause-leaves
returns-in-Ok-clause-leaves g c = pages_join g.D.Disk c.args.store.now c.look.new.store c.look-in-Ok.new.store g.O.Origin.first _ _ c.in-Ok.field-0 c.look-in-Ok.result c.in-Ok.ensures.leaves c.look-in-Ok.ensures.leaves
