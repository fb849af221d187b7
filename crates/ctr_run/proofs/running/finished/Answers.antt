use Rattle.std.proofs.Common.{◌∙◌}
use Rattle.ctr_world.proofs.Adding.{turns_add}
use Rattle.ctr_run.proofs.Ends.{serial_end}
use Rattle.ctr_run.proofs.Promises.{came_to_its_end}
use Rattle.ctr_run.proofs.running.finished.Goals as goal

pub returns-clause-runs : goal.returns-clause-runs
returns-clause-runs g c = λ disk lines named before passes.
    let f = c.finish-finished in
    let e = f.ensures in
    came_to_its_end g.B.Opening g.B.Origin.first g.D.Disk disk lines named before c.args.totals f.result c.ended.result c.ended.ensures passes e.ends e.order e.counts e.stops e.forward e.worn

pub returns-clause-serial : goal.returns-clause-serial
returns-clause-serial g c = λ ran runs.
    let f = c.finish-finished in
    let o = g.B.Opening in
    let w = c.args.world in
    let by = f.ensures.turns in
    let adds = turns_add g.D.Disk by.between w by.last by.turns in
    serial_end o.lines runs o.start w c.stands_in_order.ensures.lines ran f.result.tape.entries adds.0 (by.tape_is ∙ adds.1) (λ stopped. (f.ensures.stopped stopped).0) f.ensures.order.tape.order
