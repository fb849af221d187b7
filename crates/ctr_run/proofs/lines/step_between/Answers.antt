use Rattle.ctr_run.proofs.Between.{rests}
use Rattle.ctr_run.proofs.lines.step_between.Goals as goal

pub returns : goal.returns
returns g c = λ k runs ran.
    let before = c.stands_in_order.ensures in
    let behind = c.stands_in_order-2.ensures in
    rests g.D.Disk g.B.Opening.start g.B.Opening.lines runs k c.step.result c.args.actor c.requires.behind c.args.world.now c.step.new.self (record { going = before.going; seats = before.seats; lines_are = before.lines })
    (λ going. record { going = behind.going; seats = behind.seats; lines_are = behind.lines }) c.step.ensures.says ran
