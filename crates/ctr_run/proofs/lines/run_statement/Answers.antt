use Rattle.std.proofs.Common.{sym, ◌∙◌, ap, subst}
use Rattle.ctr_types.specs.declared.tape.Actor.TheVariants as actor
use Rattle.ctr_world.specs.exec_Runners.{runner_at}
use Rattle.ctr_world.specs.Turns.{EndsTurn}
use Rattle.ctr_run.proofs.Between.{begins, goes_next, over, stops_here}
use Rattle.ctr_run.proofs.lines.run_statement.Goals as goal

pub loop-alloc-init : goal.loop-alloc-init
loop-alloc-init g c = λ k x there named runs ran.
    let w = c.args.world.now in
    let at = c.stands_in_order.ensures in
    begins g.D.Disk g.B.Opening.start g.B.Opening.lines runs k x there c.finished-count.result w (record { going = at.going; seats = at.seats; lines_are = at.lines })
    (c.finished-count.ensures ∙ ap (λ s. (runner_at s w.running.sessions.runners.items).finished) (sym named)) ran

pub loop-alloc-smaller : goal.loop-alloc-smaller
loop-alloc-smaller g c = (subst (λ t. EndsTurn g.D.Disk t (actor.Session c.args.session) c.loop-alloc.world c.step.new.self) c.in-Went.is c.step.ensures.says).3.0

pub loop-alloc-preserved : goal.loop-alloc-preserved
loop-alloc-preserved g c = λ k x there named runs ran.
    let w = c.loop-alloc.world in
    let at = c.stands_in_order-in-loop-alloc.ensures in
    let behind = c.stands_in_order-in-Went.ensures in
    goes_next g.D.Disk g.B.Opening.start g.B.Opening.lines runs k x there c.finished-count.result c.step.result w c.step.new.self (record { going = at.going; seats = at.seats; lines_are = at.lines })
    (λ going. record { going = behind.going; seats = behind.seats; lines_are = behind.lines })
    (ap (λ s. (runner_at s w.running.sessions.runners.items).finished) named ∙ sym c.finished.ensures ∙ c.loop-alloc-test.true) (c.loop-alloc.invariant k x there named runs ran)
    (subst (λ s. EndsTurn g.D.Disk c.step.result (actor.Session s) w c.step.new.self) (sym named) c.step.ensures.says)

pub returns-in_default : goal.returns-in_default
returns-in_default g c = λ k x there named runs ran.
    let w = c.loop-alloc.world in
    let at = c.stands_in_order-in-loop-alloc.ensures in
    stops_here g.D.Disk g.B.Opening.start g.B.Opening.lines runs k x there c.finished-count.result c.step.result w c.step.new.self (record { going = at.going; seats = at.seats; lines_are = at.lines }) c.in_default.not-Went
    (ap (λ s. (runner_at s w.running.sessions.runners.items).finished) named ∙ sym c.finished.ensures ∙ c.loop-alloc-test.true) (c.loop-alloc.invariant k x there named runs ran)
    (subst (λ s. EndsTurn g.D.Disk c.step.result (actor.Session s) w c.step.new.self) (sym named) c.step.ensures.says)

pub returns : goal.returns
returns g c = λ k x there named runs ran.
    over g.D.Disk g.B.Opening.start g.B.Opening.lines runs k x there c.finished-count.result c.loop-alloc.world (λ same. c.loop-alloc-test.false (c.finished.ensures ∙ ap (λ s. (runner_at s c.loop-alloc.world.running.sessions.runners.items).finished) (sym named) ∙ same)) (c.loop-alloc.invariant k x there named runs ran)
