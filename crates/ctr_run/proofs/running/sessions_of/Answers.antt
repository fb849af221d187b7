use Rattle.std.proofs.Common.{◌∙◌, ◌<◌, List, length, get_or, ap, subst}
use Rattle.ctr_types.specs.declared.statement.Line.{Line}
use Rattle.ctr_serial.proofs.Walking.{session_next}
use Rattle.ctr_run.proofs.running.sessions_of.Goals as goal

pub loop-line-preserved : goal.loop-line-preserved
loop-line-preserved c =
    let k = c.loop-line.line-index in
    let line = c.line-item.result in
    let lines = c.as_slice-line-items.ensures in
    session_next c.args.script.now.lines k line c.loop-line.sessions.items c.push.new.self.items c.loop-line.invariant c.in_ok-push.ensures.items
    (c.line-item.is ∙ ap (λ (ls : List Line). get_or ls k line) lines) (subst (λ (ls : List Line). k < length ls) lines c.loop-line-test.true)
