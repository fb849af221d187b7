use Rattle.std.proofs.Common.{◌≡◌, ◌≤◌, length, arith, subst}
use Rattle.ctr_world.specs.Opened.{IsRunLine}
use Rattle.ctr_run.specs.Lines.{RanOrStopped}
use Rattle.ctr_serial.proofs.Walking.{line_there, line_has, as_many}
use Rattle.ctr_run.proofs.lines.run_lines.Goals as goal

pub run_line-requires : goal.run_line-requires
run_line-requires g c =
    let lines = g.B.Opening.lines in
    let k = c.loop-session.session-index in
    let at = line_there lines c.args.sessions.now k c.requires.named c.loop-session-test.true in
    record { some = subst (λ s. 1 ≤ s) at.2 (line_has IsRunLine lines k at.0 c.requires.runs at.1).least }

pub loop-session-preserved : goal.loop-session-preserved
loop-session-preserved g c = λ ran.
    let lines = g.B.Opening.lines in
    let k = c.loop-session.session-index in
    let at = line_there lines c.args.sessions.now k c.requires.named c.loop-session-test.true in
    c.run_line.ensures k at.0 at.1 at.2 c.requires.runs (c.loop-session.invariant ran)

pub returns : goal.returns
returns g c = λ ran.
    let lines = g.B.Opening.lines in
    let least = c.loop-session.auto.session-index-end in
    let most = c.loop-session-test.false in
    let many = as_many lines c.args.sessions.now c.requires.named in
    let is : c.loop-session.session-index ≡ length lines = omega (arith, least, most, many) in
    subst (λ n. RanOrStopped g.B.Opening.start lines n c.loop-session.world) is (c.loop-session.invariant ran)
