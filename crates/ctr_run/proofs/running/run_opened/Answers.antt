use Rattle.std.proofs.Common.{◌∙◌, ap, subst, sym}
use Rattle.std.specs.List.{AllByRecursion}
use Rattle.ctr_model.specs.Tape.{statements_on, IsSerial}
use Rattle.ctr_serial.proofs.Lists.{serial_front}
use Rattle.ctr_world.specs.Ended.{IsUnbegunWorld}
use Rattle.ctr_world.specs.Opened.{IsRunLine}
use Rattle.ctr_run.proofs.Ends.{begins_serial}
use Rattle.ctr_run.proofs.Promises.{untouched}
use Rattle.ctr_run.proofs.running.run_opened.Goals as goal

-- ---- memory was refused

pub returns-in_default-clause-runs : goal.returns-in_default-clause-runs
returns-in_default-clause-runs g c =
    let t = c.none.ensures in
    untouched g.D.Disk g.met.D.Disk.earlier c.args.disk c.args.script.lines c.args.totals c.none.result t.tape t.undone t.totals g.met.D.Disk.only_now t.end t.disk

pub returns-in_default-clause-serial : goal.returns-in_default-clause-serial
returns-in_default-clause-serial g c = λ is. serial_front c.args.script.lines 0 c.none.result.left.tape.entries (ap statements_on c.none.ensures.tape)

-- ---- the database wasn't opened

pub returns-in-Err-clause-runs : goal.returns-in-Err-clause-runs
returns-in-Err-clause-runs g c = c.in-Err.ensures.refused c.args.totals

pub returns-in-Err-clause-serial : goal.returns-in-Err-clause-serial
returns-in-Err-clause-serial g c = λ is. serial_front c.args.script.lines 0 c.in-Err.ran.left.tape.entries (ap statements_on c.in-Err.ensures.none.tape)

-- ---- the World has ended

pub returns-clause-runs : goal.returns-clause-runs
returns-clause-runs g c = c.finished.ensures.runs c.args.disk c.args.script.lines c.requires.named c.requires.before c.in-Ok-opened.ensures.passes

pub returns-clause-serial : goal.returns-clause-serial
returns-clause-serial g c = λ is.
    let o = g.B.Opening in
    let lines_are = c.requires.named.lines_are in
    let begun = c.in-Ok-opened.ensures.begins in
    let ran = c.run_turns.ensures is (begins_serial o.start o.lines c.in-Ok-opened.world (begun.lines_are ∙ sym lines_are) (subst (λ ls. IsUnbegunWorld ls c.in-Ok-opened.world) (sym lines_are) begun)) in
    subst (λ ls. IsSerial ls c.finished.result.left.tape.entries) lines_are
    (c.finished.ensures.serial ran (subst (AllByRecursion IsRunLine) (sym lines_are) c.requires.runs.each))
