use Rattle.std.proofs.Common.{◌∙◌, sym, subst, ap, arith}
use Rattle.ctr_model.specs.Tape.{statements_on, IsSerial}
use Rattle.ctr_serial.proofs.Lists.{serial_front}
use Rattle.ctr_top.proofs.NothingDone.{ends_refused, ran_unread}
use Rattle.ctr_top.proofs.RunLemmas.{not_read_fine, read_causes, read_ran, run_causes, run_forward}
use Rattle.ctr_top.proofs.ScriptLemmas.{lines_run, lines_at_most}
use Rattle.ctr_top.proofs.script.run_script.Goals as goal

pub run-ran-requires-clause-runs : goal.run-ran-requires-clause-runs
run-ran-requires-clause-runs g c =
    let s = c.in-Ok.ensures.is_script in
    record { each = lines_run s.0 c.in-Ok.script.lines s.1.written; few = omega (arith, lines_at_most s.0 c.in-Ok.script.lines s.1.written, s.1.few) }

-- ---- a script that was read

pub returns-in-Ok-clause-ran : goal.returns-in-Ok-clause-ran
returns-in-Ok-clause-ran g c =
    let r = c.in-Ok.ensures in
    read_ran g.D.Disk c.args.disk g.S.Source c.args.source.now c.read_script.new.source c.in-Ok.script c.run-ran.result c.ended.result c.ended.ensures (record { ran = c.run-ran.ensures.ran; order = c.run-ran.ensures.order; none = c.run-ran.ensures.none; ends = c.run-ran.ensures.ends; counts = c.run-ran.ensures.counts; complete = c.run-ran.ensures.complete }) r.is_script r.read

pub returns-in-Ok-clause-causes : goal.returns-in-Ok-clause-causes
returns-in-Ok-clause-causes g c =
    let r = c.in-Ok.ensures in
    run_causes g.D.Disk c.args.disk g.S.Source c.args.source.now c.read_script.new.source c.in-Ok.script c.run-ran.result c.ended.result c.ended.ensures (record { ran = c.run-ran.ensures.ran; order = c.run-ran.ensures.order; none = c.run-ran.ensures.none; ends = c.run-ran.ensures.ends; counts = c.run-ran.ensures.counts; complete = c.run-ran.ensures.complete }) r.read r.only (r.faults.fine (λ is. absurd (cc is)))

pub returns-in-Ok-clause-serial : goal.returns-in-Ok-clause-serial
returns-in-Ok-clause-serial g c = λ is told lines written.
    let r = c.in-Ok.ensures in
    let same = (r.only told).script lines (record { written = written; few = (r.read told).few }) in
    subst (λ ls. IsSerial ls c.run-ran.result.left.tape.entries) same (c.run-ran.ensures.serial is)

pub returns-in-Ok-clause-forward : goal.returns-in-Ok-clause-forward
returns-in-Ok-clause-forward g c =
    let r = c.in-Ok.ensures in
    run_forward g.D.Disk c.args.disk g.S.Source c.args.source.now c.read_script.new.source c.in-Ok.script c.run-ran.result c.ended.result c.ended.ensures (record { ran = c.run-ran.ensures.ran; order = c.run-ran.ensures.order; none = c.run-ran.ensures.none; ends = c.run-ran.ensures.ends; counts = c.run-ran.ensures.counts; complete = c.run-ran.ensures.complete }) r.faults.later r.taken

-- ---- one that wasn't

pub returns-in-Err-clause-ran : goal.returns-in-Err-clause-ran
returns-in-Err-clause-ran g c =
    let t = c.without_tape.ensures in
    ran_unread g.D.Disk g.met.D.Disk.earlier g.met.D.Disk.only_now c.args.disk c.without_tape.result t.disk t.tape t.undone g.S.Source c.args.source.now
    (λ is. not_read_fine c.in-Err.error (sym (t.ending ∙ c.not_read.ensures) ∙ is))

pub returns-in-Err-clause-causes : goal.returns-in-Err-clause-causes
returns-in-Err-clause-causes g c =
    let d = g.D.Disk in
    let t = c.without_tape.ensures in
    let e = c.in-Err.ensures in
    read_causes d c.args.disk g.S.Source c.args.source.now c.read_script.new.source c.without_tape.result c.in-Err.error (t.ending ∙ c.not_read.ensures)
    (λ memory. ends_refused d g.met.D.Disk.earlier g.met.D.Disk.only_now c.args.disk c.without_tape.result t.disk t.tape t.undone memory)
    e.reason (λ is. e.faults.failed (cc is)) e.only (t.tape, t.undone) t.disk (λ isnt. e.faults.fine (λ is. isnt (cc is)))

pub returns-in-Err-clause-serial : goal.returns-in-Err-clause-serial
returns-in-Err-clause-serial g c = λ is told lines written. serial_front lines 0 c.without_tape.result.left.tape.entries (ap statements_on c.without_tape.ensures.tape)
