use Rattle.std.proofs.Common.{◌∙◌, sym, arith}
use Rattle.ctr_top.proofs.NothingDone.{ends_refused, ran_unread}
use Rattle.ctr_top.proofs.RunLemmas.{not_read_fine, read_causes, read_ran, run_causes, run_forward}
use Rattle.ctr_top.proofs.ScriptLemmas.{lines_run, lines_at_most}
use Rattle.ctr_top.proofs.script.run_script_on_threads.Goals as goal

pub run_on_threads-ran-requires-clause-runs : goal.run_on_threads-ran-requires-clause-runs
run_on_threads-ran-requires-clause-runs g c κs within =
    let s = c.in-Ok.ensures.is_script in
    record { each = lines_run s.0 c.in-Ok.script.lines s.1.written; few = omega (arith, lines_at_most s.0 c.in-Ok.script.lines s.1.written, s.1.few) }

-- ---- a script that was read

pub returns-in-Ok-clause-ran : goal.returns-in-Ok-clause-ran
returns-in-Ok-clause-ran g c =
    let r = c.in-Ok.ensures in
    read_ran g.D.Disk c.args.disk g.S.Source c.args.source.now c.read_script.new.source c.in-Ok.script c.run_on_threads-ran.result c.ended.result c.ended.ensures c.run_on_threads-ran.ensures.runs r.is_script r.read

pub returns-in-Ok-clause-causes : goal.returns-in-Ok-clause-causes
returns-in-Ok-clause-causes g c =
    let r = c.in-Ok.ensures in
    run_causes g.D.Disk c.args.disk g.S.Source c.args.source.now c.read_script.new.source c.in-Ok.script c.run_on_threads-ran.result c.ended.result c.ended.ensures c.run_on_threads-ran.ensures.runs r.read r.only (r.faults.fine (λ is. absurd (cc is)))

pub returns-in-Ok-clause-forward : goal.returns-in-Ok-clause-forward
returns-in-Ok-clause-forward g c =
    let r = c.in-Ok.ensures in
    run_forward g.D.Disk c.args.disk g.S.Source c.args.source.now c.read_script.new.source c.in-Ok.script c.run_on_threads-ran.result c.ended.result c.ended.ensures c.run_on_threads-ran.ensures.runs r.faults.later r.taken

-- ---- one that wasn't

pub returns-in-Err-clause-ran : goal.returns-in-Err-clause-ran
returns-in-Err-clause-ran g c =
    let t = c.without_tape.ensures in
    let laws = (g.met.D.Disk g.world.𝓛 g.world.𝓜 g.world.𝓡 ((λ s x. x), (λ x. x), (λ x. x), λ x. x)) in
    ran_unread g.D.Disk laws.earlier laws.only_now c.args.disk c.without_tape.result t.disk t.tape t.undone g.S.Source c.args.source.now
    (λ is. not_read_fine c.in-Err.error (sym (t.ending ∙ c.not_read.ensures) ∙ is))

pub returns-in-Err-clause-causes : goal.returns-in-Err-clause-causes
returns-in-Err-clause-causes g c =
    let d = g.D.Disk in
    let t = c.without_tape.ensures in
    let e = c.in-Err.ensures in
    let laws = (g.met.D.Disk g.world.𝓛 g.world.𝓜 g.world.𝓡 ((λ s x. x), (λ x. x), (λ x. x), λ x. x)) in
    read_causes d c.args.disk g.S.Source c.args.source.now c.read_script.new.source c.without_tape.result c.in-Err.error (t.ending ∙ c.not_read.ensures)
    (λ memory. ends_refused d laws.earlier laws.only_now c.args.disk c.without_tape.result t.disk t.tape t.undone memory)
    e.reason (λ is. e.faults.failed (cc is)) e.only (t.tape, t.undone) t.disk (λ isnt. e.faults.fine (λ is. isnt (cc is)))
