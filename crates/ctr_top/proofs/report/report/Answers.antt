use Rattle.std.proofs.Common.{◌∙◌, ap, sym, subst, arith}
use Rattle.std.specs.Prelude.{◌≤◌}
use Rattle.ctr_top.proofs.ReportLemmas.{counted, uncounted}
use Rattle.ctr_top.proofs.report.report.Goals as goal

pub returns-in-Ok-clause-leaves : goal.returns-in-Ok-clause-leaves
returns-in-Ok-clause-leaves g c =
    let t = c.without_tape.ensures in
    let e = c.in-Ok.ensures in
    counted g.D.Disk c.args.disk c.without_tape.result (t.tape, t.undone) c.in-Ok.disk t.disk e.any_moment t.ending e.calm.1 e.passes

pub returns-in-Err-clause-leaves : goal.returns-in-Err-clause-leaves
returns-in-Err-clause-leaves g c =
    let t = c.without_tape-in-Err.ensures in
    let e = c.in-Err.ensures in
    uncounted g.D.Disk c.args.disk c.without_tape-in-Err.result (t.tape, t.undone) c.in-Err.disk t.disk e.any_moment c.in-Err.error (t.ending ∙ c.not_opened.ensures) e.stays e.refused e.undamaged

pub returns-in-Ok-clause-faults : goal.returns-in-Ok-clause-faults
returns-in-Ok-clause-faults g c =
    let d = g.D.Disk in
    subst (λ n. d.faults_of c.args.disk ≤ n) (sym (ap (λ e. d.faults_of e) c.without_tape.ensures.disk ∙ c.in-Ok.ensures.calm.1)) (omega arith)

pub returns-in-Err-clause-faults : goal.returns-in-Err-clause-faults
returns-in-Err-clause-faults g c =
    let d = g.D.Disk in
    subst (λ e. d.faults_of c.args.disk ≤ d.faults_of e) (sym c.without_tape-in-Err.ensures.disk) c.in-Err.ensures.stays.faults_later

pub returns-in-Ok-clause-later : goal.returns-in-Ok-clause-later
returns-in-Ok-clause-later g c =
    let d = g.D.Disk in
    subst (λ e. d.moment_of c.args.disk ≤ d.moment_of e) (sym c.without_tape.ensures.disk) c.in-Ok.ensures.calm.0

pub returns-in-Err-clause-later : goal.returns-in-Err-clause-later
returns-in-Err-clause-later g c =
    let d = g.D.Disk in
    subst (λ e. d.moment_of c.args.disk ≤ d.moment_of e) (sym c.without_tape-in-Err.ensures.disk) c.in-Err.ensures.stays.later
