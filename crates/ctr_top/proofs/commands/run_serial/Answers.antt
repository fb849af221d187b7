use Rattle.std.proofs.Common.{◌≡◌, ◌⊎◌, ◌∙◌, inl, inr, Some, false, refl, sym, ap, ap₂, subst}
use Rattle.ctr_types.specs.Faults.{CountsFault}
use Rattle.ctr_model.specs.declared.tape.Command.TheVariants as command
use Rattle.ctr_model.specs.Tape.{statements_on}
use Rattle.ctr_serial.proofs.Lists.{serial_front}
use Rattle.ctr_words.specs.declared.words.Subcommand.TheVariants.{Init, Load, Run, Report}
use Rattle.ctr_top.specs.declared.ending.Ending.TheVariants as ending
use Rattle.ctr_load.specs.Generated.{generated}
use Rattle.ctr_top.specs.Top.{Loads, RanScript, RunCauses, ReportLeaves, Makes, command_told, work_of}
use Rattle.ctr_top.proofs.CompleteLemmas.{complete_put}
use Rattle.ctr_top.proofs.EndLemmas.{memory_only, minds_none, not_begun, prints, prints_any, prints_load, work_back}
use Rattle.ctr_top.proofs.LoadLemmas.{lines_asked, loads_refused}
use Rattle.ctr_top.proofs.NothingDone.{ran_refused, causes_refused, makes_refused, reports_refused}
use Rattle.ctr_top.proofs.commands.run_serial.Goals as goal

-- ---- words that ask for nothing, or memory that was refused at once

pub returns-in-Err-clause-printed : goal.returns-in-Err-clause-printed
returns-in-Err-clause-printed g c =
    let is = c.without_tape-outcome.ensures.ending ∙ c.not_asked.ensures in
    let none = subst (λ e. (e ≡ ending.Usage) ⊎ (e ≡ ending.OutOfMemory)) (sym is) (not_begun _ c.in-Err.why c.in-Err.ensures.unasked) in
    prints_any g.K.Sink c.args.sink.now c.ending.new.sink c.ending.result c.without_tape-outcome.result c.ending.ensures.outcome c.ending.ensures.report none c.without_tape-outcome.ensures.tape command.Run _ c.ending.ensures.printed

pub returns-in-Err-clause-usage : goal.returns-in-Err-clause-usage
returns-in-Err-clause-usage g c =
    let t = c.without_tape-outcome.ensures in
    let is = c.ending.ensures.outcome in
    minds_none g.S.Source _ c.args.disk c.ending.result c.args.source.now c.in-Err.why c.in-Err.ensures.unasked (ap (λ o. o.ending) is ∙ t.ending ∙ c.not_asked.ensures) (ap (λ o. o.left.disk) is ∙ t.disk) (ap (λ o. o.left.tape.entries) is ∙ t.tape, ap (λ o. o.left.undone) is ∙ t.undone)

pub returns-in-Err-clause-ran : goal.returns-in-Err-clause-ran
returns-in-Err-clause-ran g c = λ frames threads keys is.
    let d = g.D.Disk in
    let t = c.without_tape-outcome.ensures in
    subst (RanScript d c.args.disk g.S.Source c.args.source.now) (sym c.ending.ensures.outcome)
    (ran_refused d g.met.D.Disk.earlier g.met.D.Disk.only_now c.args.disk c.without_tape-outcome.result t.disk t.tape t.undone (t.ending ∙ c.not_asked.ensures ∙ memory_only _ c.in-Err.why c.in-Err.ensures.unasked (Run frames threads keys) is) g.S.Source c.args.source.now)

pub returns-in-Err-clause-run_causes : goal.returns-in-Err-clause-run_causes
returns-in-Err-clause-run_causes g c = λ frames threads keys is.
    let d = g.D.Disk in
    let t = c.without_tape-outcome.ensures in
    subst (RunCauses d c.args.disk g.S.Source c.args.source.now c.args.source.now) (sym c.ending.ensures.outcome)
    (causes_refused d g.met.D.Disk.earlier g.met.D.Disk.only_now c.args.disk c.without_tape-outcome.result t.disk t.tape t.undone (t.ending ∙ c.not_asked.ensures ∙ memory_only _ c.in-Err.why c.in-Err.ensures.unasked (Run frames threads keys) is) g.S.Source c.args.source.now)

pub returns-in-Err-clause-serial : goal.returns-in-Err-clause-serial
returns-in-Err-clause-serial g c = λ frames threads keys is told lines written.
    serial_front lines 0 c.ending.result.left.tape.entries (ap (λ o. statements_on o.left.tape.entries) c.ending.ensures.outcome ∙ ap statements_on c.without_tape-outcome.ensures.tape)

pub returns-in-Err-clause-complete : goal.returns-in-Err-clause-complete
returns-in-Err-clause-complete g c = λ frames threads keys is told source_told ls script base stands passes none.
    let t = c.without_tape-outcome.ensures in
    let outcome = c.ending.ensures.outcome in
    let memory = ap (λ o. o.ending) outcome ∙ t.ending ∙ c.not_asked.ensures ∙ memory_only _ c.in-Err.why c.in-Err.ensures.unasked (Run frames threads keys) is in
    inr (inl (work_back c.ending.result.ending ending.OutOfMemory memory (λ fine. absurd (cc fine)), ap (λ o. o.left.tape.entries) outcome ∙ t.tape))

pub returns-in-Err-clause-init : goal.returns-in-Err-clause-init
returns-in-Err-clause-init g c = λ is.
    let d = g.D.Disk in
    let t = c.without_tape-outcome.ensures in
    subst (Makes d c.args.disk) (sym c.ending.ensures.outcome)
    (makes_refused d g.met.D.Disk.earlier g.met.D.Disk.only_now c.args.disk c.without_tape-outcome.result t.disk t.tape t.undone (t.ending ∙ c.not_asked.ensures ∙ memory_only _ c.in-Err.why c.in-Err.ensures.unasked Init is))

pub returns-in-Err-clause-report : goal.returns-in-Err-clause-report
returns-in-Err-clause-report g c = λ is.
    let d = g.D.Disk in
    let t = c.without_tape-outcome.ensures in
    let outcome = c.ending.ensures.outcome in
    let memory = t.ending ∙ c.not_asked.ensures ∙ memory_only _ c.in-Err.why c.in-Err.ensures.unasked Report is in
    record {
      leaves = subst (ReportLeaves d c.args.disk) (sym outcome) (reports_refused d g.met.D.Disk.earlier g.met.D.Disk.only_now c.args.disk c.without_tape-outcome.result t.disk t.tape t.undone memory);
      counts = λ base told stands fine. absurd (cc (sym fine ∙ ap (λ o. o.ending) outcome ∙ memory));
    }

pub returns-in-Err-clause-loaded : goal.returns-in-Err-clause-loaded
returns-in-Err-clause-loaded g c = λ frames threads keys sessions count seed is.
    let d = g.D.Disk in
    let t = c.without_tape-outcome.ensures in
    subst (Loads d c.args.disk (generated sessions count seed) false) (sym c.ending.ensures.outcome)
    (loads_refused d g.met.D.Disk.earlier g.met.D.Disk.only_now c.args.disk (generated sessions count seed) false c.without_tape-outcome.result t.disk t.tape t.undone t.totals (t.ending ∙ c.not_asked.ensures ∙ memory_only _ c.in-Err.why c.in-Err.ensures.unasked (Load frames threads keys sessions count seed) is))

-- ---- a load

pub returns-in-Load-clause-printed : goal.returns-in-Load-clause-printed
returns-in-Load-clause-printed g c =
    let e = c.ending-in-Load.ensures in
    prints_load g.K.Sink c.args.sink.now c.ending-in-Load.new.sink c.ending-in-Load.result c.load-statements.result.1 e.outcome e.report _ _ _ c.load-statements.ensures.statements _
    (sym (ap (λ a. command_told a c.ending-in-Load.result.survey) (c.in-Ok.ensures.asked ∙ ap Some c.in-Load.is))) e.printed

pub returns-in-Load-clause-loaded : goal.returns-in-Load-clause-loaded
returns-in-Load-clause-loaded g c = λ frames threads keys sessions count seed is.
    let d = g.D.Disk in
    let o = work_of c.ending-in-Load.result in
    subst (λ ls. Loads d c.args.disk ls false o) (ap lines_asked (sym (c.in-Ok.ensures.asked ∙ ap Some c.in-Load.is) ∙ is))
    (subst (Loads d c.args.disk (generated c.in-Load.sessions c.in-Load.count c.in-Load.seed) false) (sym c.ending-in-Load.ensures.outcome) c.load-statements.ensures.loads)

-- ---- a report

pub returns-in-Report-clause-printed : goal.returns-in-Report-clause-printed
returns-in-Report-clause-printed g c =
    let e = c.ending-in-Report.ensures in
    let counts = e.survey _ refl in
    prints g.K.Sink c.args.sink.now c.ending-in-Report.new.sink c.ending-in-Report.result c.report-outcome.result.1 e.outcome e.report (command.Survey c.report-outcome.result.0) _
    (sym (ap₂ command_told (c.in-Ok.ensures.asked ∙ ap Some c.in-Report.is) counts)) e.printed

pub returns-in-Report-clause-report : goal.returns-in-Report-clause-report
returns-in-Report-clause-report g c = λ is.
    let d = g.D.Disk in
    let e = c.ending-in-Report.ensures in
    let r = c.report-outcome.ensures in
    record {
      leaves = subst (ReportLeaves d c.args.disk) (sym e.outcome) r.leaves;
      counts = λ base told stands fine. e.survey _ refl ∙ r.counts base told stands (sym (ap (λ o. o.ending) e.outcome) ∙ fine);
    }

-- ---- a run

pub returns-in-Run-clause-printed : goal.returns-in-Run-clause-printed
returns-in-Run-clause-printed g c =
    let e = c.ending-in-Run.ensures in
    prints g.K.Sink c.args.sink.now c.ending-in-Run.new.sink c.ending-in-Run.result c.run_script-outcome.result e.outcome e.report command.Run _
    (sym (ap (λ a. command_told a c.ending-in-Run.result.survey) (c.in-Ok.ensures.asked ∙ ap Some c.in-Run.is))) e.printed

pub returns-in-Run-clause-complete : goal.returns-in-Run-clause-complete
returns-in-Run-clause-complete g c = λ frames threads keys is told source_told ls script base stands passes none.
    let d = g.D.Disk in
    let r = c.run_script-outcome in
    let e = c.ending-in-Run in
    complete_put c.one_script.ensures.never_both d c.args.disk g.S.Source c.args.source.now r.new.source r.result r.ensures.causes told source_told ls script base stands passes
    (λ rose. none.no_disk (subst (λ o. CountsFault (d.faults_of c.args.disk) (d.faults_of o.left.disk)) (sym e.ensures.outcome) rose)) none.no_source e.result e.ensures.outcome
    (λ is_fault. none.no_sink (e.ensures.printed.put.cause (e.ensures.printed.failed is_fault)))
