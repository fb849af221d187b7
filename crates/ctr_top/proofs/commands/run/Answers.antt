use Rattle.std.proofs.Common.{◌≡◌, ◌∙◌, Some, false, refl, sym, ap, subst}
use Rattle.ctr_types.specs.Faults.{CountsFault}
use Rattle.ctr_model.specs.declared.tape.Command.TheVariants as command
use Rattle.ctr_load.specs.Generated.{generated}
use Rattle.ctr_top.specs.Top.{command_told, work_of}
use Rattle.ctr_top.proofs.CompleteLemmas.{complete_put}
use Rattle.ctr_top.proofs.EndLemmas.{prints, prints_load}
use Rattle.ctr_top.proofs.LoadLemmas.{loads_either}
use Rattle.ctr_top.proofs.commands.run.Goals as goal

-- ---- a load on threads

pub returns-in-Ok-Load-default-true-default-default-default-default-clause-printed : goal.returns-in-Ok-Load-default-true-default-default-default-default-clause-printed
returns-in-Ok-Load-default-true-default-default-default-default-clause-printed g c =
    let e = c.ending-in-Ok-Load-default-true-default-default-default-default.ensures in
    prints_load g.K.Sink c.args.sink.now c.ending-in-Ok-Load-default-true-default-default-default-default.new.sink c.ending-in-Ok-Load-default-true-default-default-default-default.result c.load_on_threads-statements.result.1 e.outcome e.report _ _ _ c.load_on_threads-statements.ensures.statements _
    (sym (ap (λ a. command_told a c.ending-in-Ok-Load-default-true-default-default-default-default.result.survey) (c.in-Ok-Load-default-true-default-default-default-default.ensures.asked ∙ ap Some c.in-Ok-Load-default-true-default-default-default-default.field-0-is))) e.printed

-- ---- a run on threads

pub returns-in-Ok-Run-default-true-default-clause-printed : goal.returns-in-Ok-Run-default-true-default-clause-printed
returns-in-Ok-Run-default-true-default-clause-printed g c =
    let e = c.ending.ensures in
    prints g.K.Sink c.args.sink.now c.ending.new.sink c.ending.result c.run_script_on_threads-outcome.result e.outcome e.report command.Run _
    (sym (ap (λ a. command_told a c.ending.result.survey) (c.in-Ok-Run-default-true-default.ensures.asked ∙ ap Some c.in-Ok-Run-default-true-default.field-0-is))) e.printed

pub returns-in-Ok-Run-default-true-default-clause-complete : goal.returns-in-Ok-Run-default-true-default-clause-complete
returns-in-Ok-Run-default-true-default-clause-complete g c = λ frames threads keys is told source_told ls script base stands passes none.
    let d = g.D.Disk in
    let r = c.run_script_on_threads-outcome in
    let e = c.ending in
    complete_put c.one_script.ensures.never_both d c.args.disk g.S.Source c.args.source.now r.new.source r.result r.ensures.causes told source_told ls script base stands passes
    (λ rose. none.no_disk (subst (λ o. CountsFault (d.faults_of c.args.disk) (d.faults_of o.left.disk)) (sym e.ensures.outcome) rose)) none.no_source e.result e.ensures.outcome
    (λ is_fault. none.no_sink (e.ensures.printed.put.cause (e.ensures.printed.failed is_fault)))

-- ---- the rest, in serial order

pub returns-in_default-clause-serial : goal.returns-in_default-clause-serial
returns-in_default-clause-serial g c = λ frames keys is told lines written. c.run_serial.ensures.serial frames false keys is told lines written

pub returns-in_default-clause-loaded : goal.returns-in_default-clause-loaded
returns-in_default-clause-loaded g c = λ frames threads keys sessions count seed is.
    loads_either g.D.Disk c.args.disk (generated sessions count seed) threads (work_of c.run_serial.result) (c.run_serial.ensures.loaded frames threads keys sessions count seed is)
