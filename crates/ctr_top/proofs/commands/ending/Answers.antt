use Rattle.std.proofs.Common.{◌≡◌, ◌++◌, of_z, rules, subst, to_z}
use Rattle.std.specs.Int.{w128}
use Rattle.std.proofs.lemmas.Int.{to_z-of_z}
use Rattle.ctr_model.specs.declared.tape.Report.{Report}
use Rattle.ctr_model.specs.Texts.{last_line}
use Rattle.ctr_print.specs.Prints.{PutsOn}
use Rattle.ctr_top.specs.Endings.{status_of, cause_of}
use Rattle.ctr_top.specs.Top.{report_of, shown_tape}
use Rattle.ctr_top.proofs.commands.ending.Goals as goal

pub returns-clause-printed : goal.returns-clause-printed
returns-clause-printed g c =
    let o = c.args.outcome in
    let es = o.left.tape.entries in
    let made : Report = record { commits = c.count_answers.result; refused = c.count_refusals.result; undo_turns = o.left.undone; rows = o.left.totals.rows; sum = to_z w128 (of_z w128 o.left.totals.sum) } in
    let sum : to_z w128 (of_z w128 o.left.totals.sum) ≡ o.left.totals.sum = to_z-of_z w128 o.left.totals.sum (search rules) in
    let is : made ≡ report_of o.left = λ i. record { commits = c.count_answers.ensures i; refused = c.count_refusals.ensures i; undo_turns = o.left.undone; rows = o.left.totals.rows; sum = sum i } in
    let text : shown_tape c.args.command.now es ++ last_line c.args.command.now c.status-status.result c.cause-cause.result es made ≡ shown_tape c.args.command.now es ++ last_line c.args.command.now (status_of o.ending) (cause_of o.ending) es (report_of o.left) =
    λ i. shown_tape c.args.command.now es ++ last_line c.args.command.now (c.status-status.ensures i) (c.cause-cause.ensures i) es (is i) in
    record {
      done = c.put_text-fine.result;
      put = subst (λ t. PutsOn g.K.Sink c.args.sink.now t c.put_text-fine.new.sink c.put_text-fine.result) text c.put_text-fine.ensures;
      fine = c.after_put.ensures.fine;
      failed = c.after_put.ensures.failed;
    }
