use Rattle.std.proofs.Common.{◌∙◌}
use Rattle.ctr_totals.proofs.Titled.{three_columns}
use Rattle.ctr_totals.proofs.columns.are_columns.Goals as goal

pub returns-then-count-ne3 : goal.returns-then-count-ne3
returns-then-count-ne3 c = λ is. c.if-count-ne3.true (c.count.ensures ∙ three_columns _ c.args.entry.now.bytes is)
