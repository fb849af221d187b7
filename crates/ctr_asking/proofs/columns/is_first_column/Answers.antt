use Rattle.std.proofs.Common.{◌<◌, sym, ◌∙◌, ap, arith}
use Rattle.ctr_bytes.specs.Fields.{field}
use Rattle.ctr_model.specs.Refusals.{is_first_column}
use Rattle.ctr_asking.proofs.Behind.{columns_more, columns_all}
use Rattle.ctr_asking.proofs.columns.is_first_column.Goals as goal

pub returns-then-count-gt0 : goal.returns-then-count-gt0
returns-then-count-gt0 c =
    let bytes = c.args.entry.now.bytes in
    let some : 0 < field 1 34 bytes = omega (arith, c.if-count-gt0.true, c.count.ensures) in
    c.is_named.ensures ∙ sym (ap (is_first_column c.args.name.now) (sym (columns_all bytes) ∙ columns_more 0 bytes some))
