use Rattle.std.proofs.Common.{cond, Some, None, sym, ap}
use Rattle.std.proofs.lemmas.Bool.{not-false}
use Rattle.std.specs.Prelude.{◌==◌}
use Rattle.ctr_page.specs.ctr_value.Values.{row_by_kinds}
use Rattle.ctr_chain.proofs.rows.version_row.Goals as goal

-- where there is no memory, there is a row
pub returns-in-Err : goal.returns-in-Err
returns-in-Err c =
    let row = row_by_kinds c.args.kinds.now c.args.key c.args.version.now.payload in
    (row, ap (λ b. cond b (Some row) None) (not-false (c.args.version.now.tombstone == 0) (sym c.if-ne.ensures)))
