use Rattle.std.proofs.Common.{◌<◌, ◌+◌, cond, Some, sym, ◌∙◌, ap, arith}
use Rattle.ctr_bytes.specs.Fields.{field}
use Rattle.ctr_model.specs.Refusals.{kind_of}
use Rattle.ctr_asking.specs.Values.{columns_behind}
use Rattle.ctr_asking.proofs.Behind.{column_at, columns_more}
use Rattle.ctr_asking.proofs.columns.kind_of.Goals as goal

pub returns-then-is_named : goal.returns-then-is_named
returns-then-is_named c =
    let bytes = c.args.entry.now.bytes in
    let name = c.args.name.now in
    let i = c.loop-i.i in
    let less : i < field 1 34 bytes = omega (arith, c.loop-i-test.true, c.count-count.ensures) in
    ap (λ k. Some k) c.kind.ensures
    ∙ ap (λ b. cond b (Some (column_at i bytes).kind) (kind_of name (columns_behind (i + 1) bytes))) c.if-is_named.ensures
    ∙ ap (kind_of name) (sym (columns_more i bytes less))
    ∙ c.loop-i.invariant

pub loop-i-preserved : goal.loop-i-preserved
loop-i-preserved c =
    let bytes = c.args.entry.now.bytes in
    let name = c.args.name.now in
    let i = c.loop-i.i in
    let less : i < field 1 34 bytes = omega (arith, c.loop-i-test.true, c.count-count.ensures) in
    ap (λ b. cond b (Some (column_at i bytes).kind) (kind_of name (columns_behind (i + 1) bytes))) c.if-is_named.ensures
    ∙ ap (kind_of name) (sym (columns_more i bytes less))
    ∙ c.loop-i.invariant
