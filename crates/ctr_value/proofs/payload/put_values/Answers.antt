use Rattle.std.proofs.Common.{arith, get_or}
use Rattle.std.proofs.lemmas.List.{get_or_default}
use Rattle.ctr_value.proofs.PayloadLaws.{as_many}
use Rattle.ctr_value.proofs.PayloadLoops.{put_step}
use Rattle.ctr_value.proofs.payload.put_values.Goals as goal

pub loop-i-preserved : goal.loop-i-preserved
loop-i-preserved c =
    let cs = c.args.columns.now in
    let vs = c.args.values.now in
    let many = as_many cs vs c.requires.values in
    let i = c.loop-i.i in
    let lt = c.loop-i-test.true in
    let column = get_or cs i c.index-columns-i.result in
    put_step cs vs c.loop-i.into c.put_value.new.into i c.loop-i.at c.field_width.result column c.index-values-i.result lt (omega arith)
    (get_or_default cs i c.index-columns-i.result column lt) c.index-values-i.is c.field_width.ensures.value c.loop-i.invariant c.put_value.ensures
