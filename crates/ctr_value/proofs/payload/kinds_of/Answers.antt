use Rattle.std.proofs.Common.{◌∙◌, get_or, arith}
use Rattle.std.proofs.lemmas.List.{get_or_default, length-set}
use Rattle.ctr_value.proofs.PayloadLoops.{kinds_more}
use Rattle.ctr_value.proofs.payload.kinds_of.Goals as goal

pub loop-i-preserved : goal.loop-i-preserved
loop-i-preserved c =
    let cs = c.args.columns.now in
    let i = c.loop-i.i in
    let lt = c.loop-i-test.true in
    let column = get_or cs i c.index-columns-i.result in
    record {
      so_far = kinds_more cs c.loop-i.kinds i column lt (omega (arith, lt, c.requires, c.loop-i.invariant.room)) (get_or_default cs i c.index-columns-i.result column lt) c.loop-i.invariant.so_far;
      room = length-set c.loop-i.kinds i column.kind ∙ c.loop-i.invariant.room;
    }
