use Rattle.std.proofs.Common.{sym}
use Rattle.std.proofs.lemmas.Result.{err_from_is_err_and}
use Rattle.ctr_rec.proofs.ListLaws.{goes_on, ends, all_done}
use Rattle.ctr_rec.proofs.checkpoint.check_each.Goals as goal

pub returns-in_err-check : goal.returns-in_err-check
returns-in_err-check g c =
    let p = err_from_is_err_and c.from_residual.result c.from_residual.ensures.1 in
    rw (p.1, p.2) (ends (g.C.Check.meant c.args.from c.args.bytes.now) c.loop-i.i c.args.count c.in_err-check.field-0.0 c.loop-i-test.true (sym c.in_err-check.ensures) c.loop-i.invariant)

pub loop-i-preserved : goal.loop-i-preserved
loop-i-preserved g c = goes_on (g.C.Check.meant c.args.from c.args.bytes.now) c.loop-i.i c.args.count c.loop-i-test.true (sym c.in_ok-check.ensures) c.loop-i.invariant

pub returns : goal.returns
returns g c = all_done (g.C.Check.meant c.args.from c.args.bytes.now) c.loop-i.i c.args.count c.loop-i-test.false c.loop-i.invariant
