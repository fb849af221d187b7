use Rattle.std.proofs.Common.{arith, length, sym}
use Rattle.ctr_rec.proofs.Reading.{expect_ok, wanted-flag}
use Rattle.ctr_rec.proofs.fields.check.Goals as goal

pub check_bound-requires : goal.check_bound-requires
check_bound-requires c =
    let whole = expect_ok 0 c.wanted.result (length c.args.bytes.now) (sym c.in_ok-expect.ensures) in
    omega (arith, wanted-flag c.args.layout.now c.args.bytes.now, c.wanted.ensures, whole)

pub check_bound-requires-2 : goal.check_bound-requires-2
check_bound-requires-2 c =
    let whole = expect_ok 0 c.wanted.result (length c.args.bytes.now) (sym c.in_ok-expect.ensures) in
    omega (arith, c.width.ensures, wanted-flag c.args.layout.now c.args.bytes.now, c.wanted.ensures, whole)
