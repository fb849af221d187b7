use Rattle.std.proofs.Common.{◌+◌, arith}
use Rattle.ctr_page.proofs.Passing.{from_1_holds}
use Rattle.ctr_page.proofs.checks.check_used_entry.Goals as goal

pub overflow_sub-get_u8 : goal.overflow_sub-get_u8
overflow_sub-get_u8 c =
    let number = from_1_holds 8 (c.args.start + 34) c.args.page.now c.in_ok-check_from_1-2.ensures in
    omega (arith, c.get_u8-2.ensures.got, number.0)

pub check_columns-requires : goal.check_columns-requires
check_columns-requires c =
    let number = from_1_holds 8 (c.args.start + 34) c.args.page.now c.in_ok-check_from_1-2.ensures in
    omega (arith, c.get_u8-2.ensures.got, number.0, number.1, c.requires.inside)
