use Rattle.ctr_machine.proofs.Numbers.{comes-number}
use Rattle.ctr_machine.proofs.follow.+is_legal.Goals as goal

pub pass-requires-clause-finished : goal.pass-requires-clause-finished
pass-requires-clause-finished t c s is =
    comes-number c.args.lines.now c.args.point.now c.in-Some.first.now c.number_of-number.ensures.fits (c.in_ok-comes.ensures.0 c.if-not-branch.false) s is
