use Rattle.std.proofs.Common.{arith}
use Rattle.ctr_cursor.proofs.Advances.{none_behind}
use Rattle.ctr_cursor.proofs.advancing.aborted_behind.Goals as goal

pub returns-in-None : goal.returns-in-None
returns-in-None c = none_behind c.args.meta.now.tables c.args.nth c.next-next.ensures.xids (omega (arith, c.in-None.ensures, c.next-next.ensures.next))
