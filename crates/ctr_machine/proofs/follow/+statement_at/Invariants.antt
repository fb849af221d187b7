use Rattle.std.proofs.Common.{length}
use Rattle.ctr_machine.proofs.follow.+statement_at.Given as goal

abbrev pub decreases-statement_at : goal.decreases-statement_at
decreases-statement_at l = length l.lines.now
