use Rattle.std.proofs.Common.{length}
use Rattle.ctr_machine.proofs.refusals.+first_locking.Given as goal

abbrev pub decreases-first_locking : goal.decreases-first_locking
decreases-first_locking l = length l.entries.now
