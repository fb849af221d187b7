use Rattle.std.proofs.Common.{length}
use Rattle.ctr_machine.proofs.refusals.+first_busy.Given as goal

abbrev pub decreases-first_busy : goal.decreases-first_busy
decreases-first_busy l = length l.entries.now
