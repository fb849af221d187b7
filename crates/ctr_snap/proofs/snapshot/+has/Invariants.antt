use Rattle.std.proofs.Common.{length}
use Rattle.ctr_snap.proofs.snapshot.+has.Given as goal

abbrev pub decreases-has : goal.decreases-has
decreases-has l = length l.xids.now
