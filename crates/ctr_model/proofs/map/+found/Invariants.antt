use Rattle.std.proofs.Common.{length}
use Rattle.ctr_model.proofs.map.+found.Given as goal

abbrev pub decreases-found : goal.decreases-found
decreases-found g l = length l.entries.now
