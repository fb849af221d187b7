use Rattle.std.proofs.Common.{length}
use Rattle.ctr_directory.proofs.bucket.+same_kinds.Given as goal

abbrev pub decreases-same_kinds : goal.decreases-same_kinds
decreases-same_kinds l = length l.a.now
