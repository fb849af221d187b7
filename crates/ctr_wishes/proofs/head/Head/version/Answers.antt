use Rattle.std.proofs.Common.{refl, arith}
use Rattle.ctr_wishes.proofs.head.Head.version.Goals as goal

pub returns-clause-fits : goal.returns-clause-fits
returns-clause-fits c = (omega (arith, c.ranges.x.fits), omega (arith, c.self.invariant), refl)
