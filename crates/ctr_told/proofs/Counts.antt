-- How many pages are counted behind a growth.
use Rattle.std.proofs.Common.{ℕ, ◌+◌, ◌<◌, ◌≤◌, arith}
use Rattle.ctr_area.specs.Chains.{pages_bound}
use Rattle.ctr_base.proofs.GrowLaws.{grown_more, grown_most}
use Rattle.ctr_redo.specs.States.{grown}

pub grown_few : (n : ℕ) → grown n ≤ pages_bound
unfolding pages_bound
grown_few n = grown_most n

pub grown_above : (n : ℕ) → n < 30000 → n ≤ grown n
grown_above n few = by (grown n) (grown_more n few)
  where
    by : (m : ℕ) → n + 1 ≤ m → n ≤ m
    by m more = omega (arith, more)
