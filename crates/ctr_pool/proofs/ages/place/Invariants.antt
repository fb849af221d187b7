use Rattle.std.proofs.Common.{◌<◌, ◌≤◌, ℕ, length, get_or}
use Rattle.ctr_pool.proofs.ages.place.Given as goal

abbrev pub invariant-loop-at : goal.invariant-loop-at
invariant-loop-at l = record {
  inside : l.at ≤ length l.entries;
  above : (k : ℕ) (d : ℕ × ℕ) → l.at ≤ k → k < length l.entries → l.since ≤ (get_or l.entries k d).1;
}

abbrev pub decreases-loop-at : goal.decreases-loop-at
decreases-loop-at l = l.at
