use Rattle.std.proofs.Common.{◌<◌, ◌≤◌, ◌-◌, ℕ, length, get_or}
use Rattle.ctr_pool.proofs.finding.find.Given as goal

abbrev pub invariant-loop-low : goal.invariant-loop-low
invariant-loop-low l = record {
  between : l.low ≤ l.high;
  inside : l.high ≤ length l.entries;
  below : (k : ℕ) (d : ℕ × ℕ) → k < l.low → (get_or l.entries k d).0 < l.page;
  above : (k : ℕ) (d : ℕ × ℕ) → l.high ≤ k → k < length l.entries → l.page < (get_or l.entries k d).0;
}

abbrev pub decreases-loop-low : goal.decreases-loop-low
decreases-loop-low l = l.high - l.low
