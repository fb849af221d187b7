use Rattle.std.proofs.Common.{◌≡◌, ◌<◌, ◌≤◌, ℕ, true, get_or}
use Rattle.ctr_pool.specs.declared.frame.Frame.{Frame}
use Rattle.ctr_pool.specs.Frames.{is_dirty}
use Rattle.ctr_pool.proofs.frames.Frames.clean_from.Given as goal

abbrev pub invariant-loop-rank : goal.invariant-loop-rank
invariant-loop-rank l = (k : ℕ) (d : Frame) → l.from ≤ k → k < l.rank → is_dirty (get_or l.self-inside.items.items (get_or l.self-inside.places.entries k (0, 0)).1 d) ≡ true
