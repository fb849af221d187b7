use Rattle.std.proofs.Common.{◌≡◌, ◌+◌, ◌≤◌, ℕ, List, ◌++◌, length}
use Rattle.ctr_log.specs.Logs.{frames}
use Rattle.ctr_log.specs.Reading.{AreFrames}
use Rattle.ctr_log.proofs.DamageLaws.{FramesLeft}
use Rattle.ctr_log.proofs.batches.count_frames.Given as goal

-- so many frames stand before the rest and pass their checks, and frames leave frames
abbrev pub invariant-loop-rest : goal.invariant-loop-rest
invariant-loop-rest l = record {
  done : (rs : List (List ℕ)) × (l.bytes ≡ frames rs ++ l.rest) × (l.count ≡ length rs);
  left : AreFrames l.bytes → AreFrames l.rest;
  few : l.count + length l.rest ≤ length l.bytes;
  checks : FramesLeft l.file l.at l.bytes l.rest l.count;
}

abbrev pub decreases-loop-rest : goal.decreases-loop-rest
decreases-loop-rest l = length l.rest
