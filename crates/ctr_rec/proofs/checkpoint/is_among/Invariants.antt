use Rattle.std.proofs.Common.{◌≡◌, false}
use Rattle.ctr_rec.specs.Checkpoint.{is_among}
use Rattle.ctr_rec.proofs.checkpoint.is_among.Given as goal

abbrev pub invariant-loop-i : goal.invariant-loop-i
invariant-loop-i l = is_among l.opens l.bytes l.x l.i ≡ false
