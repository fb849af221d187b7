use Rattle.std.proofs.Common.{ℕ, ◌<◌, get_or}
use Rattle.ctr_model.specs.Lines.{IsPlain}
use Rattle.ctr_script.proofs.line.unplain.Given as goal

abbrev pub invariant-loop-i : goal.invariant-loop-i
invariant-loop-i l = (k : ℕ) → k < l.i → IsPlain (get_or l.line k 0)
