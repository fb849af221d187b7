use Rattle.std.proofs.Common.{ℕ, ◌<◌, get_or, true}
use Rattle.ctr_lex.proofs.bytes.front_len.Given as goal

abbrev pub invariant-loop-i : goal.invariant-loop-i
invariant-loop-i g l = (k : ℕ) → k < l.i → goal.P-post g l.is (get_or l.bytes k 0) true
