use Rattle.std.proofs.Common.{◌+◌, ◌≤◌, length}
use Rattle.ctr_script.proofs.LineLemmas.{ReadsTo}
use Rattle.ctr_script.proofs.script.script_of.Given as goal

-- the lines in front of what is left are read
abbrev pub invariant-loop-rest : goal.invariant-loop-rest
invariant-loop-rest l = ReadsTo l.bytes l.rest l.lines l.number × (l.number + length l.rest ≤ length l.bytes + 1)

abbrev pub decreases-loop-rest : goal.decreases-loop-rest
decreases-loop-rest l = length l.rest
