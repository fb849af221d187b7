use Rattle.std.proofs.Common.{◌≡◌, ◌-◌, ◌≤◌, ◌++◌, IsTrue, vec_len}
use Rattle.ctr_script.proofs.bytes.read_bytes.Given as goal

-- what was taken and what is left are all of it
abbrev pub invariant-loop-source : goal.invariant-loop-source
invariant-loop-source g l =
    (IsTrue g.S.Source.tells → g.S.Source.left l.fn.source ≡ l.bytes.items ++ g.S.Source.left l.source) × (vec_len l.bytes ≤ 16777217) × (vec_len l.piece ≡ 65536) × (g.S.Source.faults_of l.source ≡ g.S.Source.faults_of l.fn.source)

abbrev pub decreases-loop-source : goal.decreases-loop-source
decreases-loop-source g l = 16777217 - vec_len l.bytes
