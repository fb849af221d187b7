use Rattle.std.proofs.Common.{◌≡◌, ◌++◌, List, ℕ, length, IsTrue}
use Rattle.ctr_print.proofs.printer.put_all.Given as goal

-- what was put and what is left are all of it
abbrev pub invariant-loop-rest : goal.invariant-loop-rest
invariant-loop-rest g l = (IsTrue g.K.Sink.tells → (front : List ℕ) × (l.bytes ≡ front ++ l.rest) × (g.K.Sink.taken l.sink ≡ g.K.Sink.taken l.fn.sink ++ front)) × (g.K.Sink.faults_of l.sink ≡ g.K.Sink.faults_of l.fn.sink)

abbrev pub decreases-loop-rest : goal.decreases-loop-rest
decreases-loop-rest g l = length l.rest
