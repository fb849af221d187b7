use Rattle.ctr_log.proofs.VisitLemmas.{GivenSoFar}
use Rattle.ctr_log.proofs.batches.give.Given as goal

-- the records of the frames before the rest were given
abbrev pub invariant-loop-lsn : goal.invariant-loop-lsn
invariant-loop-lsn g l = GivenSoFar g.V.Visitor.has_seen l.file l.first l.at l.count l.frames l.rest l.lsn l.fn.visitor l.visitor
