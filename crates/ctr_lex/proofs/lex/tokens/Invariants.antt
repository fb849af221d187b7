use Rattle.std.proofs.Common.{◌≤◌, length}
use Rattle.ctr_lex.proofs.Fronts.{IsFront}
use Rattle.ctr_lex.proofs.lex.tokens.Given as goal

-- the tokens up to what is left are taken, and no more than so many
abbrev pub invariant-loop-rest : goal.invariant-loop-rest
invariant-loop-rest l = IsFront l.line l.items l.rest × (length l.items ≤ l.most)

abbrev pub decreases-loop-rest : goal.decreases-loop-rest
decreases-loop-rest l = length l.rest
