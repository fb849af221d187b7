use Rattle.ctr_area.proofs.Walked.{chain_walked}
use Rattle.ctr_area.proofs.laws.a_checked_chain_ends.Goals as goal

pub returns-clause-passes : goal.returns-clause-passes
returns-clause-passes c = λ chain counted pages last p few e. (chain_walked chain counted pages last p few e).0

pub returns-clause-ends : goal.returns-clause-ends
returns-clause-ends c = λ chain counted pages last p few e. (chain_walked chain counted pages last p few e).1
