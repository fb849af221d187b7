use Rattle.ctr_legal.proofs.Reached.{waiting_answered}
use Rattle.ctr_legal.proofs.laws.waiting_are_answered.Goals as goal

pub returns : goal.returns
returns c = waiting_answered
