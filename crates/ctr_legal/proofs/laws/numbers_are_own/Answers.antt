use Rattle.ctr_legal.proofs.Own.{numbers_own}
use Rattle.ctr_legal.proofs.laws.numbers_are_own.Goals as goal

pub returns : goal.returns
returns c = numbers_own
