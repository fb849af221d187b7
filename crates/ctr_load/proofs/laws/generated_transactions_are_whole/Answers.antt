use Rattle.ctr_load.proofs.Wholes.{transactions_are_whole}
use Rattle.ctr_load.proofs.laws.generated_transactions_are_whole.Goals as goal

pub returns : goal.returns
returns c = transactions_are_whole
