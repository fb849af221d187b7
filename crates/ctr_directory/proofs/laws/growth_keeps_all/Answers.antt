use Rattle.ctr_directory.proofs.Growing.{exact_more}
use Rattle.ctr_directory.proofs.laws.growth_keeps_all.Goals as goal

pub returns : goal.returns
returns c = λ counted more pages d le exact. exact_more counted more le pages d exact
