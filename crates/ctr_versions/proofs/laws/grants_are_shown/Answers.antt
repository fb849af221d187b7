use Rattle.ctr_versions.proofs.Reading.{grants_shown}
use Rattle.ctr_versions.proofs.laws.grants_are_shown.Goals as goal

pub returns : goal.returns
returns c = grants_shown
